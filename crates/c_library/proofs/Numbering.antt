-- The kind with a number is the only one with that number, and what comes of a job for it. Assumes nothing.
use Rattle.std.proofs.Common.{◌≡◌, ℕ, ◌+◌, ◌<◌, ◌≤◌, Bool, true, false, cond, List, length, vec_items, vec_len, sym, refl, ap, ◌∙◌, ap₂, inl, arith}
use Rattle.std.proofs.lemmas.Bool.{eq-eqb, and_from}
use Rattle.refusal.specs.Reports.{Answer, accepted}
use Rattle.records.specs.Calls.{bytes_of_both}
use Rattle.records.specs.Verdicts.{wrong_bytes}
use Rattle.evaluation.specs.Evaluations.{Input, Output, output_of}
use Rattle.evaluation.specs.Kinds.{base_number, kind_number, base_width, evaluated_as}
use Rattle.evaluation.specs.Sizes.{Sized}
use Rattle.evaluation.specs.declared.jobs.Evaluated.{Evaluated}
use Rattle.evaluation.specs.declared.kinds.BaseKind.{BaseKind}
use Rattle.evaluation.specs.declared.kinds.BaseKind.TheVariants.{Presence, Level, Classes}
use Rattle.evaluation.specs.declared.kinds.KindName.{KindName}
use Rattle.c_library.specs.Filtering.{Filters, filtered, delivered, filter_call, kind_call}
use Rattle.c_library.specs.Responses.{response, no_refusal}

base_few : (base : BaseKind) → base_number base < 3
base_few Presence = omega arith
base_few Level = omega arith
base_few Classes = omega arith

same_base : (a b : BaseKind) → base_number a ≡ base_number b → a ≡ b
same_base Presence Presence is = refl
same_base Presence Level is = absurd (omega arith)
same_base Presence Classes is = absurd (omega arith)
same_base Level Presence is = absurd (omega arith)
same_base Level Level is = refl
same_base Level Classes is = absurd (omega arith)
same_base Classes Presence is = absurd (omega arith)
same_base Classes Level is = absurd (omega arith)
same_base Classes Classes is = refl

same_parts : (a b : BaseKind) (p q : Bool) → base_number a + cond p 3 0 ≡ base_number b + cond q 3 0 → (a ≡ b) × (p ≡ q)
same_parts a b true true is = (same_base a b (omega arith), refl)
same_parts a b true false is = absurd (omega (arith, base_few b))
same_parts a b false true is = absurd (omega (arith, base_few a))
same_parts a b false false is = (same_base a b (omega arith), refl)

same_kind : (a b : KindName) → kind_number a ≡ kind_number b → a ≡ b
same_kind a b is =
    let parts = same_parts a.base b.base a.reversed b.reversed is in
    ap₂ (λ (base : BaseKind) (reversed : Bool). let kind : KindName = record { base = base; reversed = reversed } in kind) parts.0 parts.1

few_parts : (base : BaseKind) (reversed : Bool) → base_number base + cond reversed 3 0 ≤ 5
few_parts base true = omega (arith, base_few base)
few_parts base false = omega (arith, base_few base)

-- the records of an accepted job fill buffers that are as long
pub delivers : (kind : ℕ) (i : Input) (vs es vs' es' : List ℕ) (k : KindName) (e : Evaluated) → kind_number k ≡ kind
    → evaluated_as k.base k.reversed i ≡ accepted (output_of e) → Sized (base_width k.base) e
    → length vs ≡ vec_len e.vertex_records → length es ≡ vec_len e.edge_records
    → vs' ≡ vec_items e.vertex_records → es' ≡ vec_items e.edge_records
    → Filters kind i (bytes_of_both vs es) (filtered (response 0 no_refusal) (bytes_of_both vs' es'))
delivers kind i vs es vs' es' k e number is sized long_vs long_es new_vs new_es =
    let old = bytes_of_both vs es in
    let o = output_of e in
    let fits = and_from _ _ (eq-eqb _ _ (long_vs ∙ sized.vertices)) (eq-eqb _ _ (long_es ∙ sized.edges)) in
    let call : kind_call k i old ≡ filtered (response 0 no_refusal) o.records =
    ap (λ (a : Answer Output). filter_call (base_width k.base) a old) is ∙ ap (λ b. delivered (cond b (accepted tt) wrong_bytes) o old) fits in record {
      numbered = λ k₂ same.
          inl (ap₂ (λ x y. filtered (response 0 no_refusal) (bytes_of_both x y)) new_vs new_es ∙ sym (ap (λ (x : KindName). kind_call x i old) (same_kind k₂ k (same ∙ sym number)) ∙ call));
      no_number = λ many. absurd (omega (arith, few_parts k.base k.reversed));
    }
