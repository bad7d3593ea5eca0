-- The first refusal among verdicts, found one after the other. Assumes nothing.
use Rattle.std.proofs.Common.{◌≡◌, ℕ, zero, suc, ◌+◌, ◌-◌, ◌<◌, Bool, ◌⊎◌, List, length, get_or, sym, refl, ap, ◌∙◌, inl, inr, suc-add, zero-add, add-one, arith, below_more}
use Rattle.refusal.specs.Reports.{accepted, refused, Verdict}
use Rattle.refusal.specs.declared.Part.{Part}
use Rattle.graph.specs.Verdicts.{then}
use Rattle.graph.specs.declared.edges.Edge.{Edge}
use Rattle.std.proofs.lemmas.List.{get_or_default}
use Rattle.records.specs.Formats.{Format, record_at, value_at}
use Rattle.records.specs.Verdicts.{first_refusal, value_verdict, vertex_verdict, ends_verdict, edge_verdict, edge_at}

module _ (verdict : ℕ → Verdict) where
  -- one record more
  pub verdict_more : (i : ℕ) → first_refusal verdict i ≡ accepted tt → first_refusal verdict (i + 1) ≡ verdict i
  verdict_more i before = rw add-one (ap (λ v. then v (verdict i)) before)

  -- what is refused stays so, whatever comes after
  refused_stays : (i count number place : ℕ) (p : Part) → first_refusal verdict i ≡ refused number place p → first_refusal verdict (count + i) ≡ refused number place p
  refused_stays i zero number place p h = rw zero-add h
  refused_stays i (suc count) number place p h = rw suc-add (ap (λ v. then v (verdict (count + i))) (refused_stays i count number place p h))

  -- the first record that is refused
  pub refused_at : (i n number place : ℕ) (p : Part) → first_refusal verdict i ≡ accepted tt → i < n → verdict i ≡ refused number place p → first_refusal verdict n ≡ refused number place p
  refused_at i n number place p before below here =
      let same : (n - (i + 1)) + (i + 1) ≡ n = omega arith in
      sym (ap (first_refusal verdict) same) ∙ refused_stays (i + 1) (n - (i + 1)) number place p (verdict_more i before ∙ here)

  -- where each record is accepted, all are
  pub all_accepted : (n : ℕ) → ((i : ℕ) → i < n → verdict i ≡ accepted tt) → first_refusal verdict n ≡ accepted tt
  all_accepted zero each = refl
  all_accepted (suc n) each =
      ap (λ v. then v (verdict n)) (all_accepted n (λ i below. each i (omega arith))) ∙ each n (omega arith)

-- each record is accepted, or there is a first that is refused
pub data Settled (verdict : ℕ → Verdict) (n : ℕ) : Type 0 where
  none_refused : ((i : ℕ) → i < n → verdict i ≡ accepted tt) → Settled verdict n
  first_refused : (i number place : ℕ) (p : Part) → i < n → ((k : ℕ) → k < i → verdict k ≡ accepted tt) → verdict i ≡ refused number place p → Settled verdict n

module _ (verdict : ℕ → Verdict) where
  here : (v : Verdict) → (v ≡ accepted tt) ⊎ ((number : ℕ) × (place : ℕ) × (p : Part) × (v ≡ refused number place p))
  here (accepted u) = inl refl
  here (refused number place p) = inr (number, place, p, refl)

  pub settled : (n : ℕ) → Settled verdict n
  settled zero = none_refused (λ i below. absurd (omega arith))
  settled (suc n) =
      elim (settled n) [
        | first_refused i number place p below before refuses ↦ first_refused i number place p (omega arith) before refuses
        | none_refused each ↦ elim (here (verdict n)) [
          | inl accepts ↦ none_refused (rw add-one at (below_more (λ i. verdict i ≡ accepted tt) n each accepts))
          | inr refuses ↦ first_refused n refuses.0 refuses.1 refuses.2 (omega arith) each refuses.3
        ]
      ]

-- the verdict on the bytes of vertex record i
pub vertex_is : {K : Type 0} (f : Format K) (bytes : List ℕ) (i place : ℕ) (record_bytes : List ℕ) → place ≡ i → record_bytes ≡ record_at f.width bytes i → value_verdict place (f.parsed record_bytes) ≡ vertex_verdict f bytes i
vertex_is f bytes i place record_bytes at is = ap (λ p. value_verdict p (f.parsed record_bytes)) at ∙ ap (λ b. value_verdict i (f.parsed b)) is

-- the verdict on the bytes of edge record k
pub edge_is : {K : Type 0} (leq : K → K → Bool) (f : Format K) (n : ℕ) (table : List Edge) (vertices bytes : List ℕ) (k place : ℕ) (e : Edge) (record_bytes : List ℕ) → k < length table → place ≡ k → e ≡ get_or table k e → record_bytes ≡ record_at f.width bytes k
    → ends_verdict leq n place (value_at f vertices e.first) (value_at f vertices e.second) (f.parsed record_bytes) ≡ edge_verdict leq f n vertices bytes k (edge_at table k)
edge_is {K = K} leq f n table vertices bytes k place e record_bytes below at edge is =
    let verdict : ℕ → Edge → List ℕ → Verdict = λ p d b. ends_verdict leq n p (value_at f vertices d.first) (value_at f vertices d.second) (f.parsed b) in
    ap (λ p. verdict p e record_bytes) at
    ∙ ap (λ d. verdict k d record_bytes) (edge ∙ get_or_default table k e _ below)
    ∙ ap (λ b. verdict k (edge_at table k) b) is
