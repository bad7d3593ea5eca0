-- Judging record by record stops at the first record that breaks a rule, by the first rule that it breaks. Assumes nothing.
use Rattle.std.proofs.Common.{◌≡◌, ℕ, zero, suc, ◌<◌, ◌≤◌, true, false, List, length, get_or, drop, Some, None, Option, sym, refl, ap, ◌∙◌, inl, inr, add-one, arith, below_more}
use Rattle.std.proofs.lemmas.List.{get_or_default, drop_all}
use Rattle.std.proofs.lemmas.Bool.{cases_Bool}
use Rattle.std.proofs.lemmas.Bool.Decides.{leb_tells}
use Rattle.refusal.specs.Reports.{accepted, refused, Verdict}
use Rattle.refusal.specs.declared.Part.TheVariants as part
use Rattle.graph.specs.Rules.{Rule, ends_rise, end_in_range, above_last, number, Keeps, Faulty}
use Rattle.graph.specs.Verdicts.{above, record_verdict, records_verdict}
use Rattle.graph.specs.declared.edges.Edge.{Edge}
use Rattle.graph.proofs.Loops.{records_more}

abbrev blank : Edge
blank = record { first = 0; second = 0 }

-- the record before record k
abbrev previous : List Edge → ℕ → Option Edge
previous es zero = None
previous es (suc i) = Some (get_or es i blank)

keeps_above : (n : ℕ) (es : List Edge) (k : ℕ) → k < length es → above (previous es k) (get_or es k blank) ≡ true → Keeps n es k above_last
keeps_above n es zero l h i d e = absurd (omega arith)
keeps_above n es (suc j) l h i d e =
    let same : i ≡ j = omega arith in
    let lower : j < length es = omega arith in
    rw (same, get_or_default es j d blank lower, get_or_default es (suc j) d blank l) h

breaks_above : (n : ℕ) (es : List Edge) (k : ℕ) → above (previous es k) (get_or es k blank) ≡ false → Keeps n es k above_last → ⊥
breaks_above n es zero h keeps = let z : ◌≡◌ {A = ℕ} 0 1 = cc in omega arith
breaks_above n es (suc j) h keeps =
    let t = keeps j blank (add-one j) in
    let z : ◌≡◌ {A = ℕ} 0 1 = cc in
    omega arith

-- what record k keeps or breaks, with what is answered to it
data Outcome (n : ℕ) (es : List Edge) (k : ℕ) (a : Verdict) : Type 0 where
  keeping : ((r : Rule) → Keeps n es k r) → a ≡ accepted tt → Outcome n es k a
  breaking : (rule : Rule) → ((r : Rule) → number r < number rule → Keeps n es k r) → (Keeps n es k rule → ⊥) → a ≡ refused (number rule) k part.Graph → Outcome n es k a

every : (n : ℕ) (es : List Edge) (k : ℕ) → Keeps n es k ends_rise → Keeps n es k end_in_range → Keeps n es k above_last → (r : Rule) → Keeps n es k r
every n es k p q s ends_rise = p
every n es k p q s end_in_range = q
every n es k p q s above_last = s

none_before : (n : ℕ) (es : List Edge) (k : ℕ) (r : Rule) → number r < 4 → Keeps n es k r
none_before n es k ends_rise l = absurd (omega arith)
none_before n es k end_in_range l = absurd (omega arith)
none_before n es k above_last l = absurd (omega arith)

one_before : (n : ℕ) (es : List Edge) (k : ℕ) → Keeps n es k ends_rise → (r : Rule) → number r < 5 → Keeps n es k r
one_before n es k p ends_rise l = p
one_before n es k p end_in_range l = absurd (omega arith)
one_before n es k p above_last l = absurd (omega arith)

two_before : (n : ℕ) (es : List Edge) (k : ℕ) → Keeps n es k ends_rise → Keeps n es k end_in_range → (r : Rule) → number r < 6 → Keeps n es k r
two_before n es k p q ends_rise l = p
two_before n es k p q end_in_range l = q
two_before n es k p q above_last l = absurd (omega arith)

outcome : (n : ℕ) (es : List Edge) (k : ℕ) → k < length es → Outcome n es k (record_verdict n k (previous es k) (get_or es k blank))
outcome n es k l =
    let e = get_or es k blank in
    elim (leb_tells e.second e.first) [
      | inl t ↦ breaking ends_rise (none_before n es k) (λ keeps. let h = keeps blank in omega (arith, t.1)) (rw t.0)
      | inr t ↦
          let rise : Keeps n es k ends_rise = λ d. rw (get_or_default es k d blank l) t.1 in
          elim (leb_tells n e.second) [
            | inl u ↦ breaking end_in_range (one_before n es k rise) (λ keeps. let h = keeps blank in omega (arith, u.1)) (rw (t.0, u.0))
            | inr u ↦
                let range : Keeps n es k end_in_range = λ d. rw (get_or_default es k d blank l) u.1 in
                elim (cases_Bool (above (previous es k) e)) [
                  | inl v ↦ keeping (every n es k rise range (keeps_above n es k l v)) (rw (t.0, u.0, v))
                  | inr v ↦ breaking above_last (two_before n es k rise range) (breaks_above n es k v) (rw (t.0, u.0, v))
                ]
          ]
    ]

-- what the first m records keep or break, with what is answered to all of them
data Settled (n : ℕ) (es : List Edge) (m : ℕ) (rest : Verdict) (a : Verdict) : Type 0 where
  clear : ((i : ℕ) (r : Rule) → i < m → Keeps n es i r) → rest ≡ a → Settled n es m rest a
  faulty : (k : ℕ) (rule : Rule) → Faulty n es k rule → a ≡ refused (number rule) k part.Graph → Settled n es m rest a

abbrev rest : ℕ → List Edge → ℕ → Verdict
rest n es m = records_verdict n m (previous es m) (drop m es)

below_suc : (n : ℕ) (es : List Edge) (m : ℕ) → ((i : ℕ) (r : Rule) → i < m → Keeps n es i r) → ((r : Rule) → Keeps n es m r) → (i : ℕ) (r : Rule) → i < suc m → Keeps n es i r
below_suc n es m lower here i r l = below_more (λ j. (s : Rule) → Keeps n es j s) m (λ j low s. lower j s low) here i (omega arith) r

settle : (n : ℕ) (es : List Edge) (m : ℕ) → m ≤ length es → Settled n es m (rest n es m) (records_verdict n 0 None es)
settle n es zero l = clear (λ i r low. absurd (omega arith)) refl
settle n es (suc m) l =
    let whole = records_verdict n 0 None es in
    let e = get_or es m blank in
    let in_es : m < length es = omega arith in
    elim (settle n es m (omega arith)) [
      | faulty k rule fault said ↦ faulty k rule fault said
      | clear lower said ↦
          elim (outcome n es m in_es) [
            | keeping here ok ↦
                let next = records_more n m (previous es m) es e (accepted tt) whole in_es (get_or_default es m blank e in_es) (sym ok) said in
                clear (below_suc n es m lower here) (rw add-one at next)
            | breaking rule earlier broken err ↦
                let fault : Faulty n es m rule = record { present = in_es; records_before = lower; rules_before = earlier; broken = broken } in
                let next = records_more n m (previous es m) es e (refused (number rule) m part.Graph) whole in_es (get_or_default es m blank e in_es) (sym err) said in
                faulty m rule fault (sym next)
          ]
    ]

-- the records are as the rules ask, and are accepted; or the first fault is answered
pub data Answered (n : ℕ) (es : List Edge) (a : Verdict) : Type 0 where
  rightly : ((i : ℕ) (r : Rule) → i < length es → Keeps n es i r) → a ≡ accepted tt → Answered n es a
  wrongly : (k : ℕ) (rule : Rule) → Faulty n es k rule → a ≡ refused (number rule) k part.Graph → Answered n es a

pub answered : (n : ℕ) (es : List Edge) → Answered n es (records_verdict n 0 None es)
answered n es =
    elim (settle n es (length es) (omega arith)) [
      | clear all said ↦ rightly all (sym said ∙ ap (records_verdict n (length es) (previous es (length es))) (drop_all (length es) es (omega arith)))
      | faulty k rule fault said ↦ wrongly k rule fault said
    ]
