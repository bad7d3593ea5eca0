-- What is answered is the right answer. Assumes nothing.
use Rattle.std.proofs.Common.{◌≡◌, ℕ, ◌+◌, ◌%◌, ◌<◌, true, false, ◌⊎◌, ◌↔◌, List, length, IfOk, None, Ok, Err, Result, sym, refl, ap, ◌∙◌, subst, inl, inr, arith}
use Rattle.std.proofs.lemmas.Bool.Decides.{leb_tells, eqb_tells, nat_tests}
use Rattle.refusal.specs.Reports.{accepted, answer, refused, Verdict}
use Rattle.refusal.specs.declared.Refusal.{Refusal}
use Rattle.refusal.specs.declared.Part.TheVariants as part
use Rattle.graph.specs.Files.{file_records}
use Rattle.graph.specs.Graphs.{AllWithin, Rising, Sound}
use Rattle.graph.specs.Rules.{Rule, ends_rise, end_in_range, above_last, number, Keeps, Faulty, CountsFit, TooLarge, Judged, Whole, FileJudged}
use Rattle.graph.specs.Verdicts.{large, records_verdict, verdict, file_verdict}
use Rattle.graph.specs.declared.edges.Edge.{Edge}
use Rattle.graph.proofs.Faults.{rightly, wrongly, answered}

-- every record keeps every rule
abbrev Clear : ℕ → List Edge → Type 0
Clear n es = (i : ℕ) (r : Rule) → i < length es → Keeps n es i r

clear_within : (n : ℕ) (es : List Edge) → Clear n es → AllWithin n es
clear_within n es clear k d l = (clear k ends_rise l d, clear k end_in_range l d)

clear_rising : (n : ℕ) (es : List Edge) → Clear n es → Rising es
clear_rising n es clear k d l = clear (k + 1) above_last l k d refl

sound_clear : (n : ℕ) (es : List Edge) → Sound n es → Clear n es
sound_clear n es sound i ends_rise l = λ d. (sound.within i d l).0
sound_clear n es sound i end_in_range l = λ d. (sound.within i d l).1
sound_clear n es sound i above_last l = λ j d same. let next = sound.rising j d (omega arith) in rw same at next

number_same : (r s : Rule) → number r ≡ number s → r ≡ s
number_same ends_rise ends_rise e = refl
number_same ends_rise end_in_range e = absurd (omega arith)
number_same ends_rise above_last e = absurd (omega arith)
number_same end_in_range ends_rise e = absurd (omega arith)
number_same end_in_range end_in_range e = refl
number_same end_in_range above_last e = absurd (omega arith)
number_same above_last ends_rise e = absurd (omega arith)
number_same above_last end_in_range e = absurd (omega arith)
number_same above_last above_last e = refl

-- there is one first fault
not_earlier : (n : ℕ) (es : List Edge) (j k : ℕ) (r s : Rule) → Faulty n es j r → Faulty n es k s → j < k → ⊥
not_earlier n es j k r s f g l = f.broken (g.records_before j r l)

not_lower : (n : ℕ) (es : List Edge) (k : ℕ) (r s : Rule) → Faulty n es k r → Faulty n es k s → number r < number s → ⊥
not_lower n es k r s f g l = f.broken (g.rules_before r l)

same_place : (n : ℕ) (es : List Edge) (j k : ℕ) (r s : Rule) → Faulty n es j r → Faulty n es k s → j ≡ k
same_place n es j k r s f g =
    elim (leb_tells j k) [
      | inr t ↦ absurd (not_earlier n es k j s r g f t.1)
      | inl t ↦ elim (leb_tells k j) [
        | inr u ↦ absurd (not_earlier n es j k r s f g u.1)
        | inl u ↦ omega (arith, t.1, u.1)
      ]
    ]

same_rule : (n : ℕ) (es : List Edge) (k : ℕ) (r s : Rule) → Faulty n es k r → Faulty n es k s → r ≡ s
same_rule n es k r s f g =
    elim (leb_tells (number r) (number s)) [
      | inr t ↦ absurd (not_lower n es k s r g f t.1)
      | inl t ↦ elim (leb_tells (number s) (number r)) [
        | inr u ↦ absurd (not_lower n es k r s f g u.1)
        | inl u ↦ number_same r s (omega (arith, t.1, u.1))
      ]
    ]

-- the rules for a single record have the numbers from 4 on
from_four : (r : Rule) → 3 < number r
from_four ends_rise = omega arith
from_four end_in_range = omega arith
from_four above_last = omega arith

-- judging the records alone accepts exactly where every record keeps every rule
records_accept : (n : ℕ) (es : List Edge) → (records_verdict n 0 None es ≡ accepted tt) ↔ (Clear n es)
records_accept n es =
    elim (answered n es) [
      | rightly clear said ↦ (λ h. clear, λ h. said)
      | wrongly k rule fault said ↦ (λ h. let z : ◌≡◌ {A = ℕ} 0 1 = cc in absurd (omega arith), λ clear. absurd (fault.broken (clear k rule fault.present)))
    ]

-- it refuses exactly by the first fault
records_refuse : (n : ℕ) (es : List Edge) (k : ℕ) (rule : Rule) → (records_verdict n 0 None es ≡ refused (number rule) k part.Graph) ↔ (Faulty n es k rule)
records_refuse n es k rule =
    elim (answered n es) [
      | rightly clear said ↦ (λ h. let z : ◌≡◌ {A = ℕ} 0 1 = cc in absurd (omega arith), λ fault. absurd (fault.broken (clear k rule fault.present)))
      | wrongly j r fault said ↦ (
        λ h.
            let place : j ≡ k = cc in
            let by : number r ≡ number rule = cc in
            let P : ℕ → Type 0 = λ i. Faulty n es i rule in
            let Q : Rule → Type 0 = λ s. Faulty n es j s in
            subst P place (subst Q (number_same r rule by) fault),
        λ found.
            let place = same_place n es j k r rule fault found in
            let P : ℕ → Type 0 = λ i. Faulty n es i r in
            let by = same_rule n es k r rule (subst P place fault) found in
            said ∙ ap (λ s. refused (number s) j part.Graph) by ∙ ap (λ i. refused (number rule) i part.Graph) place,
      )
    ]

-- it refuses by no other number
records_otherwise : (n : ℕ) (es : List Edge) (other : ℕ) → other < 4 → records_verdict n 0 None es ≡ refused other 0 part.Graph → ⊥
records_otherwise n es other l h =
    elim (answered n es) [
      | rightly clear said ↦ let z : ◌≡◌ {A = ℕ} 0 1 = cc in omega arith
      | wrongly k rule fault said ↦ let by : number rule ≡ other = cc in omega (arith, from_four rule)
    ]

size : (n m : ℕ) → ((large n m ≡ true) × TooLarge n m) ⊎ ((large n m ≡ false) × CountsFit n m)
size n m =
    elim (leb_tells 1000001 n) [
      | inl t ↦ inl (grind (arith, nat_tests), inl t.1)
      | inr t ↦ elim (leb_tells 4000001 m) [
        | inl u ↦ inl (grind (arith, nat_tests), inr u.1)
        | inr u ↦ inr (grind (arith, nat_tests), (omega (arith, t.1), omega (arith, u.1)))
      ]
    ]

not_both : (n m : ℕ) → CountsFit n m → TooLarge n m → ⊥
not_both n m fit (inl l) = omega arith
not_both n m fit (inr l) = omega arith

judged_large : (n : ℕ) (es : List Edge) (a : Verdict) → TooLarge n (length es) → a ≡ refused 2 0 part.Graph → Judged n es a
judged_large n es a large said = record {
  accepts = (λ h. let z : ◌≡◌ {A = ℕ} 0 1 = cc in absurd (omega arith), λ sound. absurd (not_both n (length es) (sound.few, sound.short) large));
  counts = (λ h. large, λ h. said);
  records = λ k rule. (λ h. let by : number rule ≡ 2 = cc in absurd (omega (arith, from_four rule)), λ found. absurd (not_both n (length es) found.0 large));
}

judged_records : (n : ℕ) (es : List Edge) (a : Verdict) → CountsFit n (length es) → a ≡ records_verdict n 0 None es → Judged n es a
judged_records n es a fit said = record {
  accepts = (
    λ h.
        let clear = (records_accept n es).0 (sym said ∙ h) in
        record { few = fit.0; short = fit.1; within = clear_within n es clear; rising = clear_rising n es clear },
    λ sound. said ∙ (records_accept n es).1 (sound_clear n es sound),
  );
  counts = (λ h. absurd (records_otherwise n es 2 (omega arith) (sym said ∙ h)), λ large. absurd (not_both n (length es) fit large));
  records = λ k rule. (λ h. (fit, (records_refuse n es k rule).0 (sym said ∙ h)), λ found. said ∙ (records_refuse n es k rule).1 found.1);
}

-- the answer to an edge table is right
pub judged : (n : ℕ) (es : List Edge) (a : Verdict) → a ≡ verdict n es → Judged n es a
judged n es a said =
    elim (size n (length es)) [
      | inl t ↦ judged_large n es a t.1 (said ∙ rw t.0)
      | inr t ↦ judged_records n es a t.1 (said ∙ rw t.0)
    ]

pub judged_made : (n : ℕ) (es : List Edge) (r : Result (Unit {0}) Refusal) → Judged n es (answer r) → IfOk r (λ _. Sound n es)
judged_made n es (Ok u) right = right.accepts.0 refl
judged_made n es (Err e) right = tt

-- a refused answer is none of these
not_accepted : (i k : ℕ) → ◌≡◌ {A = Verdict} (refused i k part.Graph) (accepted tt) → ⊥
not_accepted i k h = let z : ◌≡◌ {A = ℕ} 0 1 = cc in omega arith

other_number : (i j k l : ℕ) → ◌≡◌ {A = Verdict} (refused i k part.Graph) (refused j l part.Graph) → (i ≡ j → ⊥) → ⊥
other_number i j k l h differ = differ (cc)

other_rule : (i k : ℕ) (rule : Rule) → i < 4 → ◌≡◌ {A = Verdict} (refused i 0 part.Graph) (refused (number rule) k part.Graph) → ⊥
other_rule i k rule low h = let by : i ≡ number rule = cc in omega (arith, from_four rule)

file_partial : (n : ℕ) (bytes : List ℕ) (room : ℕ) → (Whole bytes → ⊥) → FileJudged n bytes room (refused 1 0 part.Graph)
file_partial n bytes room broken = record {
  accepts = (λ h. absurd (not_accepted 1 0 h), λ found. absurd (broken found.0));
  partial = (λ h. broken, λ h. refl);
  counts = (λ h. absurd (other_number 1 2 0 0 h (λ e. omega arith)), λ found. absurd (broken found.0));
  table = (λ h. absurd (other_number 1 3 0 0 h (λ e. omega arith)), λ found. absurd (broken found.0));
  records = λ k rule. (λ h. absurd (other_rule 1 k rule (omega arith) h), λ found. absurd (broken found.0));
}

file_large : (n : ℕ) (bytes : List ℕ) (room : ℕ) → Whole bytes → TooLarge n (length (file_records bytes)) → FileJudged n bytes room (refused 2 0 part.Graph)
file_large n bytes room whole large =
    let never : CountsFit n (length (file_records bytes)) → ⊥ = λ fit. not_both n (length (file_records bytes)) fit large in
    record {
      accepts = (λ h. absurd (not_accepted 2 0 h), λ found. absurd (never (found.2.few, found.2.short)));
      partial = (λ h. absurd (other_number 2 1 0 0 h (λ e. omega arith)), λ broken. absurd (broken whole));
      counts = (λ h. (whole, large), λ h. refl);
      table = (λ h. absurd (other_number 2 3 0 0 h (λ e. omega arith)), λ found. absurd (never found.1));
      records = λ k rule. (λ h. absurd (other_rule 2 k rule (omega arith) h), λ found. absurd (never found.1));
    }

file_table : (n : ℕ) (bytes : List ℕ) (room : ℕ) → Whole bytes → CountsFit n (length (file_records bytes)) → (room ≡ length (file_records bytes) → ⊥) → FileJudged n bytes room (refused 3 0 part.Graph)
file_table n bytes room whole fit differ = record {
  accepts = (λ h. absurd (not_accepted 3 0 h), λ found. absurd (differ found.1));
  partial = (λ h. absurd (other_number 3 1 0 0 h (λ e. omega arith)), λ broken. absurd (broken whole));
  counts = (λ h. absurd (other_number 3 2 0 0 h (λ e. omega arith)), λ found. absurd (not_both n (length (file_records bytes)) fit found.1));
  table = (λ h. (whole, fit, differ), λ h. refl);
  records = λ k rule. (λ h. absurd (other_rule 3 k rule (omega arith) h), λ found. absurd (differ found.2));
}

file_rows : (n : ℕ) (bytes : List ℕ) (room : ℕ) → Whole bytes → CountsFit n (length (file_records bytes)) → room ≡ length (file_records bytes) → FileJudged n bytes room (records_verdict n 0 None (file_records bytes))
file_rows n bytes room whole fit same =
    let es = file_records bytes in
    let right = judged_records n es (records_verdict n 0 None es) fit refl in
    record {
      accepts = (λ h. (whole, same, right.accepts.0 h), λ found. right.accepts.1 found.2);
      partial = (λ h. absurd (records_otherwise n es 1 (omega arith) h), λ broken. absurd (broken whole));
      counts = (λ h. (whole, right.counts.0 h), λ found. right.counts.1 found.1);
      table = (λ h. absurd (records_otherwise n es 3 (omega arith) h), λ found. absurd (found.2 same));
      records = λ k rule. (λ h. (whole, fit, same, (records_refuse n es k rule).0 h), λ found. (records_refuse n es k rule).1 found.3);
    }

-- the answer to a graph file is right
file_verdict_right : (n : ℕ) (bytes : List ℕ) (room : ℕ) → FileJudged n bytes room (file_verdict n bytes room)
file_verdict_right n bytes room =
    let es = file_records bytes in
    elim (eqb_tells (length bytes % 8) 0) [
      | inr t ↦ rw t.0 (file_partial n bytes room t.1)
      | inl t ↦ elim (size n (length es)) [
        | inl u ↦ rw (t.0, u.0) (file_large n bytes room t.1 u.1)
        | inr u ↦ elim (eqb_tells room (length es)) [
          | inl v ↦ rw (t.0, u.0, v.0) (file_rows n bytes room t.1 u.1 v.1)
          | inr v ↦ rw (t.0, u.0, v.0) (file_table n bytes room t.1 u.1 v.1)
        ]
      ]
    ]

pub file_judged : (n : ℕ) (bytes : List ℕ) (room : ℕ) (a : Verdict) → a ≡ file_verdict n bytes room → FileJudged n bytes room a
file_judged n bytes room a said = let P : Verdict → Type 0 = FileJudged n bytes room in subst P (sym said) (file_verdict_right n bytes room)
