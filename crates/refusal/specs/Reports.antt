-- What each refusal says: the number of the rule, the place that is at fault and the part of the input. Assumes nothing.
use Rattle.std.specs.Prelude.{ℕ, Ok, Err, Result}
use Rattle.refusal.specs.declared.Part.{Part}
use Rattle.refusal.specs.declared.Part.TheVariants as part
use Rattle.refusal.specs.declared.Refusal.{Refusal}
use Rattle.refusal.specs.declared.Refusal.TheVariants as refusal

pub record Report : Type 0 where
  pub number : ℕ
  pub place : ℕ
  pub part : Part

abbrev says : ℕ → ℕ → Part → Report
says n at p = record { number = n; place = at; part = p }

abbrev pub report : Refusal → Report
report refusal.PartialEdgeRecord = says 1 0 part.Graph
report refusal.GraphTooLarge = says 2 0 part.Graph
report refusal.EdgeTableLength = says 3 0 part.Graph
report (refusal.EndsNotRising at) = says 4 at part.Graph
report (refusal.EndOutOfRange at) = says 5 at part.Graph
report (refusal.RecordsNotRising at) = says 6 at part.Graph
report refusal.WeightBufferLength = says 7 0 part.Sheet
report refusal.ByteBufferLength = says 8 0 part.Sheet
report (refusal.NotAValue at) = says 9 at part.Sheet
report (refusal.EdgeNotBelowEnds at) = says 10 at part.Sheet
report refusal.StepSize = says 11 0 part.Sheet
report (refusal.WordSize at) = says 11 at part.Word
report refusal.TextTooLong = says 12 0 part.Recipe
report (refusal.WordShape at) = says 13 at part.Word
report (refusal.TooManyWords at) = says 14 at part.Recipe
report (refusal.WordOutOfTurn at) = says 15 at part.Recipe
report (refusal.StillHeld at) = says 16 at part.Recipe
report refusal.NotAReading = says 17 0 part.Reading
report refusal.TextBufferTooShort = says 18 0 part.Recipe

-- What a call answers: it is accepted, with a value, or refused, with a number, a place and a part.
pub data Answer (A : Type 0) : Type 0 where
  accepted : A → Answer A
  refused : ℕ → ℕ → Part → Answer A

-- the answer that a refusal is
abbrev pub refusal_answer : {A : Type 0} → Refusal → Answer A
refusal_answer e = refused (report e).number (report e).place (report e).part

-- a result as an answer
abbrev pub answer : {A : Type 0} → Result A Refusal → Answer A
answer (Ok x) = accepted x
answer (Err e) = refusal_answer e

-- what a call says that hands nothing over: accepted, or refused
abbrev pub Verdict : Type 0
Verdict = Answer (Unit {0})

-- what there is after a verdict: something new where it accepts, and the old where it refuses
abbrev pub by_verdict : {X : Type 0} → Verdict → X → X → X
by_verdict (accepted u) new old = new
by_verdict (refused number place p) new old = old
