-- What checking a graph file alone answers. Assumes nothing.
use Rattle.std.specs.Prelude.{◌≡◌, Ok, Err, Result}
use Rattle.refusal.specs.Reports.{accepted, refusal_answer, Verdict}
use Rattle.evaluation.specs.declared.jobs.Failure.{Failure}
use Rattle.evaluation.specs.declared.jobs.Failure.TheVariants.{Refused, NoMemory}

-- The result is the verdict a, unless there is no memory.
abbrev pub Checks : Verdict → Result (Unit {0}) Failure → Type 0
Checks a (Ok u) = a ≡ accepted tt
Checks a (Err (Refused why)) = a ≡ refusal_answer why
Checks a (Err NoMemory) = Unit {0}
