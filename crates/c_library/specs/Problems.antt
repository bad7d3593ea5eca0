-- The responses to the problems of a call. Assumes nothing.
use Rattle.std.specs.Prelude.{Ok, Err, Result}
use Rattle.refusal.specs.Reports.{accepted, refusal_answer}
use Rattle.evaluation.specs.declared.jobs.Failure.{Failure}
use Rattle.evaluation.specs.declared.jobs.Failure.TheVariants as failure
use Rattle.c_library.specs.Responses.{Response, answered, no_kind, no_memory}
use Rattle.c_library.specs.declared.problems.Problem.{Problem}
use Rattle.c_library.specs.declared.problems.Problem.TheVariants.{Refused, NoKind, NoMemory}

-- the failure of an evaluation as a problem
abbrev pub failure_problem : Failure → Problem
failure_problem (failure.Refused why) = Refused why
failure_problem failure.NoMemory = NoMemory

-- the response to a result
abbrev pub result_response : Result (Unit {0}) Problem → Response
result_response (Ok u) = answered {A = Unit {0}} (accepted tt)
result_response (Err (Refused why)) = answered {A = Unit {0}} (refusal_answer why)
result_response (Err NoKind) = no_kind
result_response (Err NoMemory) = no_memory
