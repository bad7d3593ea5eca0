-- What the steps of an evaluation answer: the edge table of a graph file, and the work on a sheet. Assumes nothing.
use Rattle.std.specs.Prelude.{◌≡◌, ℕ, List, length, Ok, Err, vec_items, Result, Vec}
use Rattle.std.specs.declared.alloc.Global.{Global}
use Rattle.refusal.specs.Reports.{Answer, accepted, refusal_answer}
use Rattle.refusal.specs.declared.Refusal.{Refusal}
use Rattle.graph.specs.Files.{file_records}
use Rattle.graph.specs.Shapes.{Shape}
use Rattle.graph.specs.Verdicts.{file_verdict}
use Rattle.graph.specs.declared.edges.Edge.{Edge}
use Rattle.records.specs.Calls.{Bytes}
use Rattle.evaluation.specs.Evaluations.{Output, output}
use Rattle.evaluation.specs.declared.jobs.Failure.{Failure}
use Rattle.evaluation.specs.declared.jobs.Failure.TheVariants.{Refused, NoMemory}

-- the edges of the file where it is accepted, and else the refusal, unless there is no memory
abbrev pub TableOf : ℕ → List ℕ → Result (Vec Edge Global) Failure → Type 0
TableOf n bytes (Ok table) = (vec_items table ≡ file_records bytes) × (file_verdict n bytes (length (file_records bytes)) ≡ accepted tt)
TableOf n bytes (Err (Refused why)) = file_verdict n bytes (length (file_records bytes)) ≡ refusal_answer why
TableOf n bytes (Err NoMemory) = Unit {0}

-- The result is the answer a: the byte buffers hold the records and the words are counted, or it is refused.
abbrev pub Counts : Answer Output → Shape → Bytes → Result ℕ Refusal → Type 0
Counts a g bytes (Ok words) = a ≡ accepted (output bytes g words)
Counts a g bytes (Err why) = a ≡ refusal_answer why

-- the same, unless there is no memory
abbrev pub CountsInMemory : Answer Output → Shape → Bytes → Result ℕ Failure → Type 0
CountsInMemory a g bytes (Ok words) = a ≡ accepted (output bytes g words)
CountsInMemory a g bytes (Err (Refused why)) = a ≡ refusal_answer why
CountsInMemory a g bytes (Err NoMemory) = Unit {0}
