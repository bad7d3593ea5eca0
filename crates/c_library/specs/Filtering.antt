-- A job for a kind by its number, and what the buffers of the caller hold after it. Assumes nothing.
use Rattle.std.specs.Prelude.{◌≡◌, ℕ, ◌<◌, Bool, true, false, cond, ◌&&◌, ◌⊎◌, List, Some, None, Option}
use Rattle.refusal.specs.Reports.{Answer, accepted, refused, Verdict, by_verdict}
use Rattle.records.specs.Calls.{Bytes}
use Rattle.records.specs.Verdicts.{bytes_fit, wrong_bytes}
use Rattle.evaluation.specs.Evaluations.{Input, Output}
use Rattle.evaluation.specs.Kinds.{kind_number, base_width, evaluated_as}
use Rattle.evaluation.specs.declared.kinds.KindName.{KindName}
use Rattle.c_library.specs.Responses.{Response, answered, no_kind, no_memory}

-- the edge records, where they are not absent
abbrev pub unless : Bool → List ℕ → Option (List ℕ)
unless false edges = Some edges
unless true edges = None

-- what C passes as a job
abbrev pub input_of : ℕ → List ℕ → List ℕ → List ℕ → Bool → List ℕ → Input
input_of n graph vertices edges absent recipe =
    record { order = n; graph = graph; vertices = vertices; edges = unless absent edges; recipe = recipe }

-- each buffer is to have a record of this width for each vertex or edge
abbrev pub room_verdict : ℕ → Output → Bytes → Verdict
room_verdict width o old =
    cond (bytes_fit o.vertices width old.vertices && bytes_fit o.edges width old.edges) (accepted tt) wrong_bytes

-- a response, and what the buffers hold
pub record Filtered : Type 0 where
  pub response : Response
  pub bytes : Bytes

abbrev pub filtered : Response → Bytes → Filtered
filtered r bytes = record { response = r; bytes = bytes }

-- the records go to the buffers, unless these are refused
abbrev pub delivered : Verdict → Output → Bytes → Filtered
delivered verdict o old = filtered (answered verdict) (by_verdict verdict o.records old)

-- The response to what a job answers, by the width of its records, and what the buffers hold after it. They are as they were
-- unless it is accepted.
abbrev pub filter_call : ℕ → Answer Output → Bytes → Filtered
filter_call width (accepted o) old = delivered (room_verdict width o old) o old
filter_call width (refused number place part) old = filtered (answered {A = Output} (refused number place part)) old

-- the same for a job of this kind
abbrev pub kind_call : KindName → Input → Bytes → Filtered
kind_call k i old = filter_call (base_width k.base) (evaluated_as k.base k.reversed i) old

-- what comes of the job i for the kind with this number
pub record Filters (kind : ℕ) (i : Input) (old : Bytes) (new : Filtered) : Type 0 where
  pub numbered : (k : KindName) → kind_number k ≡ kind → (new ≡ kind_call k i old) ⊎ (new ≡ filtered no_memory old)
  pub no_number : 5 < kind → new ≡ filtered no_kind old
