-- The records that a recipe makes of the records of a graph's weights, from the bytes of all that it is given. Assumes nothing.
use Rattle.std.specs.Prelude.{◌≡◌, ℕ, Bool, List, length, Ok, Err, vec_items, Option, Result}
use Rattle.std.specs.List.{flat_map}
use Rattle.refusal.specs.Reports.{Answer, accepted, refused, refusal_answer}
use Rattle.lattice.specs.Lattices.{Operations}
use Rattle.graph.specs.Files.{file_records}
use Rattle.graph.specs.Shapes.{Shape, shape}
use Rattle.graph.specs.Verdicts.{file_verdict}
use Rattle.filters.specs.Weightings.{Weighting}
use Rattle.records.specs.Calls.{Bytes, bytes_of_both, record_weights}
use Rattle.records.specs.Formats.{Format, format, bytes_in}
use Rattle.records.specs.Verdicts.{records_verdict}
use Rattle.recipe.specs.Judging.{judge}
use Rattle.recipe.specs.declared.words.Word.{Word}
use Rattle.stories.specs.Words.{nothing, done}
use Rattle.evaluation.specs.declared.jobs.Evaluated.{Evaluated}
use Rattle.evaluation.specs.declared.jobs.Failure.{Failure}
use Rattle.evaluation.specs.declared.jobs.Failure.TheVariants.{Refused, NoMemory}
use Rattle.evaluation.specs.declared.jobs.Job.{Job}

-- a kind with records: its operations, its order as a test, and how its values are stored
pub record StoredKind (K : Type 0) : Type 0 where
  pub operations : Operations K
  pub leq : K → K → Bool
  pub format : Format K
  pub written : K → List ℕ

abbrev pub stored_kind : {K : Type 0} → Operations K → (K → K → Bool) → ℕ → (List ℕ → Option K) → (K → List ℕ) → StoredKind K
stored_kind k leq width parsed written = record { operations = k; leq = leq; format = format width parsed; written = written }

-- what is given, apart from where it lies
pub record Input : Type 0 where
  pub order : ℕ
  pub graph : List ℕ
  pub vertices : List ℕ
  pub edges : Option (List ℕ)
  pub recipe : List ℕ

abbrev pub input : Job → Input
input j = record { order = j.n; graph = j.graph.now; vertices = j.vertices.now; edges = bytes_in j.edges; recipe = j.recipe.now }

-- the records that come out, and how many vertices, edges and words there were
pub record Output : Type 0 where
  pub records : Bytes
  pub vertices : ℕ
  pub edges : ℕ
  pub words : ℕ

abbrev pub output : Bytes → Shape → ℕ → Output
output bytes g words = record { records = bytes; vertices = g.order; edges = length g.edges; words = words }

-- an answer that needs another first, whose refusal is handed on
abbrev pub and_then : {A B : Type 0} → Answer A → (A → Answer B) → Answer B
and_then (accepted x) next = next x
and_then (refused number place part) next = refused number place part

-- weights as records
abbrev pub recorded : {K : Type 0} → (K → List ℕ) → Weighting K → Bytes
recorded written w = bytes_of_both (flat_map written w.vertices) (flat_map written w.edges)

-- what comes out where these are the words of the recipe: they are done in order on the weights
abbrev pub finished : {K : Type 0} → StoredKind K → Shape → Weighting K → List Word → Answer Output
finished k g w words = accepted (output (recorded k.written (done k.operations g words w nothing)) g (length words))

-- On a graph that is accepted: the records are judged, and then the recipe.
abbrev pub evaluated_on : {K : Type 0} → StoredKind K → Shape → Input → Answer Output
evaluated_on k g i =
    and_then (records_verdict k.leq k.format g i.vertices i.edges) (λ _.
    and_then (judge i.recipe) (finished k g (record_weights k.operations k.format g i.vertices i.edges)))

-- The whole of it: the graph file is judged before all else.
abbrev pub evaluated : {K : Type 0} → StoredKind K → Input → Answer Output
evaluated k i =
    let es = file_records i.graph in
    and_then (file_verdict i.order i.graph (length es)) (λ _. evaluated_on k (shape i.order es) i)

-- what is handed out
abbrev pub output_of : Evaluated → Output
output_of e = record {
  records = bytes_of_both (vec_items e.vertex_records) (vec_items e.edge_records);
  vertices = e.vertices;
  edges = e.edges;
  words = e.words;
}

-- The result is the answer a, unless there is no memory.
abbrev pub Gives : Answer Output → Result Evaluated Failure → Type 0
Gives a (Ok e) = a ≡ accepted (output_of e)
Gives a (Err (Refused why)) = a ≡ refusal_answer why
Gives a (Err NoMemory) = Unit {0}
