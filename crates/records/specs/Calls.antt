-- What loading weights from records and storing them as records answers, and what it leaves in the buffers. Assumes nothing.
use Rattle.std.specs.Prelude.{ℕ, Bool, cond, ◌&&◌, List, length, Some, None, Option}
use Rattle.std.specs.List.{flat_map}
use Rattle.refusal.specs.Reports.{accepted, Verdict, by_verdict}
use Rattle.lattice.specs.Lattices.{Operations}
use Rattle.graph.specs.Shapes.{Shape}
use Rattle.filters.specs.Calls.{wrong_length}
use Rattle.filters.specs.Passes.{meets, pass_to_edges}
use Rattle.filters.specs.Weightings.{Weighting, weighting, fits}
use Rattle.records.specs.Formats.{Format, values}
use Rattle.records.specs.Verdicts.{bytes_fit, records_verdict, wrong_bytes}

-- the weights of the edges, by the weights of the vertices: those of the records, and with no records the meet of the ends
abbrev pub edge_values : {K : Type 0} → Operations K → Format K → Shape → List K → Option (List ℕ) → List K
edge_values k f g vertices None = pass_to_edges (meets k) g vertices
edge_values k f g vertices (Some bytes) = values f k.lowest (length g.edges) bytes

-- the weights that records stand for
abbrev pub record_weights : {K : Type 0} → Operations K → Format K → Shape → List ℕ → Option (List ℕ) → Weighting K
record_weights k f g vertices edges =
    let new = values f k.lowest g.order vertices in
    weighting new (edge_values k f g new edges)

-- the verdict on a load: first the lengths of the weight buffers, then the records
abbrev pub load_verdict : {K : Type 0} → (K → K → Bool) → Format K → Shape → List ℕ → Option (List ℕ) → Weighting K → Verdict
load_verdict leq f g vertices edges old = cond (fits g old) (records_verdict leq f g vertices edges) wrong_length

-- the answer of a load, and what the weight buffers hold after it
pub record Loaded (K : Type 0) : Type 0 where
  pub answer : Verdict
  pub weights : Weighting K

abbrev pub loaded : {K : Type 0} → Verdict → Weighting K → Loaded K
loaded a w = record { answer = a; weights = w }

-- Weights from records: accepted, the buffers hold what the records stand for; refused, they are as they were.
abbrev pub load_call : {K : Type 0} → Operations K → (K → K → Bool) → Format K → Shape → List ℕ → Option (List ℕ) → Weighting K → Loaded K
load_call k leq f g vertices edges old =
    let verdict = load_verdict leq f g vertices edges old in
    loaded verdict (by_verdict verdict (record_weights k f g vertices edges) old)

-- the bytes of the vertex records and of the edge records
pub record Bytes : Type 0 where
  pub vertices : List ℕ
  pub edges : List ℕ

abbrev pub bytes_of_both : List ℕ → List ℕ → Bytes
bytes_of_both vs es = record { vertices = vs; edges = es }

-- the verdict on a store: first the lengths of the weight buffers, then those of the byte buffers
abbrev pub store_verdict : {K : Type 0} → ℕ → Shape → Weighting K → Bytes → Verdict
store_verdict width g w old =
    cond (fits g w)
    (cond (bytes_fit g.order width old.vertices && bytes_fit (length g.edges) width old.edges) (accepted tt) wrong_bytes)
    wrong_length

-- the answer of a store, and what the byte buffers hold after it
pub record Stores : Type 0 where
  pub answer : Verdict
  pub bytes : Bytes

abbrev pub stored : Verdict → Bytes → Stores
stored a bs = record { answer = a; bytes = bs }

-- Records from weights: accepted, the byte buffers hold the records one after the other; refused, they are as they were.
abbrev pub store_call : {K : Type 0} → ℕ → (K → List ℕ) → Shape → Weighting K → Bytes → Stores
store_call width written g w old =
    let verdict = store_verdict width g w old in
    stored verdict (by_verdict verdict (bytes_of_both (flat_map written w.vertices) (flat_map written w.edges)) old)
