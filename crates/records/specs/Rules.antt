-- Which records are the weights of a graph, by which fault others are refused, and that what is stored loads as the same weights:
-- said by the order of the kind and with no tests. Assumes nothing.
use Rattle.std.specs.Prelude.{◌≡◌, ℕ, ◌+◌, ◌*◌, ◌<◌, Bool, List, length, Some, None, Option}
use Rattle.refusal.specs.Reports.{accepted, refused, Verdict}
use Rattle.refusal.specs.declared.Part.TheVariants as part
use Rattle.lattice.specs.Lattices.{Operations}
use Rattle.graph.specs.Shapes.{Shape}
use Rattle.graph.specs.declared.edges.Edge.{Edge}
use Rattle.filters.specs.Relations.{Stands, EdgesBelowEnds}
use Rattle.filters.specs.Weightings.{Weighting, Fits}
use Rattle.records.specs.Formats.{Format, value_at}
use Rattle.records.specs.Verdicts.{edge_at}
use Rattle.records.specs.Calls.{Bytes, loaded, load_call}

-- record i stands for a value
abbrev pub HasValue : {K : Type 0} → Format K → List ℕ → ℕ → Type 0
HasValue {K = K} f bytes i = (x : K) × (value_at f bytes i ≡ Some x)

-- y is below the value of record i
abbrev pub BelowRecord : {K : Type 0} → (K → K → Type 0) → Format K → List ℕ → ℕ → K → Type 0
BelowRecord {K = K} below f bytes i y = (x : K) → value_at f bytes i ≡ Some x → below y x

-- y is below the values of both ends of e
abbrev pub BelowEnds : {K : Type 0} → (K → K → Type 0) → Format K → List ℕ → Edge → K → Type 0
BelowEnds below f vertices e y = BelowRecord below f vertices e.first y × BelowRecord below f vertices e.second y

-- the record of edge j stands for a value, and that is below the values of both its ends
abbrev pub EdgeRight : {K : Type 0} → (K → K → Type 0) → Format K → List Edge → List ℕ → List ℕ → ℕ → Type 0
EdgeRight {K = K} below f table vertices edges j =
    (y : K) × (value_at f edges j ≡ Some y) × BelowEnds below f vertices (edge_at table j) y

-- every vertex record stands for a value
abbrev pub VerticesRight : {K : Type 0} → Format K → Shape → List ℕ → Type 0
VerticesRight f g vertices = (i : ℕ) → i < g.order → HasValue f vertices i

-- every edge record is right, where there are any
abbrev pub EdgesRight : {K : Type 0} → (K → K → Type 0) → Format K → Shape → List ℕ → Option (List ℕ) → Type 0
EdgesRight below f g vertices None = Unit {0}
EdgesRight below f g vertices (Some edges) = (j : ℕ) → j < length g.edges → EdgeRight below f g.edges vertices edges j

-- the bytes are one record for each edge, where there are any
abbrev pub EdgeLength : ℕ → ℕ → Option (List ℕ) → Type 0
EdgeLength count width None = Unit {0}
EdgeLength count width (Some bytes) = length bytes ≡ count * width

-- the bytes are one record for each vertex, and one for each edge
abbrev pub LengthsRight : {K : Type 0} → Format K → Shape → List ℕ → Option (List ℕ) → Type 0
LengthsRight f g vertices edges =
    (length vertices ≡ g.order * f.width) × EdgeLength (length g.edges) f.width edges

-- the buffers w take the weights of the graph, and the records are such weights
pub record Loadable {K : Type 0} (below : K → K → Type 0) (f : Format K) (g : Shape) (vertices : List ℕ) (edges : Option (List ℕ)) (w : Weighting K) : Type 0 where
  pub buffers : Fits g w
  pub lengths : LengthsRight f g vertices edges
  pub vertex_values : VerticesRight f g vertices
  pub edge_values : EdgesRight below f g vertices edges

-- vertex record i is the first that stands for no value
pub record VertexFault {K : Type 0} (f : Format K) (g : Shape) (vertices : List ℕ) (i : ℕ) : Type 0 where
  pub present : i < g.order
  pub before : (k : ℕ) → k < i → HasValue f vertices k
  pub here : HasValue f vertices i → ⊥

-- every edge record before j is right, and record j is at fault
pub record EdgeFault {K : Type 0} (below : K → K → Type 0) (f : Format K) (g : Shape) (vertices edges : List ℕ) (j : ℕ) (fault : Type 0) : Type 0 where
  pub present : j < length g.edges
  pub before : (k : ℕ) → k < j → EdgeRight below f g.edges vertices edges k
  pub here : fault

-- a is the right answer to a load: each case has what it rests on
pub data Judged {K : Type 0} (below : K → K → Type 0) (f : Format K) (g : Shape) (vertices : List ℕ) (edges : Option (List ℕ)) (w : Weighting K) (a : Verdict) : Type 0 where
  all_right : Loadable below f g vertices edges w → a ≡ accepted tt → Judged below f g vertices edges w a
  weights_length : (Fits g w → ⊥) → a ≡ refused 7 0 part.Sheet → Judged below f g vertices edges w a
  bytes_length : Fits g w → (LengthsRight f g vertices edges → ⊥) → a ≡ refused 8 0 part.Sheet → Judged below f g vertices edges w a
  vertex_value : (i : ℕ) → Fits g w → LengthsRight f g vertices edges → VertexFault f g vertices i → a ≡ refused 9 i part.Sheet
      → Judged below f g vertices edges w a
  edge_value : (bytes : List ℕ) (j : ℕ) → Fits g w → LengthsRight f g vertices edges → VerticesRight f g vertices → edges ≡ Some bytes
      → EdgeFault below f g vertices bytes j (HasValue f bytes j → ⊥) → a ≡ refused 9 (g.order + j) part.Sheet
      → Judged below f g vertices edges w a
  edge_ends : (bytes : List ℕ) (j : ℕ) (y : K) → Fits g w → LengthsRight f g vertices edges → VerticesRight f g vertices → edges ≡ Some bytes
      → EdgeFault below f g vertices bytes j ((value_at f bytes j ≡ Some y) × (BelowEnds below f vertices (edge_at g.edges j) y → ⊥))
      → a ≡ refused 10 j part.Sheet → Judged below f g vertices edges w a

-- each weight is what its record stands for
abbrev pub StandFor : {K : Type 0} → Format K → List ℕ → List K → Type 0
StandFor {K = K} f bytes weights = (i : ℕ) (x : K) → Stands weights i x → value_at f bytes i ≡ Some x

-- What is stored can be loaded: where the edge weights are below their ends', a load of these bytes into any buffers of the
-- right lengths is accepted, and gives the same weights.
abbrev pub LoadsBack : {K : Type 0} → (K → K → Type 0) → Operations K → (K → K → Bool) → Format K → Shape → Bytes → Weighting K → Type 0
LoadsBack {K = K} below k leq f g bytes w =
    EdgesBelowEnds below g w → (old : Weighting K) → Fits g old → load_call k leq f g bytes.vertices (Some bytes.edges) old ≡ loaded (accepted tt) w
