-- What is answered to the records of a graph's weights: the first refusal in the order of judging. Assumes nothing.
use Rattle.std.specs.Prelude.{ℕ, zero, suc, ◌+◌, ◌*◌, Bool, true, cond, ◌&&◌, List, length, Some, None, Option, ◌==◌, slice_index_or}
use Rattle.refusal.specs.Reports.{accepted, refused, Verdict}
use Rattle.refusal.specs.declared.Part.TheVariants as part
use Rattle.graph.specs.Shapes.{Shape}
use Rattle.graph.specs.Verdicts.{then}
use Rattle.graph.specs.declared.edges.Edge.{Edge}
use Rattle.records.specs.Formats.{Format, value_at}

-- the first refusal among the verdicts on the records 0 to n - 1
abbrev pub first_refusal : (ℕ → Verdict) → ℕ → Verdict
first_refusal verdict zero = accepted tt
first_refusal verdict (suc n) = then (first_refusal verdict n) (verdict n)

-- refused by rule 8: a byte buffer has the wrong length
abbrev pub wrong_bytes : Verdict
wrong_bytes = refused 8 0 part.Sheet

-- refused by rule 9: the record stands for no value
abbrev pub not_a_value : ℕ → Verdict
not_a_value place = refused 9 place part.Sheet

-- refused by rule 10: the weight of the edge is not below the weights of both its ends
abbrev pub not_below_ends : ℕ → Verdict
not_below_ends j = refused 10 j part.Sheet

-- a vertex record is to stand for a value
abbrev pub value_verdict : {K : Type 0} → ℕ → Option K → Verdict
value_verdict place None = not_a_value place
value_verdict place (Some x) = accepted tt

abbrev pub vertex_verdict : {K : Type 0} → Format K → List ℕ → ℕ → Verdict
vertex_verdict f bytes i = value_verdict i (value_at f bytes i)

-- y is below the value, where there is one
abbrev pub bounded : {K : Type 0} → (K → K → Bool) → K → Option K → Bool
bounded leq y None = true
bounded leq y (Some x) = leq y x

-- an edge record, by the values at the edge's ends and its own: it is to stand for a value, and for one below both
abbrev pub ends_verdict : {K : Type 0} → (K → K → Bool) → ℕ → ℕ → Option K → Option K → Option K → Verdict
ends_verdict leq n j first second None = not_a_value (n + j)
ends_verdict leq n j first second (Some y) = cond (bounded leq y first && bounded leq y second) (accepted tt) (not_below_ends j)

-- the record of edge j, whose ends are those of e, in a graph with n vertices
abbrev pub edge_verdict : {K : Type 0} → (K → K → Bool) → Format K → ℕ → List ℕ → List ℕ → ℕ → Edge → Verdict
edge_verdict leq f n vertices edges j e =
    ends_verdict leq n j (value_at f vertices e.first) (value_at f vertices e.second) (value_at f edges j)

-- edge j; of the places past the table no verdict speaks
abbrev pub edge_at : List Edge → ℕ → Edge
edge_at table j = slice_index_or table j (record { first = 0; second = 0 })

-- every edge record of a graph with n vertices
abbrev pub table_verdict : {K : Type 0} → (K → K → Bool) → Format K → ℕ → List Edge → List ℕ → List ℕ → Verdict
table_verdict leq f n table vertices edges =
    first_refusal (λ j. edge_verdict leq f n vertices edges j (edge_at table j)) (length table)

-- the edge records, where there are any
abbrev pub edges_verdict : {K : Type 0} → (K → K → Bool) → Format K → Shape → List ℕ → Option (List ℕ) → Verdict
edges_verdict leq f g vertices None = accepted tt
edges_verdict leq f g vertices (Some edges) = table_verdict leq f g.order g.edges vertices edges

-- the bytes are as many records as the count says
abbrev pub bytes_fit : ℕ → ℕ → List ℕ → Bool
bytes_fit count width bytes = length bytes == count * width

abbrev pub edge_bytes_fit : ℕ → ℕ → Option (List ℕ) → Bool
edge_bytes_fit count width None = true
edge_bytes_fit count width (Some bytes) = bytes_fit count width bytes

-- The records of a graph's weights: first the lengths of both byte buffers, then each vertex record, then each edge record.
abbrev pub records_verdict : {K : Type 0} → (K → K → Bool) → Format K → Shape → List ℕ → Option (List ℕ) → Verdict
records_verdict leq f g vertices edges =
    cond (bytes_fit g.order f.width vertices && edge_bytes_fit (length g.edges) f.width edges)
    (then (first_refusal (vertex_verdict f vertices) g.order) (edges_verdict leq f g vertices edges))
    wrong_bytes
