-- The weights of a graph, and what the filters make of them. Assumes nothing.
use Rattle.std.specs.Prelude.{◌≡◌, Bool, ◌&&◌, List, length, replicate, ◌==◌}
use Rattle.std.specs.Borrow.{MutBor}
use Rattle.lattice.specs.Lattices.{Operations}
use Rattle.graph.specs.Shapes.{Shape}
use Rattle.filters.specs.Passes.{joins, meets, pass_to_edges, pass_to_vertices}
use Rattle.filters.specs.Filters.{Passes, exchanged, Rounds, rounds, filter_by}
use Rattle.filters.specs.declared.families.Filter.{Filter}
use Rattle.filters.specs.declared.weights.Weights.{Weights}
use Rattle.filters.specs.declared.weights.WeightsMut.{WeightsMut}

-- the weights of a graph's vertices and of its edges
pub record Weighting (K : Type 0) : Type 0 where
  pub vertices : List K
  pub edges : List K

abbrev pub weighting : {K : Type 0} → List K → List K → Weighting K
weighting vs ys = record { vertices = vs; edges = ys }

-- as many weights as the graph has vertices, and as it has edges
abbrev pub vertices_fit : {K : Type 0} → Shape → List K → Bool
vertices_fit g vs = length vs == g.order

abbrev pub edges_fit : {K : Type 0} → Shape → List K → Bool
edges_fit g ys = length ys == length g.edges

abbrev pub fits : {K : Type 0} → Shape → Weighting K → Bool
fits g w = vertices_fit g w.vertices && edges_fit g w.edges

abbrev pub Fits : {K : Type 0} → Shape → Weighting K → Type 0
Fits g w = (length w.vertices ≡ g.order) × (length w.edges ≡ length g.edges)

-- as many weights as w has, all lowest
abbrev pub blank : {K : Type 0} → Operations K → Weighting K → Weighting K
blank k w = weighting (replicate (length w.vertices) k.lowest) (replicate (length w.edges) k.lowest)

-- the passes of a graph: over from vertices to edges, and back
abbrev pub passes : {K : Type 0} → Operations K → Shape → Passes (List K) (List K)
passes k g = record {
  join_over = pass_to_edges (joins k) g;
  meet_over = pass_to_edges (meets k) g;
  join_back = pass_to_vertices (joins k) g;
  meet_back = pass_to_vertices (meets k) g;
}

abbrev pub vertex_rounds : {K : Type 0} → Operations K → Shape → Rounds (List K)
vertex_rounds k g = rounds (passes k g)

abbrev pub edge_rounds : {K : Type 0} → Operations K → Shape → Rounds (List K)
edge_rounds k g = rounds (exchanged (passes k g))

-- What a filter makes of a weighting. Neither part reads the other.
abbrev pub filtered : {K : Type 0} → Operations K → Shape → Filter → Weighting K → Weighting K
filtered k g f w = weighting (filter_by (vertex_rounds k g) f.family f.size w.vertices) (filter_by (edge_rounds k g) f.family f.size w.edges)

-- what buffers hold
abbrev pub weights_in : {K : Type 0} → Weights K → Weighting K
weights_in b = weighting b.vertices.now b.edges.now

abbrev pub weights_before : {K : Type 0} → WeightsMut K → Weighting K
weights_before b = weighting b.vertices.now b.edges.now

-- what they hold at the return
abbrev pub weights_after : {K : Type 0} → MutBor (List K) × (MutBor (List K) × Unit {0}) → Weighting K
weights_after b = weighting b.0.now b.1.0.now
