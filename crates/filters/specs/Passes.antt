-- The four passes between the weights of a graph's vertices and those of its edges. Assumes nothing.
use Rattle.std.specs.Prelude.{ℕ, Bool, cond, ◌||◌, List, [], ◌∷◌, map, ◌==◌, slice_index_or}
use Rattle.std.specs.List.{range_with_len}
use Rattle.lattice.specs.Lattices.{Operations}
use Rattle.graph.specs.Shapes.{Shape}
use Rattle.graph.specs.declared.edges.Edge.{Edge}

-- a way to combine weights: an operation, and the weight that changes nothing under it
pub record Side (K : Type 0) : Type 0 where
  pub neutral : K
  pub combine : K → K → K

-- by join, from the lowest on
abbrev pub joins : {K : Type 0} → Operations K → Side K
joins k = record { neutral = k.lowest; combine = k.join }

-- by meet, from the highest on
abbrev pub meets : {K : Type 0} → Operations K → Side K
meets k = record { neutral = k.highest; combine = k.meet }

-- the weights of the two ends of e, combined
abbrev pub over_ends : {K : Type 0} → Side K → List K → Edge → K
over_ends s xs e = s.combine (slice_index_or xs e.first s.neutral) (slice_index_or xs e.second s.neutral)

-- each edge gets the weights of its ends, combined
abbrev pub pass_to_edges : {K : Type 0} → Side K → Shape → List K → List K
pass_to_edges s g xs = map (over_ends s xs) g.edges

-- v is an end of e
abbrev pub touches : Edge → ℕ → Bool
touches e v = e.first == v || e.second == v

-- the weights of those edges that v is an end of, combined one after the other into the weight at hand
abbrev pub over_edges_at : {K : Type 0} → Side K → ℕ → K → List Edge → List K → K
over_edges_at s v x [] ys = x
over_edges_at s v x (e ∷ es) [] = x
over_edges_at s v x (e ∷ es) (y ∷ ys) = over_edges_at s v (cond (touches e v) (s.combine x y) x) es ys

-- each vertex gets the weights of all edges at it, combined, and the neutral weight where it has none
abbrev pub pass_to_vertices : {K : Type 0} → Side K → Shape → List K → List K
pass_to_vertices s g ys = map (λ v. over_edges_at s v s.neutral g.edges ys) (range_with_len 0 g.order)

-- vertex weights over to the edges, and back to the vertices
abbrev pub vertex_round : {K : Type 0} → Side K → Side K → Shape → List K → List K
vertex_round over back g xs = pass_to_vertices back g (pass_to_edges over g xs)

-- edge weights over to the vertices, and back to the edges
abbrev pub edge_round : {K : Type 0} → Side K → Side K → Shape → List K → List K
edge_round over back g ys = pass_to_edges back g (pass_to_vertices over g ys)
