-- What holds of the filters, for every lattice and every graph that is accepted. Assumes nothing.
use Rattle.std.specs.Prelude.{◌≡◌, ℕ, ◌<◌, ◌≤◌, max, ◌⊎◌, ◌↔◌, List, [], ◌∷◌, length, slice_index_or}
use Rattle.lattice.specs.Lattices.{turned, Operations, Supremum}
use Rattle.graph.specs.Shapes.{Shape, Accepted}
use Rattle.graph.specs.declared.edges.Edge.{Edge}
use Rattle.filters.specs.Passes.{joins, meets, pass_to_edges, pass_to_vertices}
use Rattle.filters.specs.Relations.{filter, Stands, End, AtVertex, AtEdge, Below, EdgesBelowEnds, read_by}
use Rattle.filters.specs.Weightings.{Weighting, Fits, filtered}
use Rattle.filters.specs.declared.families.Family.{Family}
use Rattle.filters.specs.declared.families.Family.TheVariants.{Dilation, Erosion, Opening, Closing, Alternate}
use Rattle.filters.specs.declared.families.Filter.{Filter}

-- each weight of the list that a pass makes is the supremum of those that P names at its place
abbrev pub Suprema : {K : Type 0} → (K → K → Type 0) → (ℕ → K → Type 0) → ℕ → List K → Type 0
Suprema {K} below P n xs = (i : ℕ) (d : K) → i < n → Supremum below (P i) (slice_index_or xs i d)

-- A join pass gives the least weight above those that it combines, a meet pass the greatest below: to a vertex from the edges
-- at it, to an edge from its ends.
pub record PassesCombine {K : Type 0} (below : K → K → Type 0) (k : Operations K) (g : Shape) (w : Weighting K) : Type 0 where
  pub join_to_vertices : Suprema below (AtVertex g w.edges) g.order (pass_to_vertices (joins k) g w.edges)
  pub meet_to_vertices : Suprema (turned below) (AtVertex g w.edges) g.order (pass_to_vertices (meets k) g w.edges)
  pub join_to_edges : Suprema below (AtEdge g w.vertices) (length g.edges) (pass_to_edges (joins k) g w.vertices)
  pub meet_to_edges : Suprema (turned below) (AtEdge g w.vertices) (length g.edges) (pass_to_edges (meets k) g w.vertices)

abbrev pub AllPassesCombine : {K : Type 0} → (K → K → Type 0) → Operations K → Type 0
AllPassesCombine {K} below k = (g : Shape) → Accepted g → (w : Weighting K) → Fits g w → PassesCombine below k g w

-- one weighting dilated is below another exactly where it is below the other eroded
abbrev pub DilationAdjoint : {K : Type 0} → (K → K → Type 0) → Operations K → Type 0
DilationAdjoint {K} below k = (g : Shape) → Accepted g → (n : ℕ) (w u : Weighting K) → Fits g w → Fits g u →
    Below below g (filtered k g (filter Dilation n) w) u ↔ Below below g w (filtered k g (filter Erosion n) u)

-- f of each size in turn
abbrev pub in_turn : {X : Type 0} → (ℕ → X → X) → List ℕ → X → X
in_turn f [] x = x
in_turn f (n ∷ ns) x = in_turn f ns (f n x)

abbrev pub largest : ℕ → List ℕ → ℕ
largest n [] = n
largest n (m ∷ ms) = largest (max n m) ms

abbrev pub last_of : ℕ → List ℕ → ℕ
last_of n [] = n
last_of n (m ∷ ms) = last_of m ms

-- no size is under the one before
abbrev pub NeverFalls : ℕ → List ℕ → Type 0
NeverFalls n [] = Unit {0}
NeverFalls n (m ∷ ms) = (n ≤ m) × NeverFalls m ms

-- filters of a family, of these sizes in turn, leave what the one of size n leaves
abbrev pub Leaves : {K : Type 0} → Operations K → Family → List ℕ → ℕ → Type 0
Leaves {K} k f sizes n = (g : Shape) → Accepted g → (w : Weighting K) → Fits g w → in_turn (λ s. filtered k g (filter f s)) sizes w ≡ filtered k g (filter f n) w

-- openings of any sizes in any order leave what the largest alone leaves
abbrev pub OpeningsAbsorb : {K : Type 0} → Operations K → Type 0
OpeningsAbsorb k = (size : ℕ) (sizes : List ℕ) → Leaves k Opening (size ∷ sizes) (largest size sizes)

-- and closings likewise
abbrev pub ClosingsAbsorb : {K : Type 0} → Operations K → Type 0
ClosingsAbsorb k = (size : ℕ) (sizes : List ℕ) → Leaves k Closing (size ∷ sizes) (largest size sizes)

-- alternate filters of sizes that never fall leave what the last alone leaves
abbrev pub AlternatesAbsorb : {K : Type 0} → Operations K → Type 0
AlternatesAbsorb k = (size : ℕ) (sizes : List ℕ) → NeverFalls size sizes → Leaves k Alternate (size ∷ sizes) (last_of size sizes)

-- where that is so, every filter keeps it so
abbrev pub EdgesStayBelowEnds : {K : Type 0} → (K → K → Type 0) → Operations K → Type 0
EdgesStayBelowEnds {K} below k = (g : Shape) → Accepted g → (f : Filter) (w : Weighting K) → Fits g w → EdgesBelowEnds below g w → EdgesBelowEnds below g (filtered k g f w)

-- v has an edge
pub record HasEdge (g : Shape) (v : ℕ) : Type 0 where
  pub place : ℕ
  pub edge : Edge
  pub is_edge : Stands g.edges place edge
  pub end : End edge v

-- an edge joins u and v
pub record Neighbours (g : Shape) (u v : ℕ) : Type 0 where
  pub place : ℕ
  pub edge : Edge
  pub is_edge : Stands g.edges place edge
  pub ends : ((edge.first ≡ u) × (edge.second ≡ v)) ⊎ ((edge.first ≡ v) × (edge.second ≡ u))

-- x is the weight of v or of a neighbour of v
pub record Near {K : Type 0} (g : Shape) (xs : List K) (v : ℕ) (x : K) : Type 0 where
  pub vertex : ℕ
  pub near : (vertex ≡ v) ⊎ Neighbours g vertex v
  pub weight : Stands xs vertex x

-- where each vertex has an edge, D1 gives a vertex the join of its own and its neighbours' weights, and E1 the meet
abbrev pub Neighbourhoods : {K : Type 0} → (K → K → Type 0) → Operations K → Type 0
Neighbourhoods {K} below k = (g : Shape) → Accepted g → ((v : ℕ) → v < g.order → HasEdge g v) → (w : Weighting K) → Fits g w →
    Suprema below (Near g w.vertices) g.order (filtered k g (filter Dilation 1) w).vertices
    × Suprema (turned below) (Near g w.vertices) g.order (filtered k g (filter Erosion 1) w).vertices

-- to read a filtered weighting is to filter the weighting read
abbrev pub FiltersCommute : {K L : Type 0} → Operations K → Operations L → (K → L) → Type 0
FiltersCommute {K} k l read = (g : Shape) (f : Filter) (w : Weighting K) → read_by read (filtered k g f w) ≡ filtered l g f (read_by read w)
