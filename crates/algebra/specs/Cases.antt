-- Small cases of the laws. Each follows from its law alone, whatever the operations are: a law that says less does not give it.
-- Assumes nothing.
use Rattle.std.specs.Prelude.{◌≡◌, ℕ, ◌<◌, slice_index_or}
use Rattle.lattice.specs.Lattices.{Operations}
use Rattle.graph.specs.Shapes.{Shape, Accepted}
use Rattle.filters.specs.Passes.{joins, meets, pass_to_vertices}
use Rattle.filters.specs.Relations.{filter, Below, Stands, AtVertex, EdgesBelowEnds}
use Rattle.filters.specs.Weightings.{Weighting, Fits, filtered}
use Rattle.filters.specs.declared.families.Family.{Family}
use Rattle.filters.specs.declared.families.Family.TheVariants.{Dilation, Erosion, Opening, Closing, Alternate}
use Rattle.algebra.specs.Laws.{AllPassesCombine, DilationAdjoint, OpeningsAbsorb, ClosingsAbsorb, AlternatesAbsorb, EdgesStayBelowEnds, HasEdge, Neighbours, Neighbourhoods}

-- what one filter makes of the weights
abbrev by : {K : Type 0} → Operations K → Shape → Family → ℕ → Weighting K → Weighting K
by k g f n w = filtered k g (filter f n) w

-- said of every weighting of every accepted graph
abbrev OfAll : {K : Type 0} → (Shape → Weighting K → Type 0) → Type 0
OfAll {K} P = (g : Shape) → Accepted g → (w : Weighting K) → Fits g w → P g w

-- the first filter, and then the second, leave what the third leaves
abbrev Leave : {K : Type 0} → Operations K → Family → ℕ → ℕ → ℕ → Type 0
Leave k f m n largest = OfAll (λ g w. by k g f n (by k g f m w) ≡ by k g f largest w)

pub record SmallCases {K : Type 0} (below : K → K → Type 0) (k : Operations K) : Type 0 where
  pub rising_openings : OpeningsAbsorb k → Leave k Opening 1 2 2
  pub falling_openings : OpeningsAbsorb k → Leave k Opening 2 1 2
  pub rising_closings : ClosingsAbsorb k → Leave k Closing 1 2 2
  pub falling_closings : ClosingsAbsorb k → Leave k Closing 2 1 2
  pub rising_alternates : AlternatesAbsorb k → Leave k Alternate 1 2 2
  pub equal_alternates : AlternatesAbsorb k → Leave k Alternate 2 2 2
  pub above_erosion : DilationAdjoint below k → OfAll (λ g w. (u : Weighting K) → Fits g u → Below below g (by k g Dilation 1 w) u → Below below g w (by k g Erosion 1 u))
  pub below_dilation : DilationAdjoint below k → OfAll (λ g w. (u : Weighting K) → Fits g u → Below below g w (by k g Erosion 1 u) → Below below g (by k g Dilation 1 w) u)
  pub opened_edges : EdgesStayBelowEnds below k → OfAll (λ g w. EdgesBelowEnds below g w → EdgesBelowEnds below g (by k g Opening 1 w))
  -- a vertex without edges gets the lowest from a join over nothing, and the highest from a meet over nothing
  pub empty_join : AllPassesCombine below k → OfAll (λ g w. (v : ℕ) (d z : K) → v < g.order → ((y : K) → AtVertex g w.edges v y → ⊥)
      → below (slice_index_or (pass_to_vertices (joins k) g w.edges) v d) z)
  pub empty_meet : AllPassesCombine below k → OfAll (λ g w. (v : ℕ) (d z : K) → v < g.order → ((y : K) → AtVertex g w.edges v y → ⊥)
      → below z (slice_index_or (pass_to_vertices (meets k) g w.edges) v d))
  -- the weight of a neighbour is below what D1 gives, and above what E1 gives
  pub dilated_neighbour : Neighbourhoods below k → OfAll (λ g w. ((v : ℕ) → v < g.order → HasEdge g v) → (u v : ℕ) (x d : K) → v < g.order → Neighbours g u v
      → Stands w.vertices u x → below x (slice_index_or (by k g Dilation 1 w).vertices v d))
  pub eroded_neighbour : Neighbourhoods below k → OfAll (λ g w. ((v : ℕ) → v < g.order → HasEdge g v) → (u v : ℕ) (x d : K) → v < g.order → Neighbours g u v
      → Stands w.vertices u x → below (slice_index_or (by k g Erosion 1 w).vertices v d) x)
