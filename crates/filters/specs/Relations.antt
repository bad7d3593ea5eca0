-- How weights stand on a graph, and how two weightings compare. Assumes nothing.
use Rattle.std.specs.Prelude.{◌≡◌, ℕ, ◌<◌, ◌⊎◌, List, map, length, slice_index_or}
use Rattle.graph.specs.Shapes.{Shape}
use Rattle.graph.specs.declared.edges.Edge.{Edge}
use Rattle.filters.specs.Weightings.{Weighting, weighting}
use Rattle.filters.specs.declared.families.Family.{Family}
use Rattle.filters.specs.declared.families.Filter.{Filter}

-- the filter of a family and a size
abbrev pub filter : Family → ℕ → Filter
filter f n = record { family = f; size = n }

-- x stands at place i
abbrev pub Stands : {X : Type 0} → List X → ℕ → X → Type 0
Stands xs i x = (i < length xs) × (slice_index_or xs i x ≡ x)

-- v is an end of e
abbrev pub End : Edge → ℕ → Type 0
End e v = (e.first ≡ v) ⊎ (e.second ≡ v)

-- y is the weight of an edge at v
pub record AtVertex {K : Type 0} (g : Shape) (ys : List K) (v : ℕ) (y : K) : Type 0 where
  pub place : ℕ
  pub edge : Edge
  pub is_edge : Stands g.edges place edge
  pub end : End edge v
  pub weight : Stands ys place y

-- x is the weight of an end of the edge at place j
pub record AtEdge {K : Type 0} (g : Shape) (xs : List K) (j : ℕ) (x : K) : Type 0 where
  pub edge : Edge
  pub vertex : ℕ
  pub is_edge : Stands g.edges j edge
  pub end : End edge vertex
  pub weight : Stands xs vertex x

-- of two lists of n weights, each is below the other's at its place; the default d plays no part
abbrev pub EachBelow : {K : Type 0} → (K → K → Type 0) → ℕ → List K → List K → Type 0
EachBelow {K} below n xs ys = (i : ℕ) (d : K) → i < n → below (slice_index_or xs i d) (slice_index_or ys i d)

-- one weighting is below another when each weight is
abbrev pub Below : {K : Type 0} → (K → K → Type 0) → Shape → Weighting K → Weighting K → Type 0
Below below g w u = EachBelow below g.order w.vertices u.vertices × EachBelow below (length g.edges) w.edges u.edges

-- each edge weight is below the weights of both its ends
abbrev pub EdgesBelowEnds : {K : Type 0} → (K → K → Type 0) → Shape → Weighting K → Type 0
EdgesBelowEnds {K} below g w = (j : ℕ) (y x : K) → Stands w.edges j y → AtEdge g w.vertices j x → below y x

-- the reading of each weight
abbrev pub read_by : {K L : Type 0} → (K → L) → Weighting K → Weighting L
read_by read w = weighting (map read w.vertices) (map read w.edges)
