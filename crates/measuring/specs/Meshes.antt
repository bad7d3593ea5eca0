-- The meshes to measure on. Assumes nothing.
use Rattle.std.specs.Prelude.{◌≡◌, ℕ, zero, suc, ◌+◌, ◌*◌, ◌/◌, ◌%◌, ◌↔◌, ◌≤◌, cond, List, [], ◌∷◌, ◌++◌, length, nat_lt}
use Rattle.std.specs.List.{All, Contains}
use Rattle.graph.specs.Graphs.{Within, Rising}
use Rattle.graph.specs.declared.edges.Edge.{Edge}
use Rattle.measuring.specs.Draws.{state_of_draws, drawn}
use Rattle.measuring.specs.declared.meshes.Mesh.{Mesh}
use Rattle.measuring.specs.declared.meshes.Random.{Random as RandomMesh}
use Rattle.measuring.specs.declared.meshes.Mesh.TheVariants.{Grid, Random}

-- how many vertices a mesh has
abbrev pub vertices_of : Mesh → ℕ
vertices_of (Grid g) = g.width * g.height
vertices_of (Random r) = r.n

-- in a grid of this width and height, the edge of vertex v to the right, where v is not the last of its row
abbrev pub edge_right : ℕ → ℕ → List Edge
edge_right width v = cond (nat_lt (v % width + 1) width) (record { first = v; second = v + 1 } ∷ []) []

-- and the edge down, where v is not in the last row
abbrev pub edge_down : ℕ → ℕ → ℕ → List Edge
edge_down width height v = cond (nat_lt (v / width + 1) height) (record { first = v; second = v + width } ∷ []) []

-- those of the first n vertices, one vertex after the other
abbrev pub edges_below : ℕ → ℕ → ℕ → List Edge
edges_below width height zero = []
edges_below width height (suc v) = (edges_below width height v ++ edge_right width v) ++ edge_down width height v

-- the same edges stand in both, whatever their order and number
abbrev pub SameEdges : List Edge → List Edge → Type 0
SameEdges es fs = (e : Edge) → Contains es e ↔ Contains fs e

-- es are the edges of so many draws that came to this state, some of them perhaps repeated, and not too many
pub record Drawing (r : RandomMesh) (state : ℕ) (es : List Edge) : Type 0 where
  pub draws : ℕ
  pub reached : state ≡ state_of_draws r.seed draws
  pub short : length es ≤ r.m
  pub within : All (Within r.n) es
  pub found : SameEdges es (drawn r.seed r.n draws)

-- es are the edges of some number of draws, as many distinct ones as the mesh has, in order
pub record DistinctDraws (r : RandomMesh) (es : List Edge) : Type 0 where
  pub state : ℕ
  pub drawing : Drawing r state es
  pub count : length es ≡ r.m
  pub rising : Rising es

-- es is the edge table of a mesh
abbrev pub TableOf : Mesh → List Edge → Type 0
TableOf (Grid g) es = es ≡ edges_below g.width g.height (g.width * g.height)
TableOf (Random r) es = DistinctDraws r es
