-- A graph as its vertices and edges, apart from where its edge table lies. Assumes nothing.
use Rattle.std.specs.Prelude.{ℕ, List}
use Rattle.graph.specs.declared.edges.Edge.{Edge}
use Rattle.graph.specs.declared.graphs.Graph.{Graph}
use Rattle.graph.specs.Graphs.{Sound}

-- the number of vertices, and the edges in order
pub record Shape : Type 0 where
  pub order : ℕ
  pub edges : List Edge

abbrev pub shape : ℕ → List Edge → Shape
shape n es = record { order = n; edges = es }

abbrev pub shape_of : Graph → Shape
shape_of g = shape g.n g.edges.now

-- the shape is that of a graph that is accepted
abbrev pub Accepted : Shape → Type 0
Accepted g = Sound g.order g.edges
