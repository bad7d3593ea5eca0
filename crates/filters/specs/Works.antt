-- What rounds and filters make of the weights that they work on. Assumes nothing.
use Rattle.std.specs.Prelude.{◌≡◌, List}
use Rattle.lattice.specs.Lattices.{Operations}
use Rattle.graph.specs.Shapes.{Shape, shape_of}
use Rattle.filters.specs.Passes.{Side, vertex_round, edge_round}
use Rattle.filters.specs.Filters.{Rounds}
use Rattle.filters.specs.Weightings.{vertex_rounds, edge_rounds}
use Rattle.filters.specs.declared.rounds.Work.{Work}

-- on the same graph, in the same buffers
abbrev pub SamePlaces : {K : Type 0} → Work K → Work K → Type 0
SamePlaces old new =
    (new.graph ≡ old.graph)
    × (new.vertices.ghost_name ≡ old.vertices.ghost_name)
    × (new.edges.ghost_name ≡ old.edges.ghost_name)

-- the weights of the vertices are changed by f, and those of the edges by h, each of the graph
abbrev pub Changes : {K : Type 0} → Work K → Work K → (Shape → List K → List K) → (Shape → List K → List K) → Type 0
Changes old new f h =
    SamePlaces old new
    × (new.vertices.now ≡ f (shape_of old.graph) old.vertices.now)
    × (new.edges.now ≡ h (shape_of old.graph) old.edges.now)

-- either sort is changed by f, from its rounds over by one side and back by another
abbrev pub ChangesByRounds : {K : Type 0} → Work K → Work K → ((Side K → Side K → List K → List K) → List K → List K) → Type 0
ChangesByRounds old new f = Changes old new (λ g. f (λ over back. vertex_round over back g)) (λ g. f (λ over back. edge_round over back g))

-- either sort is changed by f, from the rounds of its filters
abbrev pub ChangesByFilter : {K : Type 0} → Operations K → Work K → Work K → (Rounds (List K) → List K → List K) → Type 0
ChangesByFilter k old new f = Changes old new (λ g. f (vertex_rounds k g)) (λ g. f (edge_rounds k g))
