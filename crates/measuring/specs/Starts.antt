-- The weights to measure with. Assumes nothing.
use Rattle.lattice.specs.Levels.{level_operations}
use Rattle.lattice.specs.declared.levels.Level.{Level}
use Rattle.graph.specs.Shapes.{Shape}
use Rattle.filters.specs.Passes.{meets, pass_to_edges}
use Rattle.filters.specs.Weightings.{Weighting, weighting}
use Rattle.measuring.specs.Draws.{starting_levels}

-- the starting weights of a graph: those of the vertices from the generator, and the meet of the ends of each edge
abbrev pub starting_weights : Shape → Weighting Level
starting_weights g = weighting (starting_levels g.order) (pass_to_edges (meets level_operations) g (starting_levels g.order))
