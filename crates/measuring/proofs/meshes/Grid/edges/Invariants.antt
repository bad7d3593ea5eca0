use Rattle.std.proofs.Common.{◌≡◌}
use Rattle.measuring.specs.Meshes.{edges_below}
use Rattle.measuring.proofs.meshes.Grid.edges.Given as goal

-- the edges of the vertices so far
abbrev pub invariant-loop-first : goal.invariant-loop-first
invariant-loop-first l = l.edges.items ≡ edges_below l.width l.height l.first
