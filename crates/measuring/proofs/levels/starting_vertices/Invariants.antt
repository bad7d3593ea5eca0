use Rattle.std.proofs.Common.{◌≡◌}
use Rattle.measuring.specs.Draws.{state, starting_levels}
use Rattle.measuring.proofs.levels.starting_vertices.Given as goal

-- so many weights are drawn
abbrev pub invariant-loop : goal.invariant-loop
invariant-loop l = (l.generator.state ≡ state 1 l.counter) × (l.vertices.items ≡ starting_levels l.counter)
