use Rattle.measuring.specs.Meshes.{Drawing}
use Rattle.measuring.proofs.meshes.Random.draw.Given as goal

abbrev pub invariant-loop : goal.invariant-loop
invariant-loop l = Drawing l.self l.generator.state l.edges.items
