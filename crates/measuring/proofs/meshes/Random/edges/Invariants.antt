use Rattle.graph.specs.Graphs.{Rising}
use Rattle.measuring.specs.Meshes.{Drawing}
use Rattle.measuring.proofs.meshes.Random.edges.Given as goal

-- the edges of the draws so far, each once
abbrev pub invariant-loop : goal.invariant-loop
invariant-loop l = Drawing l.self l.generator.state l.edges.items × Rising l.edges.items
