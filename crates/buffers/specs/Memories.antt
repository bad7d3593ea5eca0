-- What memory for the weights of a graph holds. Assumes nothing.
use Rattle.std.specs.Prelude.{ℕ, replicate}
use Rattle.lattice.specs.Lattices.{Operations}
use Rattle.filters.specs.Weightings.{Weighting, weighting}
use Rattle.buffers.specs.declared.memory.Buffers.{Buffers}

-- what buffers hold
abbrev pub held : {K : Type 0} → Buffers K → Weighting K
held b = weighting b.vertices.items b.edges.items

-- n and m weights, all lowest
abbrev pub lowest_weights : {K : Type 0} → Operations K → ℕ → ℕ → Weighting K
lowest_weights k n m = weighting (replicate n k.lowest) (replicate m k.lowest)
