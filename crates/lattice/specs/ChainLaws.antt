-- Presences, levels and the reversal of a chain are chains. Assumes nothing.
use Rattle.std.proofs.Common.{Bool, rules}
use Rattle.lattice.specs.Chains.{Total}
use Rattle.lattice.specs.Levels.{level_below, level_leq}
use Rattle.lattice.specs.Presences.{presence_below, presence_leq}
use Rattle.lattice.specs.Reversals.{reversed_below, reversed_leq}

pub presence_total : Total presence_below presence_leq
presence_total = search rules

pub level_total : Total level_below level_leq
level_total = search rules

pub reversed_total : {K : Type 0} {below : K → K → Type 0} {leq : K → K → Bool} → Total below leq → Total (reversed_below below) (reversed_leq leq)
reversed_total t = record {
  exact = λ x y. t.exact y.inner x.inner;
  otherwise = λ x y. t.otherwise y.inner x.inner;
}
