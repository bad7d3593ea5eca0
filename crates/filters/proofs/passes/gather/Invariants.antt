use Rattle.std.proofs.Common.{◌≡◌, map, take}
use Rattle.filters.specs.Passes.{over_ends}
use Rattle.filters.proofs.passes.gather.Given as goal

abbrev pub invariant-loop-i : goal.invariant-loop-i
invariant-loop-i g l = take l.i l.edges ≡ map (over_ends g.S.Semilattice.side l.vertices) (take l.i l.table)
