use Rattle.std.proofs.Common.{◌≡◌, ◌++◌, take, drop}
use Rattle.stories.specs.Words.{each}
use Rattle.calls.proofs.places.combine_each.Given as goal

-- the weights passed are combined, and what is left decides
abbrev pub invariant-loop-i : goal.invariant-loop-i
invariant-loop-i g l =
    let op = g.S.Semilattice.side.combine in
    take l.i l.weights ++ each op (drop l.i l.weights) (drop l.i l.held) ≡ each op l.initial.weights l.held
