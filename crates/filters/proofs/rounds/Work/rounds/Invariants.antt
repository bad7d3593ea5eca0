use Rattle.filters.specs.Filters.{repeat}
use Rattle.filters.specs.Works.{ChangesByRounds}
use Rattle.filters.proofs.rounds.Work.rounds.Given as goal

-- the rounds done so far
abbrev pub invariant-loop-done : goal.invariant-loop-done
invariant-loop-done g l = ChangesByRounds l.initial.self l.self (λ round. repeat (round g.Over.Semilattice.side g.Back.Semilattice.side) l._done)
