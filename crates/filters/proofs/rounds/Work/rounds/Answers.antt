use Rattle.filters.specs.Passes.{vertex_round, edge_round}
use Rattle.filters.proofs.Loops.{repeat_more}
use Rattle.filters.proofs.rounds.Work.rounds.Goals as goal

pub loop-done-preserved : goal.loop-done-preserved
loop-done-preserved g c =
    let over = g.Over.Semilattice.side in
    let back = g.Back.Semilattice.side in
    repeat_more c.args.self.now c.loop-done.self c.round.new.self (vertex_round over back) (edge_round over back) c.loop-done._done c.loop-done.invariant c.round.ensures
