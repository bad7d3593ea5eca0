use Rattle.std.proofs.Common.{◌≡◌, length, rules}
use Rattle.filters.proofs.Scatters.{scatter_all}
use Rattle.filters.proofs.rounds.exchange.Goals as goal

pub returns-clause-vertices : goal.returns-clause-vertices
returns-clause-vertices g c =
    let len : length c.loop-i.receiving ≡ length c.args.giving.now = search rules in
    scatter_all g.S.Semilattice.side _ _ _ _ c.loop-i.i len c.loop-i-test.false c.loop-i.invariant.2
