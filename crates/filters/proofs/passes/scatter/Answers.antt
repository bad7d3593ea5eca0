use Rattle.std.proofs.Common.{◌≡◌, ◌≤◌, length, arith, rules}
use Rattle.std.proofs.lemmas.Slice.Zip.{zip_end}
use Rattle.filters.proofs.Scatters.{scatter_all}
use Rattle.filters.proofs.passes.scatter.Goals as goal

pub returns : goal.returns
returns g c =
    let table = c.args.table.now in
    let len : length c.loop-e.vertices ≡ length c.args.vertices.now = search rules in
    let turns = zip_end table c.args.edges.now c.loop-e.yielded c.into_iter-e-iterator.result c.loop-e.e-iterator c.next.new.self c.next.result (search rules) (search rules) c.loop-e.yielded_by c.in-None.is c.next.ensures.steps in
    let past : length table ≤ length c.loop-e.yielded = omega (arith, turns, c.requires.along) in
    scatter_all g.S.Semilattice.side _ _ _ _ (length c.loop-e.yielded) len past c.loop-e.invariant
