use Rattle.std.proofs.Common.{◌≡◌, length, refl, ap₂, rules}
use Rattle.graph.specs.Shapes.{shape, shape_of}
use Rattle.filters.specs.Passes.{pass_to_edges, pass_to_vertices}
use Rattle.filters.proofs.Loops.{over_and_back}
use Rattle.filters.proofs.rounds.Work.round.Goals as goal

pub returns : goal.returns
returns g c =
    let over = g.Over.Semilattice.side in
    let back = g.Back.Semilattice.side in
    let work = c.args.self.now in
    let graph = work.graph in
    let table = c.edges-table.result.now in
    let long : length c.exchange.new.receiving ≡ graph.n = search rules in
    let first : shape (length work.vertices.now) table ≡ shape_of graph = ap₂ shape work.vertices_fit c.edges-table.ensures in
    let second : shape (length c.exchange.new.receiving) table ≡ shape_of graph = ap₂ shape long c.edges-table.ensures in (
      (refl, refl, refl),
      over_and_back (pass_to_edges over) (pass_to_vertices back) _ _ _ _ _ _ first second c.exchange.ensures.edges c.exchange-2.ensures.vertices,
      over_and_back (pass_to_vertices over) (pass_to_edges back) _ _ _ _ _ _ first second c.exchange.ensures.vertices c.exchange-2.ensures.edges,
    )
