-- Each turn judges one record more.
use Rattle.std.proofs.lemmas.Result.{err_from_is_err_and}
use Rattle.refusal.specs.Reports.{accepted}
use Rattle.graph.proofs.Loops.{row_more}
use Rattle.graph.proofs.judging.check_records.Goals as goal

pub loop-k-preserved : goal.loop-k-preserved
loop-k-preserved g c =
    row_more g.R.Record.edge_of c.args.n c.loop-k.k c.loop-k.last c.args.records.now _ c.edge-e.result (accepted tt) _ c.loop-k-test.true c.index-records-k.is c.edge-e.ensures c.in_ok-check_record.ensures c.loop-k.invariant

pub returns-in_err-check_record : goal.returns-in_err-check_record
returns-in_err-check_record g c =
    let p = err_from_is_err_and c.from_residual.result c.from_residual.ensures.1 in
    rw (p.1, p.2) (row_more g.R.Record.edge_of c.args.n c.loop-k.k c.loop-k.last c.args.records.now _ c.edge-e.result _ _ c.loop-k-test.true c.index-records-k.is c.edge-e.ensures c.in_err-check_record.ensures c.loop-k.invariant)
