-- Each turn writes one row more.
use Rattle.std.proofs.Common.{arith}
use Rattle.graph.proofs.Loops.{row_written}
use Rattle.graph.proofs.judging.copy_records.Goals as goal

pub loop-k-preserved : goal.loop-k-preserved
loop-k-preserved g c =
    row_written g.R.Record.edge_of c.loop-k.k c.args.records.now c.loop-k.table _ c.edge.result (omega (arith, c.requires)) (omega (arith, c.requires)) c.index-records-k.is c.edge.ensures c.loop-k.invariant
