use Rattle.std.proofs.Common.{rules}
use Rattle.buffers.proofs.Printing.{weight_written, where_known}
use Rattle.buffers.proofs.lines.LineDisplay.fmt.Goals as goal

-- src/lines.rt:19:9
pub loop-weight-preserved : goal.loop-weight-preserved
loop-weight-preserved g c = λ p. weight_written _ g.K.Display.output _ _ _ _ c.loop-weight.weight-index c.weight-item.result (search rules) (search rules) (c.loop-weight.invariant p) (where_known _ _ _ _ _ c.in_ok-write-2.ensures.writes)
