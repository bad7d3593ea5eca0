-- The choices for lines::LineDisplay::fmt: its loop's invariant.
use Rattle.std.proofs.Common.{take}
use Rattle.std.specs.Option.{IfSome}
use Rattle.std.specs.Fmt.{IsPlainFormatter, HasWritten}
use Rattle.buffers.specs.Lines.{spaced}
use Rattle.buffers.proofs.lines.LineDisplay.fmt.Given as goal

abbrev pub invariant-loop-weight : goal.invariant-loop-weight
invariant-loop-weight g l = IsPlainFormatter {W = g.row.W.Denot} l.initial.f → IfSome (spaced g.K.Display.output (take l.weight-index l.rest)) (λ bs. HasWritten g.W.Write.write_str_gives l.initial.f bs l.f)
