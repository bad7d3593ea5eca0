-- The choices for showing::RecipeDisplay::fmt: its loop's invariant.
use Rattle.std.proofs.Common.{take}
use Rattle.std.specs.List.{flat_map}
use Rattle.std.specs.Fmt.{IsPlainFormatter, HasWritten}
use Rattle.recipe.specs.Written.{spaced}
use Rattle.recipe.proofs.showing.RecipeDisplay.fmt.Given as goal

abbrev pub invariant-loop-word : goal.invariant-loop-word
invariant-loop-word g l = IsPlainFormatter {W = g.row.W.Denot} l.initial.f → HasWritten g.W.Write.write_str_gives l.initial.f (flat_map spaced (take l.word-index l.rest)) l.f
