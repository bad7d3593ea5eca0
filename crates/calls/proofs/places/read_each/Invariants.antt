use Rattle.std.proofs.Common.{◌≡◌, map, take}
use Rattle.calls.proofs.places.read_each.Given as goal

abbrev pub invariant-loop-i : goal.invariant-loop-i
invariant-loop-i g l = take l.i l.images ≡ map (g.R.Reading.image l.reading) (take l.i l.weights)
