use Rattle.std.proofs.Common.{◌≡◌, take, replicate}
use Rattle.filters.proofs.passes.fill.Given as goal

abbrev pub invariant-loop-w : goal.invariant-loop-w
invariant-loop-w g l = take l.w-index l.weights ≡ replicate l.w-index l.fn.weight
