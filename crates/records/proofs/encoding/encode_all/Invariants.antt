use Rattle.std.proofs.Common.{◌≡◌, ◌*◌, take}
use Rattle.std.specs.List.{flat_map}
use Rattle.records.proofs.encoding.encode_all.Given as goal

-- the bytes so far are the records of the weights so far
abbrev pub invariant-loop-i : goal.invariant-loop-i
invariant-loop-i g l = take (l.i * g.K.Stored.WIDTH) l.records ≡ flat_map g.K.Stored.written (take l.i l.weights)
