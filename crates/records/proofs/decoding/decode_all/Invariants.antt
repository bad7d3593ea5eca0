use Rattle.std.proofs.Common.{◌≡◌, take, length}
use Rattle.records.specs.Formats.{format, values}
use Rattle.records.proofs.decoding.decode_all.Given as goal

-- the weights so far are the values of their records
abbrev pub invariant-loop-i : goal.invariant-loop-i
invariant-loop-i g l = take (length l.yielded) l.weights ≡ values (format g.K.Stored.WIDTH g.K.Stored.parsed) g.K.Kind.operations.lowest (length l.yielded) l.records
