-- The rows so far are written.
use Rattle.std.proofs.Common.{◌≡◌, map, take}
use Rattle.graph.proofs.judging.copy_records.Given as goal

abbrev pub invariant-loop-k : goal.invariant-loop-k
invariant-loop-k g l = take l.k l.table ≡ take l.k (map g.R.Record.edge_of l.records)
