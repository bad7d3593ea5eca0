-- What the records that are left are answered is what all are answered.
use Rattle.std.proofs.Common.{◌≡◌, drop, map, None}
use Rattle.graph.specs.Verdicts.{records_verdict}
use Rattle.graph.proofs.judging.check_records.Given as goal

-- what is left to judge decides
abbrev pub invariant-loop-k : goal.invariant-loop-k
invariant-loop-k g l =
    let es = map g.R.Record.edge_of l.records in
    records_verdict l.n l.k l.last (drop l.k es) ≡ records_verdict l.n 0 None es
