use Rattle.std.proofs.Common.{◌≡◌, length}
use Rattle.refusal.specs.Reports.{accepted}
use Rattle.records.specs.Formats.{format}
use Rattle.records.specs.Verdicts.{first_refusal, edge_verdict, edge_at}
use Rattle.records.proofs.judging.judge_edges.Given as goal

-- no record so far is refused
abbrev pub invariant-loop-j : goal.invariant-loop-j
invariant-loop-j g l =
    first_refusal (λ j. edge_verdict g.K.Kind.leq (format g.K.Stored.WIDTH g.K.Stored.parsed) l.n l.vertex_records l.edge_records j (edge_at l.table j)) (length l.yielded) ≡ accepted tt
