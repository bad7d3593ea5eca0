use Rattle.std.proofs.Common.{◌≡◌, ℕ, ◌*◌, length}
use Rattle.refusal.specs.Reports.{accepted}
use Rattle.records.specs.Formats.{format}
use Rattle.records.specs.Verdicts.{first_refusal, vertex_verdict}
use Rattle.records.proofs.judging.judge_vertices.Given as goal

-- no record so far is refused
abbrev pub invariant-loop-i : goal.invariant-loop-i
invariant-loop-i g l =
    (n : ℕ) → length l.records ≡ n * g.K.Stored.WIDTH → first_refusal (vertex_verdict (format g.K.Stored.WIDTH g.K.Stored.parsed) l.records) (length l.yielded) ≡ accepted tt
