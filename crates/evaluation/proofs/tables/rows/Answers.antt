use Rattle.std.proofs.Common.{⊎_elim}
use Rattle.evaluation.proofs.Rows.{whole_file, refused_file}
use Rattle.evaluation.proofs.tables.rows.Goals as goal

pub returns-then-count-le-MOST_RECORDS-clause-judged : goal.returns-then-count-le-MOST_RECORDS-clause-judged
returns-then-count-le-MOST_RECORDS-clause-judged c n = whole_file n c.args.bytes.now

pub returns-else-bytes-eq0-clause-judged : goal.returns-else-bytes-eq0-clause-judged
returns-else-bytes-eq0-clause-judged c n =
    refused_file n c.args.bytes.now (λ whole. ⊎_elim (λ p. p.1) (λ broken. absurd (broken whole)) c.else-bytes-eq0.either)
