-- The chunks of eight bytes are the records.
use Rattle.std.proofs.Common.{ap, ◌∙◌, map}
use Rattle.graph.specs.Files.{record_at}
use Rattle.graph.proofs.Chunks.{records_in_chunks}
use Rattle.graph.proofs.records.records_in.Goals as goal

pub returns : goal.returns
returns c = ap (map (λ r. record_at r 0)) c.as_chunks.ensures.front ∙ records_in_chunks c.args.bytes.now
