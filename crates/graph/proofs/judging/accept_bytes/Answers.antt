-- What is answered to a graph file is right.
use Rattle.std.proofs.Common.{ap, ◌∙◌}
use Rattle.graph.specs.Files.{file_records}
use Rattle.graph.proofs.Answering.{file_judged}
use Rattle.graph.proofs.RoundTrip.{round_trip}
use Rattle.graph.proofs.judging.accept_bytes.Goals as goal

pub returns : goal.returns
returns c =
    let said = c.check_bytes.ensures in
    record { verdict = said; judged = file_judged _ _ _ _ said; read_back = λ es same. ap file_records same ∙ round_trip es }
