-- What is answered to an edge table is right.
use Rattle.graph.proofs.Answering.{judged, judged_made}
use Rattle.graph.proofs.judging.accept_table.Goals as goal

pub returns : goal.returns
returns c =
    let said = c.check_table.ensures in
    let right = judged _ _ _ said in
    record { verdict = said; judged = right; sound = judged_made _ _ _ right }
