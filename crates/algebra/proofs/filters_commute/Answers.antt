use Rattle.algebra.proofs.Morphic.{filters_commute}
use Rattle.algebra.proofs.filters_commute.Goals as goal

pub returns : goal.returns
returns g c read kept = filters_commute _ _ read kept
