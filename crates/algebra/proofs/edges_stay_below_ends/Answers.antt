use Rattle.algebra.proofs.Absorption.{edges_stay_below_ends}
use Rattle.algebra.proofs.edges_stay_below_ends.Goals as goal

pub returns : goal.returns
returns g c = edges_stay_below_ends _ _ g.met.K.Kind.lattice
