use Rattle.algebra.proofs.Absorption.{alternates_absorb}
use Rattle.algebra.proofs.alternates_absorb.Goals as goal

pub returns : goal.returns
returns g c = alternates_absorb _ _ g.met.K.Kind.lattice
