use Rattle.algebra.proofs.Absorption.{closings_absorb}
use Rattle.algebra.proofs.closings_absorb.Goals as goal

pub returns : goal.returns
returns g c = closings_absorb _ _ g.met.K.Kind.lattice
