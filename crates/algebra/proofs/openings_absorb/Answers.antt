use Rattle.algebra.proofs.Absorption.{openings_absorb}
use Rattle.algebra.proofs.openings_absorb.Goals as goal

pub returns : goal.returns
returns g c = openings_absorb _ _ g.met.K.Kind.lattice
