use Rattle.algebra.proofs.Absorption.{dilation_adjoint}
use Rattle.algebra.proofs.dilation_is_adjoint.Goals as goal

pub returns : goal.returns
returns g c = dilation_adjoint _ _ g.met.K.Kind.lattice
