use Rattle.algebra.proofs.Neighbourhood.{neighbourhoods}
use Rattle.algebra.proofs.neighbourhoods_combine.Goals as goal

pub returns : goal.returns
returns g c = neighbourhoods _ _ g.met.K.Kind.lattice
