use Rattle.algebra.proofs.Suprema.{all_passes_combine}
use Rattle.algebra.proofs.passes_combine.Goals as goal

pub returns : goal.returns
returns g c = all_passes_combine _ _ g.met.K.Kind.lattice
