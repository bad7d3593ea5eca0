use Rattle.std.proofs.Common.{rules}
use Rattle.lattice.specs.SameValues.{same_level}
use Rattle.lattice.proofs.levels.Level.meaning.Goals as goal

pub returns : goal.returns
returns c = search (rules, same_level)
