use Rattle.std.proofs.Common.{◌≡◌, ℕ, length}
use denote.Text.{Utf8}
use denote.Shadow.{shadow}
use Rattle.evaluation.specs.Kinds.{reversals, odd}
use Rattle.evaluation.proofs.naming.KindNameFromStr.from_str.Given as goal

-- so many reversals were taken off
abbrev pub invariant-loop-rest : goal.invariant-loop-rest
invariant-loop-rest l = shadow (Utf8 l.name) × ((count : ℕ) × (l.text ≡ reversals count l.name) × (l.reversed ≡ odd count))

abbrev pub decreases-loop-rest : goal.decreases-loop-rest
decreases-loop-rest l = length l.name
