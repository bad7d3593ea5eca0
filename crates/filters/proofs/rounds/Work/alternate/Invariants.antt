use Rattle.std.proofs.Common.{◌≡◌, ℕ, suc, ◌≤◌}
use Rattle.filters.specs.Filters.{alternated}
use Rattle.filters.specs.Works.{ChangesByFilter}
use Rattle.filters.proofs.rounds.Work.alternate.Given as goal

-- the closings and openings done so far, of the sizes under s
abbrev pub invariant-loop-s : goal.invariant-loop-s
invariant-loop-s g l = (l.s ≤ suc l.size) × ((n : ℕ) → suc n ≡ l.s → ChangesByFilter g.K.Kind.operations l.initial.self l.self (λ r. alternated r n))
