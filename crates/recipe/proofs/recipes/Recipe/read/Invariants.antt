-- The choices for recipes::Recipe::read: its loop's invariant and measure.
use Rattle.std.proofs.Common.{◌≡◌, ◌-◌, ◌≤◌, length, drop}
use Rattle.refusal.specs.Reports.{accepted}
use Rattle.recipe.specs.Judging.{start, progress, runs, read_runs}
use Rattle.recipe.proofs.recipes.Recipe.read.Given as goal

abbrev pub invariant-loop-at : goal.invariant-loop-at
invariant-loop-at l = (l.at ≤ length l.text) × (read_runs (accepted (progress l.draft)) (runs l.at (drop l.at l.text)) ≡ read_runs (accepted start) (runs 0 l.text))

abbrev pub decreases-loop-at : goal.decreases-loop-at
decreases-loop-at l = length l.text - l.at
