-- The choices for recipes::Recipe::text: its loop's invariant.
use Rattle.std.proofs.Common.{◌≡◌, ◌++◌, take}
use Rattle.std.specs.List.{flat_map}
use Rattle.recipe.specs.Written.{spaced}
use Rattle.recipe.proofs.recipes.Recipe.text.Given as goal

abbrev pub invariant-loop-word : goal.invariant-loop-word
invariant-loop-word l = l.text.bytes ≡ l.initial.text.bytes ++ flat_map spaced (take l.word-index l.rest)
