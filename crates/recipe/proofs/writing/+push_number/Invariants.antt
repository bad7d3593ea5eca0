-- The choices for writing::push_number: its measure.
use Rattle.recipe.proofs.writing.+push_number.Given as goal

abbrev pub decreases-push_number : goal.decreases-push_number
decreases-push_number l = l.number
