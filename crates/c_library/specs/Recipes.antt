-- The number of words of a recipe text. Assumes nothing.
use Rattle.std.specs.Prelude.{ℕ, List, length}
use Rattle.refusal.specs.Reports.{Answer, accepted, refused}
use Rattle.recipe.specs.declared.words.Word.{Word}

-- what a place for the count holds after a text is read: the number of its words, or at a refusal what it held before
abbrev pub count_after : Answer (List Word) → ℕ → ℕ
count_after (accepted words) old = length words
count_after (refused number place part) old = old
