-- The words of a recipe, and what reading a text answers by them.
use Rattle.std.specs.Prelude.{List, Ok, Err, Result}
use Rattle.refusal.specs.declared.Refusal.{Refusal}
use Rattle.refusal.specs.Reports.{Answer, accepted, refused, refusal_answer}
use Rattle.recipe.specs.declared.recipes.Recipe.{Recipe}
use Rattle.recipe.specs.declared.words.Word.{Word}

-- the words, in their order
abbrev pub recipe_words : Recipe → List Word
recipe_words r = r.words.items

-- a result as an answer, a recipe by its words
abbrev pub read_answer : Result Recipe Refusal → Answer (List Word)
read_answer (Ok r) = accepted (recipe_words r)
read_answer (Err e) = refusal_answer e

-- an answer that does not say the words
abbrev pub without_words : Answer (List Word) → Answer (Unit {0})
without_words (accepted ws) = accepted tt
without_words (refused number place part) = refused number place part

-- the words of a place after an answer: the new ones, or the old ones at a refusal
abbrev pub words_after : Answer (List Word) → List Word → List Word
words_after (accepted ws) old = ws
words_after (refused number place part) old = old
