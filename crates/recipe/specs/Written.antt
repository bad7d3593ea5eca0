-- How a recipe is written: its words with one space between.
use Rattle.std.specs.Prelude.{ℕ, ◌+◌, cond, List, [], ◌∷◌, ◌++◌, length, take, drop, decimal, nat_lt}
use Rattle.std.specs.List.{flat_map}
use Rattle.refusal.specs.declared.Part.TheVariants as part
use Rattle.refusal.specs.Reports.{Answer, accepted, refused}
use Rattle.recipe.specs.declared.words.Word.{Word}
use Rattle.recipe.specs.declared.words.Word.TheVariants.{Step, Hold, Join, Meet, Forget}
use Rattle.recipe.specs.Grammar.{letter}

-- the bytes of a word: its letter, with the digits of its size
abbrev pub spelling : Word → List ℕ
spelling (Step f) = letter f.family ∷ decimal f.size
spelling Hold = 72 ∷ []
spelling Join = 74 ∷ []
spelling Meet = 77 ∷ []
spelling Forget = 70 ∷ []

-- a space and a word
abbrev pub spaced : Word → List ℕ
spaced w = 32 ∷ spelling w

-- the words with one space between
abbrev pub written : List Word → List ℕ
written [] = []
written (w ∷ ws) = spelling w ++ flat_map spaced ws

-- bytes put over others, from a place on
abbrev pub placed : List ℕ → ℕ → List ℕ → List ℕ
placed bytes at put = take at bytes ++ (put ++ drop (at + length put) bytes)

-- the answer where a text is to be written over a buffer: its length, or 18 where the buffer is shorter
abbrev pub write_answer : List ℕ → List ℕ → Answer ℕ
write_answer text buffer = cond (nat_lt (length buffer) (length text)) (refused 18 0 part.Recipe) (accepted (length text))

-- the buffer then: the text at the front and the later bytes as they were, or every byte as it was
abbrev pub overwritten : List ℕ → List ℕ → List ℕ
overwritten text buffer = cond (nat_lt (length buffer) (length text)) buffer (text ++ drop (length text) buffer)
