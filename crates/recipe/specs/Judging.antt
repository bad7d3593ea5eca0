-- A whole text, word by word: the words that it is, or why it is refused.
use Rattle.std.specs.Prelude.{ℕ, ◌+◌, Bool, true, false, cond, not, List, [], ◌∷◌, ◌++◌, length, Some, None, Ok, Err, Option, Result, ◌==◌, nat_le, nat_lt}
use Rattle.refusal.specs.declared.Part.TheVariants as part
use Rattle.refusal.specs.declared.Refusal.{Refusal}
use Rattle.refusal.specs.Reports.{Answer, accepted, refused, refusal_answer}
use Rattle.recipe.specs.declared.drafts.Draft.{Draft}
use Rattle.recipe.specs.declared.turns.Turn.{Turn}
use Rattle.recipe.specs.declared.turns.Turn.TheVariants.{Free, Held}
use Rattle.recipe.specs.declared.words.Word.{Word}
use Rattle.recipe.specs.Shapes.{front, word_of}
use Rattle.recipe.specs.Turns.{turned}

-- a longest run of bytes other than the space, with its place in the text
pub record Run : Type 0 where
  pub place : ℕ
  pub bytes : List ℕ

-- whether a byte is other than the space
abbrev pub in_word : ℕ → Bool
in_word b = not (b == 32)

-- how many bytes at the front are other than the space
abbrev pub word_run : List ℕ → ℕ
word_run bs = front in_word bs

-- whether a word begins right here
abbrev pub opens : List ℕ → Bool
opens [] = false
opens (b ∷ bs) = in_word b

-- the runs once a byte stands before them: is it in a word, and does a word begin after it?
abbrev pub before : ℕ → ℕ → Bool → Bool → List Run → List Run
before at b false next rs = rs
before at b true false rs = record { place = at; bytes = b ∷ [] } ∷ rs
before at b true true [] = record { place = at; bytes = b ∷ [] } ∷ []
before at b true true (r ∷ rs) = record { place = at; bytes = b ∷ r.bytes } ∷ rs

-- the longest runs of a text that begins at a place
abbrev pub runs : ℕ → List ℕ → List Run
runs at [] = []
runs at (b ∷ bs) = before at b (in_word b) (opens bs) (runs (at + 1) bs)

-- the words so far, and the turn after them
pub record Progress : Type 0 where
  pub words : List Word
  pub turn : Turn

-- no words, and nothing held
abbrev pub start : Progress
start = record { words = []; turn = Free }

-- what a draft has so far
abbrev pub progress : Draft → Progress
progress d = record { words = d.words.items; turn = d.turn }

-- a result as an answer, with what there is after it
abbrev pub step_answer : Result (Unit {0}) Refusal → Progress → Answer Progress
step_answer (Ok u) p = accepted p
step_answer (Err e) p = refusal_answer e

-- a word goes in if it is in turn
abbrev pub turned_to : ℕ → Word → Progress → Option Turn → Answer Progress
turned_to at w p None = refused 15 at part.Recipe
turned_to at w p (Some t) = accepted (record { words = p.words ++ w ∷ []; turn = t })

-- a word goes in if there is room, and it is in turn
abbrev pub admitted : ℕ → Word → Progress → Answer Progress
admitted at w p = cond (nat_le 96 (length p.words)) (refused 14 at part.Recipe) (turned_to at w p (turned p.turn w))

-- a word goes in if it is right by itself, there is room, and it is in turn
abbrev pub admitted_word : ℕ → Answer Word → Progress → Answer Progress
admitted_word at (accepted w) p = admitted at w p
admitted_word at (refused number place q) p = refused number place q

-- one run more; the first refusal stays
abbrev pub read_run : Answer Progress → Run → Answer Progress
read_run (accepted p) r = admitted_word r.place (word_of r.place r.bytes) p
read_run (refused number place q) r = refused number place q

-- run after run
abbrev pub read_runs : Answer Progress → List Run → Answer Progress
read_runs p [] = p
read_runs p (r ∷ rs) = read_runs (read_run p r) rs

-- the words of a text of this length, if nothing is held at its end
abbrev pub ended : ℕ → List Word → Turn → Answer (List Word)
ended len ws Free = accepted ws
ended len ws Held = refused 16 len part.Recipe

-- what the runs of a text of this length answer, and then its end
abbrev pub finished : ℕ → Answer Progress → Answer (List Word)
finished len (accepted p) = ended len p.words p.turn
finished len (refused number place q) = refused number place q

-- the words of a text, or why it is refused
abbrev pub judge : List ℕ → Answer (List Word)
judge text = cond (nat_lt 4096 (length text)) (refused 12 0 part.Recipe) (finished (length text) (read_runs (accepted start) (runs 0 text)))
