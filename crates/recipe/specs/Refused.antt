-- Why a text is refused: its first word at fault, after words that are not, or its end.
use Rattle.std.specs.Prelude.{◌≡◌, ℕ, ◌+◌, ◌<◌, ◌≤◌, List, [], ◌∷◌, ◌++◌, length, None, ◌≢◌}
use Rattle.filters.specs.declared.families.Family.{Family}
use Rattle.refusal.specs.declared.Part.{Part}
use Rattle.refusal.specs.declared.Part.TheVariants as part
use Rattle.recipe.specs.declared.turns.Turn.{Turn}
use Rattle.recipe.specs.declared.turns.Turn.TheVariants.{Free, Held}
use Rattle.recipe.specs.declared.words.Word.{Word}
use Rattle.recipe.specs.Departs.{Departs}
use Rattle.recipe.specs.Grammar.{Number, letter, Spells, Ends, SpellsAll}
use Rattle.recipe.specs.Legal.{Leads}
use Rattle.recipe.specs.Shapes.{numeral}
use Rattle.recipe.specs.Turns.{turned}

-- no space among the bytes
abbrev pub NoSpace : List ℕ → Type 0
NoSpace [] = Unit {0}
NoSpace (b ∷ bs) = (b ≢ 32) × NoSpace bs

-- empty, or a space comes last
abbrev pub Separated : List ℕ → Type 0
Separated [] = Unit {0}
Separated (b ∷ []) = b ≡ 32
Separated (b ∷ c ∷ bs) = Separated (c ∷ bs)

-- a step of a right shape whose size is not 1 to 200
pub record SizeOutside (bytes : List ℕ) : Type 0 where
  pub family : Family
  pub digits : List ℕ
  pub is : bytes ≡ letter family ∷ digits
  pub number : Number digits
  pub size : 1 ≤ numeral 0 digits → numeral 0 digits ≤ 200 → ⊥

-- why the word of these bytes, which begins at a place, is at fault after these words and at this turn: number, place, part
pub data Fault (ws : List Word) (turn : Turn) (at : ℕ) (bytes : List ℕ) : ℕ → ℕ → Part → Type 0 where
  wrong_shape : (k : ℕ) → Departs bytes k → Fault ws turn at bytes 13 (at + k) part.Word
  wrong_size : SizeOutside bytes → Fault ws turn at bytes 11 at part.Word
  too_many : (w : Word) → Spells w bytes → length ws ≡ 96 → Fault ws turn at bytes 14 at part.Recipe
  out_of_turn : (w : Word) → Spells w bytes → length ws < 96 → turned turn w ≡ None → Fault ws turn at bytes 15 at part.Recipe

-- the text, which begins at a place after the words `earlier`, spells more words, and then comes one that is at fault
pub record FirstFault (at : ℕ) (earlier : List Word) (turn : Turn) (text : List ℕ) (number place : ℕ) (p : Part) : Type 0 where
  pub front : List ℕ
  pub bytes : List ℕ
  pub rest : List ℕ
  pub is : text ≡ front ++ (bytes ++ rest)
  pub separated : Separated front
  pub nonempty : 0 < length bytes
  pub no_space : NoSpace bytes
  pub ends : Ends rest
  pub words : List Word
  pub few : length (earlier ++ words) ≤ 96
  pub spells : SpellsAll front words
  pub then : Turn
  pub leads : Leads turn words then
  pub fault : Fault (earlier ++ words) then (at + length front) bytes number place p

-- the whole text spells its words, and something is still held
pub record Unfinished (text : List ℕ) : Type 0 where
  pub words : List Word
  pub spells : SpellsAll text words
  pub few : length words ≤ 96
  pub leads : Leads Free words Held

-- the text is refused with this number, place and part
pub data Refused (text : List ℕ) : ℕ → ℕ → Part → Type 0 where
  too_long : 4096 < length text → Refused text 12 0 part.Recipe
  at_word : {number place : ℕ} {p : Part} → length text ≤ 4096 → FirstFault 0 [] Free text number place p → Refused text number place p
  still_held : length text ≤ 4096 → Unfinished text → Refused text 16 (length text) part.Recipe
