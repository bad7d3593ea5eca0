-- Which texts are which words: a relation, with no order of reading.
use Rattle.std.specs.Prelude.{◌≡◌, ℕ, ◌≤◌, true, List, [], ◌∷◌, ◌++◌, length, ◌≢◌}
use Rattle.filters.specs.declared.families.Family.{Family}
use Rattle.filters.specs.declared.families.Family.TheVariants.{Dilation, Erosion, Opening, Closing, Alternate}
use Rattle.recipe.specs.declared.turns.Turn.TheVariants.{Free}
use Rattle.recipe.specs.declared.words.Word.{Word}
use Rattle.recipe.specs.declared.words.Word.TheVariants.{Step, Hold, Join, Meet, Forget}
use Rattle.recipe.specs.Legal.{fits}
use Rattle.recipe.specs.Shapes.{numeral}

-- decimal digits alone
abbrev pub Digits : List ℕ → Type 0
Digits [] = Unit {0}
Digits (d ∷ ds) = (48 ≤ d) × (d ≤ 57) × Digits ds

-- one digit or more, the first not 0
abbrev pub Number : List ℕ → Type 0
Number [] = ⊥
Number (d ∷ ds) = (d ≢ 48) × Digits (d ∷ ds)

-- the letter of a family: D, E, O, C or A
abbrev pub letter : Family → ℕ
letter Dilation = 68
letter Erosion = 69
letter Opening = 79
letter Closing = 67
letter Alternate = 65

-- the letter of a family and the digits of a size from 1 to 200
pub record Sized (f : Family) (n : ℕ) (bytes : List ℕ) : Type 0 where
  pub digits : List ℕ
  pub is : bytes ≡ letter f ∷ digits
  pub number : Number digits
  pub value : numeral 0 digits ≡ n
  pub low : 1 ≤ n
  pub high : n ≤ 200

-- the bytes spell the word: a letter with its size, or H, J, M or F alone
abbrev pub Spells : Word → List ℕ → Type 0
Spells (Step f) bytes = Sized f.family f.size bytes
Spells Hold bytes = bytes ≡ 72 ∷ []
Spells Join bytes = bytes ≡ 74 ∷ []
Spells Meet bytes = bytes ≡ 77 ∷ []
Spells Forget bytes = bytes ≡ 70 ∷ []

-- spaces alone, perhaps none
abbrev pub Spaces : List ℕ → Type 0
Spaces [] = Unit {0}
Spaces (b ∷ bs) = (b ≡ 32) × Spaces bs

-- the text ends here, or a space comes
abbrev pub Ends : List ℕ → Type 0
Ends [] = Unit {0}
Ends (b ∷ bs) = b ≡ 32

-- after spaces, if any, comes the word, whole, and then what is left
pub record FirstWord (text : List ℕ) (w : Word) (Left : List ℕ → Type 0) : Type 0 where
  pub gap : List ℕ
  pub bytes : List ℕ
  pub rest : List ℕ
  pub is : text ≡ gap ++ (bytes ++ rest)
  pub spaces : Spaces gap
  pub spells : Spells w bytes
  pub ends : Ends rest
  pub left : Left rest

-- the text is these words, in this order, with spaces between and around
abbrev pub SpellsAll : List ℕ → List Word → Type 0
SpellsAll text [] = Spaces text
SpellsAll text (w ∷ ws) = FirstWord text w (λ rest. SpellsAll rest ws)

-- the text belongs to the grammar, as these words
pub record Text (text : List ℕ) (ws : List Word) : Type 0 where
  pub short : length text ≤ 4096
  pub few : length ws ≤ 96
  pub fit : fits Free ws ≡ true
  pub spells : SpellsAll text ws
