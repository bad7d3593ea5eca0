-- Which words make a recipe.
use Rattle.std.specs.Prelude.{◌≡◌, ◌≤◌, Bool, true, false, ◌&&◌, List, [], ◌∷◌, length, Some, None, Option, nat_le}
use Rattle.recipe.specs.declared.turns.Turn.{Turn}
use Rattle.recipe.specs.declared.turns.Turn.TheVariants.{Free, Held}
use Rattle.recipe.specs.declared.words.Word.{Word}
use Rattle.recipe.specs.declared.words.Word.TheVariants.{Step, Hold, Join, Meet, Forget}
use Rattle.recipe.specs.Turns.{turned}

-- whether nothing is held
abbrev pub is_free : Turn → Bool
is_free Free = true
is_free Held = false

-- a test of the next turn; where there is none, it fails
abbrev pub if_turn : Option Turn → (Turn → Bool) → Bool
if_turn None next = false
if_turn (Some t) next = next t

-- from this turn each word is in turn, and nothing is held at the end
abbrev pub fits : Turn → List Word → Bool
fits t [] = is_free t
fits t (w ∷ ws) = if_turn (turned t w) (λ next. fits next ws)

-- the words, each in turn, lead from a turn to a turn
abbrev pub Leads : Turn → List Word → Turn → Type 0
Leads t [] u = t ≡ u
Leads t (w ∷ ws) u = (next : Turn) × (turned t w ≡ Some next) × Leads next ws u

-- a filter's size is 1 to 200
abbrev pub size_fits : Word → Bool
size_fits (Step f) = nat_le 1 f.size && nat_le f.size 200
size_fits Hold = true
size_fits Join = true
size_fits Meet = true
size_fits Forget = true

-- every filter's size is 1 to 200
abbrev pub sizes_fit : List Word → Bool
sizes_fit [] = true
sizes_fit (w ∷ ws) = size_fits w && sizes_fit ws

-- the words of a recipe
pub record Legal (ws : List Word) : Type 0 where
  pub few : length ws ≤ 96
  pub sizes : sizes_fit ws ≡ true
  pub fit : fits Free ws ≡ true
