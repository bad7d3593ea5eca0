-- Where a wrong word departs from the words of a right shape.
use Rattle.std.specs.Prelude.{◌≡◌, ℕ, suc, ◌<◌, ◌≤◌, ◌⊎◌, List, [], ◌∷◌, ◌++◌, length, take}
use Rattle.filters.specs.declared.families.Family.{Family}
use Rattle.recipe.specs.Grammar.{Number, letter}

-- a letter that stands alone: H, J, M or F
abbrev pub Alone : ℕ → Type 0
Alone b = (b ≡ 72) ⊎ ((b ≡ 74) ⊎ ((b ≡ 77) ⊎ (b ≡ 70)))

-- a word of a right shape, of whatever size
abbrev pub Shaped : List ℕ → Type 0
Shaped [] = ⊥
Shaped (b ∷ bs) = ((f : Family) × (b ≡ letter f) × Number bs) ⊎ (Alone b × (bs ≡ []))

-- the word is wrong: its first k bytes begin a right one, and with the next byte, if there is one, they begin none
pub record Departs (bytes : List ℕ) (k : ℕ) : Type 0 where
  pub more : List ℕ
  pub begins : Shaped (take k bytes ++ more)
  pub within : k ≤ length bytes
  pub departs : k < length bytes → (rest : List ℕ) → Shaped (take (suc k) bytes ++ rest) → ⊥
  pub wrong : Shaped bytes → ⊥
