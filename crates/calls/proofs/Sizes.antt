-- The size at each place of a recipe. Assumes nothing.
use Rattle.std.proofs.Common.{◌≡◌, ℕ, zero, suc, ◌<◌, true, List, [], ◌∷◌, length, get_or, arith}
use Rattle.std.proofs.lemmas.Bool.{and_parts}
use Rattle.recipe.specs.Legal.{size_fits, sizes_fit}
use Rattle.recipe.specs.declared.words.Word.{Word}

pub size_at : (ws : List Word) (i : ℕ) (d : Word) → i < length ws → sizes_fit ws ≡ true → size_fits (get_or ws i d) ≡ true
size_at [] i d h s = absurd (omega arith)
size_at (w ∷ ws) zero d h s = (and_parts _ _ s).0
size_at (w ∷ ws) (suc i) d h s = size_at ws i d (omega arith) (and_parts _ _ s).1
