-- How weights are printed on one line. Assumes nothing.
use Rattle.std.specs.Prelude.{ℕ, List, [], ◌∷◌, Option, Some}
use Rattle.std.specs.Fmt.{◌++?◌}

-- a space before each weight
abbrev pub spaced : {K : Type 0} → (K → Option (List ℕ)) → List K → Option (List ℕ)
spaced text [] = Some []
spaced text (x ∷ xs) = (Some (32 ∷ []) ++? text x) ++? spaced text xs

-- one weight after another, with one space between; it says nothing where a weight's text is not known
abbrev pub line : {K : Type 0} → (K → Option (List ℕ)) → List K → Option (List ℕ)
line text [] = Some []
line text (x ∷ xs) = text x ++? spaced text xs
