-- Words that begin with those of a mesh, read by their places. Assumes nothing.
use Rattle.std.proofs.Common.{◌≡◌, ◌-◌, ◌≤◌, length, List, [], ◌∷◌, String, codes, string_bytes, get_or, take, drop, subst, arith, rules}
use Rattle.std.proofs.lemmas.List.{take_rest}
use Rattle.measuring.specs.Words.{GridWords, RandomWords, BeginsWithGrid, BeginsWithRandom}
use Rattle.measuring.specs.declared.meshes.Mesh.{Mesh}

pub grid_named : {A : Type 0} → (words : List (String A)) (kind width height : String A) (mesh : Mesh) → 3 ≤ length words → kind ≡ get_or words 0 kind → width ≡ get_or words 1 width → height ≡ get_or words 2 height → string_bytes kind ≡ codes "grid" → GridWords (string_bytes width) (string_bytes height) mesh → BeginsWithGrid words mesh (take (length words - 3) (drop 3 words))
grid_named [] kind width height mesh len k w h named said = search rules
grid_named (a ∷ []) kind width height mesh len k w h named said = search rules
grid_named (a ∷ b ∷ []) kind width height mesh len k w h named said = search rules
grid_named (a ∷ b ∷ c ∷ after) kind width height mesh len k w h named said = (
  subst (λ x. string_bytes x ≡ codes "grid") k named,
  subst (λ x. GridWords (string_bytes x) (string_bytes c) mesh) w (subst (λ x. GridWords (string_bytes width) (string_bytes x) mesh) h said),
  take_rest (a ∷ b ∷ c ∷ after) 3,
)

pub random_named : {A : Type 0} → (words : List (String A)) (kind n m seed : String A) (mesh : Mesh) → 4 ≤ length words → kind ≡ get_or words 0 kind → n ≡ get_or words 1 n → m ≡ get_or words 2 m → seed ≡ get_or words 3 seed → string_bytes kind ≡ codes "random" → RandomWords (string_bytes n) (string_bytes m) (string_bytes seed) mesh → BeginsWithRandom words mesh (take (length words - 4) (drop 4 words))
random_named [] kind n m seed mesh len k w h s named said = search rules
random_named (a ∷ []) kind n m seed mesh len k w h s named said = search rules
random_named (a ∷ b ∷ []) kind n m seed mesh len k w h s named said = search rules
random_named (a ∷ b ∷ c ∷ []) kind n m seed mesh len k w h s named said = search rules
random_named (a ∷ b ∷ c ∷ d ∷ after) kind n m seed mesh len k w h s named said = (
  subst (λ x. string_bytes x ≡ codes "random") k named,
  subst (λ x. RandomWords (string_bytes x) (string_bytes c) (string_bytes d) mesh) w
      (subst (λ x. RandomWords (string_bytes n) (string_bytes x) (string_bytes d) mesh) h (subst (λ x. RandomWords (string_bytes n) (string_bytes m) (string_bytes x) mesh) s said)),
  take_rest (a ∷ b ∷ c ∷ d ∷ after) 4,
)

-- words that begin with those of a grid are three or more, and the first is its name
pub grid_few : {A : Type 0} → (words : List (String A)) (mesh : Mesh) (rest : List (String A)) → BeginsWithGrid words mesh rest → 3 ≤ length words
grid_few [] mesh rest said = search rules
grid_few (a ∷ []) mesh rest said = search rules
grid_few (a ∷ b ∷ []) mesh rest said = search rules
grid_few (a ∷ b ∷ c ∷ after) mesh rest said = search rules

pub grid_said : {A : Type 0} → (words : List (String A)) (mesh : Mesh) (rest : List (String A)) (d : String A) → BeginsWithGrid words mesh rest → string_bytes (get_or words 0 d) ≡ codes "grid"
grid_said [] mesh rest d said = search rules
grid_said (a ∷ []) mesh rest d said = search rules
grid_said (a ∷ b ∷ []) mesh rest d said = search rules
grid_said (a ∷ b ∷ c ∷ after) mesh rest d said = search rules

-- and of a random mesh four or more
pub random_few : {A : Type 0} → (words : List (String A)) (mesh : Mesh) (rest : List (String A)) → BeginsWithRandom words mesh rest → 4 ≤ length words
random_few [] mesh rest said = search rules
random_few (a ∷ []) mesh rest said = search rules
random_few (a ∷ b ∷ []) mesh rest said = search rules
random_few (a ∷ b ∷ c ∷ []) mesh rest said = search rules
random_few (a ∷ b ∷ c ∷ e ∷ after) mesh rest said = search rules

pub random_said : {A : Type 0} → (words : List (String A)) (mesh : Mesh) (rest : List (String A)) (d : String A) → BeginsWithRandom words mesh rest → string_bytes (get_or words 0 d) ≡ codes "random"
random_said [] mesh rest d said = search rules
random_said (a ∷ []) mesh rest d said = search rules
random_said (a ∷ b ∷ []) mesh rest d said = search rules
random_said (a ∷ b ∷ c ∷ []) mesh rest d said = search rules
random_said (a ∷ b ∷ c ∷ e ∷ after) mesh rest d said = search rules
