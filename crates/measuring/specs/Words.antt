-- What the arguments of a benchmark say. Assumes nothing.
use Rattle.std.specs.Prelude.{◌≡◌, ℕ, ◌*◌, ◌-◌, ◌/◌, ◌≤◌, ◌⊎◌, List, [], ◌∷◌, String, codes, string_bytes, MatchResult, Ok, Result}
use Rattle.std.specs.Str.Parse.{ParsesUnsigned}
use Rattle.filters.specs.declared.families.Family.{Family}
use Rattle.filters.specs.declared.families.Family.TheVariants.{Dilation, Erosion, Opening, Closing, Alternate}
use Rattle.filters.specs.declared.families.Filter.{Filter}
use Rattle.measuring.specs.declared.meshes.Mesh.{Mesh}
use Rattle.measuring.specs.declared.meshes.Mesh.TheVariants.{Grid, Random}

-- the value is one that the words say, and an error says that there is none
abbrev pub Reads : {T E : Type 0} → (T → Type 0) → Result T E → Type 0
Reads {T} Says r = MatchResult r Says (λ _. (x : T) → Says x → ⊥)

-- a text writes the number x of k bits, in decimal digits
abbrev pub Writes : ℕ → List ℕ → ℕ → Type 0
Writes k text x = ParsesUnsigned {E = Unit {0}} k 10 text (Ok x)

-- a grid that can be measured on
abbrev pub SmallGrid : ℕ → ℕ → Type 0
SmallGrid width height = (1 ≤ width) × (1 ≤ height) × (width * height ≤ 1000000)

-- a random mesh of n vertices and m edges that can be measured on
abbrev pub SparseMesh : ℕ → ℕ → Type 0
SparseMesh n m = (2 ≤ n) × (n ≤ 1000000) × (m ≤ 4000000) × (m ≤ n * (n - 1) / 4)

-- two texts say the width and the height of the mesh, which is a grid
abbrev pub GridWords : List ℕ → List ℕ → Mesh → Type 0
GridWords width height (Grid g) = Writes 32 width g.width × Writes 32 height g.height × SmallGrid g.width g.height
GridWords width height (Random r) = ⊥

-- three texts say the vertices, the edges and the seed of the mesh, which is a random one
abbrev pub RandomWords : List ℕ → List ℕ → List ℕ → Mesh → Type 0
RandomWords n m seed (Grid g) = ⊥
RandomWords n m seed (Random r) = Writes 32 n r.n × Writes 32 m r.m × Writes 64 seed r.seed × SparseMesh r.n r.m

-- the words begin with `grid` and the two that say the mesh, and these follow
abbrev pub BeginsWithGrid : {A : Type 0} → List (String A) → Mesh → List (String A) → Type 0
BeginsWithGrid (kind ∷ width ∷ height ∷ after) mesh rest = (string_bytes kind ≡ codes "grid") × GridWords (string_bytes width) (string_bytes height) mesh × (rest ≡ after)
BeginsWithGrid (kind ∷ width ∷ []) mesh rest = ⊥
BeginsWithGrid (kind ∷ []) mesh rest = ⊥
BeginsWithGrid [] mesh rest = ⊥

-- the words begin with `random` and the three that say the mesh, and these follow
abbrev pub BeginsWithRandom : {A : Type 0} → List (String A) → Mesh → List (String A) → Type 0
BeginsWithRandom (kind ∷ n ∷ m ∷ seed ∷ after) mesh rest = (string_bytes kind ≡ codes "random") × RandomWords (string_bytes n) (string_bytes m) (string_bytes seed) mesh × (rest ≡ after)
BeginsWithRandom (kind ∷ n ∷ m ∷ []) mesh rest = ⊥
BeginsWithRandom (kind ∷ n ∷ []) mesh rest = ⊥
BeginsWithRandom (kind ∷ []) mesh rest = ⊥
BeginsWithRandom [] mesh rest = ⊥

-- the words begin with those that say the mesh, and these follow
abbrev pub MeshWords : {A : Type 0} → List (String A) → Mesh → List (String A) → Type 0
MeshWords words mesh rest = BeginsWithGrid words mesh rest ⊎ BeginsWithRandom words mesh rest

-- the letter of a family
abbrev pub letter_of : Family → List ℕ
letter_of Dilation = codes "D"
letter_of Erosion = codes "E"
letter_of Opening = codes "O"
letter_of Closing = codes "C"
letter_of Alternate = codes "A"

-- a text says the size of a filter
abbrev pub SizeWord : List ℕ → ℕ → Type 0
SizeWord text size = Writes 32 text size × (1 ≤ size) × (size ≤ 200)

-- two texts say the family and the size of the filter
abbrev pub FilterWords : List ℕ → List ℕ → Filter → Type 0
FilterWords letter size f = (letter ≡ letter_of f.family) × SizeWord size f.size

-- a text says how often to run
abbrev pub RepeatWord : List ℕ → ℕ → Type 0
RepeatWord text repeat = Writes 64 text repeat × (1 ≤ repeat)
