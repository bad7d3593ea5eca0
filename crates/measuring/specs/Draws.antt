-- The generator of meshes and starting weights. Assumes nothing.
use Rattle.std.specs.Prelude.{ℕ, zero, suc, ◌+◌, ◌*◌, ◌/◌, ◌%◌, ◌^◌, min, max, cond, List, [], ◌∷◌, ◌++◌, ◌==◌}
use Rattle.lattice.specs.Levels.{level}
use Rattle.lattice.specs.declared.levels.Level.{Level}
use Rattle.graph.specs.declared.edges.Edge.{Edge}

-- the state after the state x
abbrev pub after : ℕ → ℕ
after x = (x * 6364136223846793005 + 1442695040888963407) % 2 ^ 64

-- the state that k steps from the seed come to
abbrev pub state : ℕ → ℕ → ℕ
state seed zero = seed
state seed (suc k) = after (state seed k)

-- the starting weights of n vertices: the uppermost 16 bits of the states from the first step on
abbrev pub starting_levels : ℕ → List Level
starting_levels zero = []
starting_levels (suc n) = starting_levels n ++ level (state 1 (suc n) / 2 ^ 48) ∷ []

-- the vertex that the state x draws from n: the upper half of the state, reduced
abbrev pub vertex : ℕ → ℕ → ℕ
vertex n x = x / 2 ^ 32 % n

-- the edge between two vertices, and none where they are the same
abbrev pub edge_between : ℕ → ℕ → List Edge
edge_between a b = cond (a == b) [] (record { first = min a b; second = max a b } ∷ [])

-- the state that k draws from the seed come to, of two steps each
abbrev pub state_of_draws : ℕ → ℕ → ℕ
state_of_draws seed zero = seed
state_of_draws seed (suc k) = after (after (state_of_draws seed k))

-- the edges of the first k draws from n vertices, repeated ones among them
abbrev pub drawn : ℕ → ℕ → ℕ → List Edge
drawn seed n zero = []
drawn seed n (suc k) = drawn seed n k ++ edge_between (vertex n (after (state_of_draws seed k))) (vertex n (state_of_draws seed (suc k)))
