-- What the edges of a graph keep. Assumes nothing.
use Rattle.std.specs.Prelude.{◌≡◌, ℕ, ◌+◌, ◌<◌, ◌≤◌, Bool, true, ◌&&◌, ◌||◌, List, length, ◌==◌, nat_lt, slice_index_or}
use Rattle.graph.specs.declared.edges.Edge.{Edge}

-- the ends of e are in order, and vertices of a graph with n of them
abbrev pub Within : ℕ → Edge → Type 0
Within n e = (e.first < e.second) × (e.second < n)

-- e comes before f: by first end, then by second
abbrev pub before : Edge → Edge → Bool
before e f = nat_lt e.first f.first || (e.first == f.first && nat_lt e.second f.second)

-- each edge lies within the graph; the default d plays no part
abbrev pub AllWithin : ℕ → List Edge → Type 0
AllWithin n es = (k : ℕ) (d : Edge) → k < length es → Within n (slice_index_or es k d)

-- each edge comes before the next
abbrev pub Rising : List Edge → Type 0
Rising es = (k : ℕ) (d : Edge) → k + 1 < length es → before (slice_index_or es k d) (slice_index_or es (k + 1) d) ≡ true

-- the edges are those of a graph with n vertices
pub record Sound (n : ℕ) (es : List Edge) : Type 0 where
  pub few : n ≤ 1000000
  pub short : length es ≤ 4000000
  pub within : AllWithin n es
  pub rising : Rising es
