use Rattle.std.proofs.Common.{◌≡◌, ℕ, map, get_or, take, drop}
use Rattle.filters.specs.Passes.{over_edges_at, over_ends}
use Rattle.filters.proofs.rounds.exchange.Given as goal

-- the edges passed have their new weights, the others their old ones, which bring each receiving vertex to its weight
abbrev pub invariant-loop-i : goal.invariant-loop-i
invariant-loop-i g l =
    let s = g.S.Semilattice.side in
    let old = l.initial.edges in
    (take l.i l.edges ≡ map (over_ends s l.giving) (take l.i l.table))
    × (drop l.i l.edges ≡ drop l.i old)
    × ((v : ℕ) → over_edges_at s v (get_or l.receiving v s.neutral) (drop l.i l.table) (drop l.i old) ≡ over_edges_at s v s.neutral l.table old)
