use Rattle.std.proofs.Common.{◌≡◌, ℕ, length, get_or, drop}
use Rattle.filters.specs.Passes.{over_edges_at}
use Rattle.filters.proofs.passes.scatter.Given as goal

-- what is left of the edges brings each vertex to its weight
abbrev pub invariant-loop-e : goal.invariant-loop-e
invariant-loop-e g l =
    let s = g.S.Semilattice.side in
    (v : ℕ) → over_edges_at s v (get_or l.vertices v s.neutral) (drop (length l.yielded) l.table) (drop (length l.yielded) l.edges) ≡ over_edges_at s v s.neutral l.table l.edges
