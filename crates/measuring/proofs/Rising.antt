-- Edges that are sorted and then differ from one another rise. Assumes nothing.
use Rattle.std.proofs.Common.{◌≡◌, ◌+◌, true, List, Less, slice_index_or, arith, rules}
use Rattle.std.specs.List.{dedup}
use Rattle.std.specs.List.Sorted.{IsSorted}
use Rattle.std.proofs.lemmas.List.Kept.{IsStrictlySortedBy-dedup}
use Rattle.std.proofs.lemmas.Map.Keys.{Less-from_sorted}
use Rattle.graph.specs.Graphs.{before, Rising}
use Rattle.graph.specs.declared.edges.Edge.{Edge}
use Rattle.graph.specs.contracts.edges.EdgeOrd.TheImpl.{cmp-value as order}
use Rattle.graph.specs.contracts.edges.EdgeOrd.TheImpl.Laws.{total-law, matches_eq-law}
use Rattle.graph.specs.contracts.edges.EdgePartialEq.TheImpl.{eq-value as same}

before_from_less : (e f : Edge) → order.it e f ≡ Less → before e f ≡ true
before_from_less e f less = search rules

pub rising_dedup : (es : List Edge) → IsSorted order.it es → Rising (dedup same.it es)
rising_dedup es sorted k d inside =
    before_from_less (slice_index_or (dedup same.it es) k d) (slice_index_or (dedup same.it es) (k + 1) d) (Less-from_sorted order.it (dedup same.it es) k (k + 1) d (IsStrictlySortedBy-dedup total-law matches_eq-law es sorted) (omega arith) inside)
