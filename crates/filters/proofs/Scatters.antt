-- The end of a loop from edges to vertices. Assumes nothing.
use Rattle.std.proofs.Common.{◌≡◌, ℕ, ◌≤◌, List, length, get_or, drop, sym, ap, ◌∙◌}
use Rattle.std.proofs.lemmas.List.{drop_all}
use Rattle.std.proofs.lemmas.List.FromFn.{fill_by_all}
use Rattle.filters.specs.Passes.{Side, over_edges_at, pass_to_vertices}
use Rattle.graph.specs.Shapes.{shape}
use Rattle.graph.specs.declared.edges.Edge.{Edge}

module _ {K : Type 0} (s : Side K) where
  -- no edge left
  pub scatter_all : (n : ℕ) (es : List Edge) (xs acc : List K) (i : ℕ) → length acc ≡ n → length es ≤ i → ((v : ℕ) → over_edges_at s v (get_or acc v s.neutral) (drop i es) (drop i xs) ≡ over_edges_at s v s.neutral es xs) → acc ≡ pass_to_vertices s (shape n es) xs
  scatter_all n es xs acc i len past left =
      let none = drop_all i es past in
      fill_by_all (λ v. over_edges_at s v s.neutral es xs) acc n s.neutral len (λ v below. sym (ap (λ l. over_edges_at s v (get_or acc v s.neutral) l (drop i xs)) none) ∙ left v)
