-- Joins to edges are adjoint to meets to vertices, and joins to vertices to meets to edges. Assumes nothing.
use mathlib.Core.HLevel.{Σ_prop_path}
use Rattle.std.proofs.Common.{◌≡◌, ℕ, ◌<◌, List, length, get_or, sym, ◌∙◌, arith}
use native.Mathlib.Nat.{ℕ_set}
use Rattle.std.proofs.lemmas.List.FromFn.{length-map-range_with_len}
use Rattle.std.proofs.lemmas.List.{length-map, same_lists}
use Rattle.lattice.specs.Lattices.{Operations, Order, Lattice}
use Rattle.lattice.specs.LatticesLemmas.{turned_lattice}
use Rattle.graph.specs.Shapes.{Shape, Accepted}
use Rattle.filters.specs.Relations.{EachBelow}
use Rattle.filters.specs.Filters.{Passes}
use Rattle.filters.specs.Passes.{pass_to_edges, pass_to_vertices, joins, meets}
use Rattle.filters.specs.Weightings.{passes}
use Rattle.algebra.proofs.Orders.{Adjoint, turned_adjoint}
use Rattle.algebra.proofs.Nesting.{Lawful}
use Rattle.algebra.proofs.Suprema.{read_stands, end_within, vertex_suprema, edge_suprema}

-- lists of n weights
abbrev pub Row : Type 0 → ℕ → Type 0
Row K n = (xs : List K) × (length xs ≡ n)

abbrev pub RowBelow : {K : Type 0} → (K → K → Type 0) → (n : ℕ) → Row K n → Row K n → Type 0
RowBelow below n x y = EachBelow below n x.0 y.0

abbrev pub row_passes : {K : Type 0} → Operations K → (g : Shape) → Passes (Row K g.order) (Row K (length g.edges))
row_passes k g = record {
  join_over = λ x. ((passes k g).join_over x.0, length-map g.edges _);
  meet_over = λ x. ((passes k g).meet_over x.0, length-map g.edges _);
  join_back = λ y. ((passes k g).join_back y.0, length-map-range_with_len _ 0 g.order);
  meet_back = λ y. ((passes k g).meet_back y.0, length-map-range_with_len _ 0 g.order);
}

row_order : {K : Type 0} {below : K → K → Type 0} → Order below → (n : ℕ) → Order (RowBelow below n)
row_order {K = K} {below = below} o n = record {
  reflexive = λ x i d h. o.reflexive (get_or x.0 i d);
  transitive = λ x y z xy yz i d h. o.transitive _ _ _ (xy i d h) (yz i d h);
  antisymmetric = λ x y xy yx. Σ_prop_path (λ xs. ℕ_set (length xs) n) (same_lists x.0 y.0 (x.1 ∙ sym y.1)
      (λ i d h. let within : i < n = omega (arith, x.1) in o.antisymmetric _ _ (xy i d within) (yx i d within)));
}

module _ {K : Type 0} {below : K → K → Type 0} {k : Operations K} (l : Lattice below k) (g : Shape) (accepted : Accepted g) where
  over_adjoint : Adjoint (RowBelow below g.order) (RowBelow below (length g.edges)) (row_passes k g).join_over (row_passes k g).meet_back
  over_adjoint = record {
    up = λ x y h i d here. (vertex_suprema (turned_lattice l) g accepted.within y.0 i d here).least (get_or x.0 i d)
        (λ w a.
        let ys = y.0 in
        let xs = x.0 in
        let at = a.place in
        let weight : get_or ys at w ≡ w = a.weight.1 in
        let up : below (get_or xs i d) (get_or (pass_to_edges (joins k) g xs) at w) =
        (edge_suprema l g accepted.within xs x.1 at w a.is_edge.0).above (get_or xs i d) record {
          edge = a.edge;
          vertex = i;
          is_edge = a.is_edge;
          end = a.end;
          weight = read_stands xs i d (omega (arith, x.1));
        } in
        rw weight at (l.order.transitive _ _ _ up (h at w a.is_edge.0)));
    down = λ x y h j d here. (edge_suprema l g accepted.within x.0 x.1 j d here).least (get_or y.0 j d)
        (λ w a.
        let ys = y.0 in
        let xs = x.0 in
        let v = a.vertex in
        let in_graph = end_within g.order g.edges accepted.within j a.edge v a.is_edge a.end in
        let weight : get_or xs v w ≡ w = a.weight.1 in
        let down : below (get_or (pass_to_vertices (meets k) g ys) v w) (get_or ys j d) =
        (vertex_suprema (turned_lattice l) g accepted.within ys v w in_graph).above (get_or ys j d) record {
          place = j;
          edge = a.edge;
          is_edge = a.is_edge;
          end = a.end;
          weight = read_stands ys j d (omega (arith, y.1));
        } in
        rw weight at (l.order.transitive _ _ _ (h v w in_graph) down));
  }

pub row_lawful : {K : Type 0} (below : K → K → Type 0) (k : Operations K) → Lattice below k → (g : Shape) → Accepted g →
    Lawful (RowBelow below g.order) (RowBelow below (length g.edges)) (row_passes k g)
row_lawful below k l g accepted = record {
  ox = row_order l.order g.order;
  oy = row_order l.order (length g.edges);
  over = over_adjoint l g accepted;
  back = turned_adjoint (over_adjoint (turned_lattice l) g accepted);
}
