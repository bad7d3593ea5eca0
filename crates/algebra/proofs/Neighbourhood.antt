-- One dilation joins the weights of each vertex and its neighbours. Assumes nothing.
use Rattle.std.proofs.Common.{◌≡◌, ℕ, ◌<◌, ◌⊎◌, List, length, get_or, sym, refl, ap, ◌∙◌, subst, inl, inr, arith}
use Rattle.std.proofs.lemmas.List.{get_or-map, length-map}
use Rattle.lattice.specs.Lattices.{Operations, Lattice}
use Rattle.lattice.specs.LatticesLemmas.{turned_lattice}
use Rattle.graph.specs.Shapes.{Shape, Accepted}
use Rattle.graph.specs.declared.edges.Edge.{Edge}
use Rattle.filters.specs.Relations.{Stands, End}
use Rattle.algebra.specs.Laws.{HasEdge, Neighbours, Near, Suprema, Neighbourhoods}
use Rattle.filters.specs.Passes.{joins, over_ends, pass_to_edges, pass_to_vertices}
use Rattle.algebra.proofs.Suprema.{stands_read, end_within, end_below, ends_least, vertex_suprema}

module _ {K : Type 0} {below : K → K → Type 0} {k : Operations K} (l : Lattice below k) (g : Shape) (accepted : Accepted g) (xs : List K) (long : length xs ≡ g.order) where
  -- the joins at the edges
  abbrev edges : List K
  edges = pass_to_edges (joins k) g xs

  -- what the edge e at place j gets
  at_place : (j : ℕ) (e : Edge) → Stands g.edges j e → Stands edges j (over_ends (joins k) xs e)
  at_place j e s = (
    rw length-map s.0,
    get_or-map (over_ends (joins k) xs) g.edges j e _ s.0 ∙ ap (over_ends (joins k) xs) s.1,
  )

  module _ (v : ℕ) (here : v < g.order) where
    -- the weight of an end of an edge at v is below the dilation at v
    below_dilation : (d : K) (j : ℕ) (e : Edge) → Stands g.edges j e → End e v → (u : ℕ) (x : K) → End e u → Stands xs u x → below x (get_or (pass_to_vertices (joins k) g edges) v d)
    below_dilation d j e s at_v u x at_u w =
        l.order.transitive _ _ _ (end_below l xs e u x at_u w)
        ((vertex_suprema l g accepted.within edges v d here).above (over_ends (joins k) xs e)
        record { place = j; edge = e; is_edge = s; end = at_v; weight = at_place j e s })

    near_below : (d : K) → HasEdge g v → (x : K) → Near g xs v x → below x (get_or (pass_to_vertices (joins k) g edges) v d)
    near_below d has x n = elim n.near [
      | inl q ↦ below_dilation d has.place has.edge has.is_edge has.end v x has.end (subst (λ u. Stands xs u x) q n.weight)
      | inr b ↦ elim b.ends [
        | inl q ↦ below_dilation d b.place b.edge b.is_edge (inr q.1) n.vertex x (inl q.0) n.weight
        | inr q ↦ below_dilation d b.place b.edge b.is_edge (inl q.0) n.vertex x (inr q.1) n.weight
      ]
    ]

    -- an end of an edge at v is v or a neighbour
    end_near : (j : ℕ) (e : Edge) → Stands g.edges j e → End e v → (u : ℕ) → End e u → (u ≡ v) ⊎ Neighbours g u v
    end_near j e s (inl p) u (inl q) = inl (sym q ∙ p)
    end_near j e s (inl p) u (inr q) = inr record { place = j; edge = e; is_edge = s; ends = inr (p, q) }
    end_near j e s (inr p) u (inl q) = inr record { place = j; edge = e; is_edge = s; ends = inl (q, p) }
    end_near j e s (inr p) u (inr q) = inl (sym q ∙ p)

    near_least : (d z : K) → ((x : K) → Near g xs v x → below x z) → below (get_or (pass_to_vertices (joins k) g edges) v d) z
    near_least d z each = (vertex_suprema l g accepted.within edges v d here).least z
        (λ y a.
        let e = a.edge in
        let is : over_ends (joins k) xs e ≡ y = sym (stands_read edges a.place _ y (at_place a.place e a.is_edge)) ∙ a.weight.1 in
        let first = end_within g.order g.edges accepted.within a.place e e.first a.is_edge (inl refl) in
        let second = end_within g.order g.edges accepted.within a.place e e.second a.is_edge (inr refl) in
        subst (λ w. below w z) is (ends_least l xs e z (omega (arith, first, long)) (omega (arith, second, long))
        (λ u x t w. each x record { vertex = u; near = end_near a.place e a.is_edge a.end u t; weight = w })))

  dilation_suprema : ((v : ℕ) → v < g.order → HasEdge g v) → Suprema below (Near g xs) g.order (pass_to_vertices (joins k) g edges)
  dilation_suprema has v d here = record { above = near_below v here d (has v here); least = near_least v here d }

pub neighbourhoods : {K : Type 0} (below : K → K → Type 0) (k : Operations K) → Lattice below k → Neighbourhoods below k
neighbourhoods below k l g accepted has w fit =
    (dilation_suprema l g accepted w.vertices fit.0 has, dilation_suprema (turned_lattice l) g accepted w.vertices fit.0 has)
