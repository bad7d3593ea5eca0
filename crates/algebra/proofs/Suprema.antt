-- Each pass gives the supremum of what it combines. Assumes nothing.
-- What holds of meets is what holds of joins where the order is turned.
use Rattle.std.proofs.Common.{◌≡◌, ℕ, zero, suc, ◌<◌, Bool, true, false, cond, List, [], ◌∷◌, length, get_or, sym, refl, ap, ◌∙◌, subst, inl, inr, ⊎_elim, arith}
use Rattle.std.proofs.lemmas.List.FromFn.{get_or-map-range_with_len}
use Rattle.std.proofs.lemmas.List.{get_or_default, get_or-map}
use Rattle.std.proofs.lemmas.Bool.{eq-eqb, eqb-true, or_left, or_right, or_cases, false≢true}
use Rattle.lattice.specs.Lattices.{Operations, Lattice, Supremum}
use Rattle.lattice.specs.LatticesLemmas.{turned_lattice}
use Rattle.graph.specs.Graphs.{AllWithin}
use Rattle.graph.specs.Shapes.{Shape}
use Rattle.graph.specs.declared.edges.Edge.{Edge}
use Rattle.filters.specs.Relations.{Stands, End, AtVertex, AtEdge}
use Rattle.algebra.specs.Laws.{Suprema, AllPassesCombine}
use Rattle.filters.specs.Passes.{joins, touches, over_ends, over_edges_at, pass_to_edges, pass_to_vertices}

-- what stands at a place is read there, whatever the default
pub stands_read : {X : Type 0} (xs : List X) (i : ℕ) (x d : X) → Stands xs i x → get_or xs i d ≡ x
stands_read xs i x d s = get_or_default xs i d x s.0 ∙ s.1

pub read_stands : {X : Type 0} (xs : List X) (i : ℕ) (d : X) → i < length xs → Stands xs i (get_or xs i d)
read_stands xs i d h = (h, get_or_default xs i (get_or xs i d) d h)

end_touches : (e : Edge) (v : ℕ) → End e v → touches e v ≡ true
end_touches e v (inl q) = or_left _ _ (eq-eqb e.first v q)
end_touches e v (inr q) = or_right _ _ (eq-eqb e.second v q)

touches_end : (e : Edge) (v : ℕ) → touches e v ≡ true → End e v
touches_end e v t = ⊎_elim (λ q. inl (eqb-true e.first v q)) (λ q. inr (eqb-true e.second v q)) (or_cases _ _ t)

-- an end of an edge of the graph is a vertex
pub end_within : (n : ℕ) (es : List Edge) → AllWithin n es → (j : ℕ) (e : Edge) (v : ℕ) → Stands es j e → End e v → v < n
end_within n es within j e v s (inl q) =
    let here = within j e s.0 in
    let is = ap (λ d. d.first) s.1 in
    omega (arith, here, is, q)
end_within n es within j e v s (inr q) =
    let here = within j e s.0 in
    let is = ap (λ d. d.second) s.1 in
    omega (arith, here, is, q)

module _ {K : Type 0} {below : K → K → Type 0} {k : Operations K} (l : Lattice below k) where
  module _ (v : ℕ) where
    -- an edge raises the weight at hand, and takes in its own
    raised : (b : Bool) (x y : K) → below x (cond b (k.join x y) x)
    raised true x y = l.below_join_left x y
    raised false x y = l.order.reflexive x

    taken : (b : Bool) (x y : K) → b ≡ true → below y (cond b (k.join x y) x)
    taken true x y t = l.below_join_right x y
    taken false x y t = absurd (false≢true t)

    bounded : (b : Bool) (x y z : K) → below x z → (b ≡ true → below y z) → below (cond b (k.join x y) x) z
    bounded true x y z low each = l.join_below x y z low (each refl)
    bounded false x y z low each = low

    start_below : (es : List Edge) (ys : List K) (x : K) → below x (over_edges_at (joins k) v x es ys)
    start_below [] ys x = l.order.reflexive x
    start_below (e ∷ es) [] x = l.order.reflexive x
    start_below (e ∷ es) (y ∷ ys) x = l.order.transitive _ _ _ (raised (touches e v) x y) (start_below es ys _)

    pub edge_below : (es : List Edge) (ys : List K) (x : K) (j : ℕ) (e : Edge) (y : K) → Stands es j e → End e v → Stands ys j y → below y (over_edges_at (joins k) v x es ys)
    edge_below [] ys x j e y s t u = absurd (omega (arith, s.0))
    edge_below (d ∷ es) [] x j e y s t u = absurd (omega (arith, u.0))
    edge_below (d ∷ es) (z ∷ ys) x zero e y s t u =
        let here : below z (over_edges_at (joins k) v x (d ∷ es) (z ∷ ys)) =
        l.order.transitive _ _ _ (taken (touches d v) x z (end_touches d v (subst (λ f. End f v) (sym s.1) t))) (start_below es ys _) in
        subst (λ w. below w (over_edges_at (joins k) v x (d ∷ es) (z ∷ ys))) u.1 here
    edge_below (d ∷ es) (z ∷ ys) x (suc j) e y s t u =
        edge_below es ys (cond (touches d v) (k.join x z) x) j e y (omega (arith, s.0), s.1) t (omega (arith, u.0), u.1)

    pub edges_least : (es : List Edge) (ys : List K) (x z : K) → below x z → ((j : ℕ) (e : Edge) (y : K) → Stands es j e → End e v → Stands ys j y → below y z)
        → below (over_edges_at (joins k) v x es ys) z
    edges_least [] ys x z low each = low
    edges_least (e ∷ es) [] x z low each = low
    edges_least (e ∷ es) (y ∷ ys) x z low each =
        edges_least es ys (cond (touches e v) (k.join x y) x) z
        (bounded (touches e v) x y z low (λ t. each zero e y (omega arith, refl) (touches_end e v t) (omega arith, refl)))
        (λ j d w s t u. each (suc j) d w (omega (arith, s.0), s.1) t (omega (arith, u.0), u.1))

  -- the weight of an end is below the join of both
  pub end_below : (xs : List K) (e : Edge) (v : ℕ) (x : K) → End e v → Stands xs v x → below x (over_ends (joins k) xs e)
  end_below xs e v x (inl q) s =
      subst (λ w. below w (over_ends (joins k) xs e)) (ap (λ i. get_or xs i k.lowest) q ∙ stands_read xs v x k.lowest s) (l.below_join_left _ _)
  end_below xs e v x (inr q) s =
      subst (λ w. below w (over_ends (joins k) xs e)) (ap (λ i. get_or xs i k.lowest) q ∙ stands_read xs v x k.lowest s) (l.below_join_right _ _)

  pub ends_least : (xs : List K) (e : Edge) (z : K) → e.first < length xs → e.second < length xs → ((v : ℕ) (x : K) → End e v → Stands xs v x → below x z)
      → below (over_ends (joins k) xs e) z
  ends_least xs e z first second each =
      l.join_below _ _ z (each e.first _ (inl refl) (read_stands xs e.first k.lowest first)) (each e.second _ (inr refl) (read_stands xs e.second k.lowest second))

  module _ (g : Shape) (within : AllWithin g.order g.edges) where
    pub vertex_suprema : (ys : List K) → Suprema below (AtVertex g ys) g.order (pass_to_vertices (joins k) g ys)
    vertex_suprema ys v d h =
        subst (Supremum below (AtVertex g ys v)) (sym (get_or-map-range_with_len _ 0 g.order v v d h (omega arith)))
        record {
          above = λ y a. edge_below v g.edges ys k.lowest a.place a.edge y a.is_edge a.end a.weight;
          least = λ z each. edges_least v g.edges ys k.lowest z (l.lowest_below z) (λ j e y s t u. each y record { place = j; edge = e; is_edge = s; end = t; weight = u });
        }

    pub edge_suprema : (xs : List K) → length xs ≡ g.order → Suprema below (AtEdge g xs) (length g.edges) (pass_to_edges (joins k) g xs)
    edge_suprema xs long j d h =
        let none : Edge = record { first = 0; second = 0 } in
        let e : Edge = get_or g.edges j none in
        let here : Stands g.edges j e = read_stands g.edges j none h in
        let ends = within j none h in
        subst (Supremum below (AtEdge g xs j)) (sym (get_or-map (over_ends (joins k) xs) g.edges j none d h))
        record {
          above = λ x a. end_below xs e a.vertex x (subst (λ f. End f a.vertex) (sym (stands_read g.edges j a.edge none a.is_edge)) a.end) a.weight;
          least = λ z each. ends_least xs e z (omega (arith, ends, long)) (omega (arith, ends, long)) (λ v x t s. each x record { edge = e; vertex = v; is_edge = here; end = t; weight = s });
        }

pub all_passes_combine : {K : Type 0} (below : K → K → Type 0) (k : Operations K) → Lattice below k → AllPassesCombine below k
all_passes_combine below k l g accepted w fit = record {
  join_to_vertices = vertex_suprema l g accepted.within w.edges;
  meet_to_vertices = vertex_suprema (turned_lattice l) g accepted.within w.edges;
  join_to_edges = edge_suprema l g accepted.within w.vertices fit.0;
  meet_to_edges = edge_suprema (turned_lattice l) g accepted.within w.vertices fit.0;
}
