-- The weights of an accepted load: each edge's is below both its ends'. Assumes nothing.
use Rattle.std.proofs.Common.{◌≡◌, ℕ, ◌<◌, List, length, get_or, Some, None, Option, sym, ap, ◌∙◌, subst, inl, inr, zero-add, arith}
use Rattle.std.proofs.lemmas.List.FromFn.{length-map-range_with_len, get_or-map-range_with_len}
use Rattle.std.proofs.lemmas.List.{get_or_default, get_or-map}
use Rattle.lattice.specs.Lattices.{Operations, Lattice}
use Rattle.graph.specs.Shapes.{Shape}
use Rattle.graph.specs.declared.edges.Edge.{Edge}
use Rattle.filters.specs.Relations.{Stands, End, EdgesBelowEnds}
use Rattle.filters.specs.Passes.{meets, over_ends}
use Rattle.filters.specs.Weightings.{Weighting}
use Rattle.records.specs.Calls.{record_weights}
use Rattle.records.specs.Formats.{Format, value_at, value_or, values}
use Rattle.records.specs.Rules.{HasValue, BelowEnds, Loadable}
use Rattle.records.specs.Verdicts.{edge_at}

-- a value of records that all stand for values is what its record stands for
value_stands : {K : Type 0} (f : Format K) (d : K) (n : ℕ) (bytes : List ℕ) (i : ℕ) (x : K) → ((j : ℕ) → j < n → HasValue f bytes j) → Stands (values f d n bytes) i x → value_at f bytes i ≡ Some x
value_stands {K = K} f d n bytes i x each st =
    let value : ℕ → K = λ j. value_or d (value_at f bytes j) in
    let below : i < n = omega (arith, st.0, length-map-range_with_len value 0 n) in
    let found = each i below in
    let same : found.0 ≡ x = sym (get_or-map-range_with_len value 0 n i i x below (zero-add i) ∙ ap (value_or d) found.1) ∙ st.1 in
    found.1 ∙ ap Some same

same_value : {K : Type 0} (x y : K) → Some x ≡ Some y → x ≡ y
same_value x y same = cc

module _ {K : Type 0} (below : K → K → Type 0) (k : Operations K) (lattice : Lattice below k) where
  -- the meet over the ends of e is below the weight of each
  met_below : (vs : List K) (e : Edge) (v : ℕ) (x : K) → End e v → Stands vs v x → below (over_ends (meets k) vs e) x
  met_below vs e v x (inl is) st =
      let same : get_or vs e.first k.highest ≡ x = ap (λ n. get_or vs n k.highest) is ∙ get_or_default vs v k.highest x st.0 ∙ st.1 in
      subst (below (over_ends (meets k) vs e)) same (lattice.meet_below_left _ _)
  met_below vs e v x (inr is) st =
      let same : get_or vs e.second k.highest ≡ x = ap (λ n. get_or vs n k.highest) is ∙ get_or_default vs v k.highest x st.0 ∙ st.1 in
      subst (below (over_ends (meets k) vs e)) same (lattice.meet_below_right _ _)

  module _ (f : Format K) (g : Shape) (vertices : List ℕ) (w : Weighting K) where
    -- y is below the value of an end of e
    end_below : (e e' : Edge) (v : ℕ) {x y : K} → e ≡ e' → End e' v → BelowEnds below f vertices e y → value_at f vertices v ≡ Some x → below y x
    end_below e e' v {x = x} {y = y} same (inl is) bounds x_is = bounds.0 x (ap (value_at f vertices) (ap (λ (d : Edge). d.first) same ∙ is) ∙ x_is)
    end_below e e' v {x = x} {y = y} same (inr is) bounds x_is = bounds.1 x (ap (value_at f vertices) (ap (λ (d : Edge). d.second) same ∙ is) ∙ x_is)

    pub edges_below_ends : (edges : Option (List ℕ)) → Loadable below f g vertices edges w → EdgesBelowEnds below g (record_weights k f g vertices edges)
    edges_below_ends None right j y x st at =
        let vs = values f k.lowest g.order vertices in
        let s = over_ends (meets k) vs in
        let is : s at.edge ≡ y = sym (get_or-map s g.edges j at.edge y at.is_edge.0 ∙ ap s at.is_edge.1) ∙ st.1 in
        let P : K → Type 0 = λ z. below z x in
        subst P is (met_below vs at.edge at.vertex x at.end at.weight)
    edges_below_ends (Some bytes) right j y x st at =
        let here = at.is_edge.0 in
        let e = edge_at g.edges j in
        let fine = right.edge_values j here in
        let y_is = value_stands f k.lowest (length g.edges) bytes j y (λ i l. let h = right.edge_values i l in (h.0, h.1)) st in
        let x_is = value_stands f k.lowest g.order vertices at.vertex x right.vertex_values at.weight in
        let y_same : fine.0 ≡ y = same_value fine.0 y (sym fine.1 ∙ y_is) in
        let edge_same : e ≡ at.edge = get_or_default g.edges j _ at.edge here ∙ at.is_edge.1 in
        let P : K → Type 0 = λ z. below z x in
        subst P y_same (end_below e at.edge at.vertex edge_same at.end fine.2 x_is)
