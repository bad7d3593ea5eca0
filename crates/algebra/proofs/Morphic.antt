-- A map that keeps both ends, joins and meets commutes with the passes, and so with every filter. Assumes nothing.
use Rattle.std.proofs.Common.{◌≡◌, ℕ, Bool, true, false, cond, List, [], ◌∷◌, map, get_or, sym, refl, ap, ◌∙◌, ap₂}
use mathlib.Core.Path.{fun_ext}
use lib.ListN.{get_or-map}
use Rattle.std.proofs.lemmas.Simd.{map-map}
use Rattle.std.specs.List.{range_with_len}
use Rattle.lattice.specs.Lattices.{Operations}
use Rattle.lattice.specs.Morphisms.{Morphism}
use Rattle.graph.specs.Shapes.{Shape}
use Rattle.graph.specs.declared.edges.Edge.{Edge}
use Rattle.algebra.specs.Laws.{FiltersCommute}
use Rattle.filters.specs.Passes.{Side, joins, meets, touches, over_edges_at, pass_to_edges, pass_to_vertices}
use Rattle.filters.specs.Weightings.{passes, weighting}
use Rattle.algebra.proofs.Nesting.{Carried, carried_exchanged, filter_carried}

-- one side, joins or meets
module _ {K L : Type 0} (read : K → L) (s : Side K) (t : Side L) (neutral : read s.neutral ≡ t.neutral)
    (combines : (x y : K) → read (s.combine x y) ≡ t.combine (read x) (read y)) where
  read_at : (xs : List K) (i : ℕ) → read (get_or xs i s.neutral) ≡ get_or (map read xs) i t.neutral
  read_at xs i = sym (get_or-map read xs i s.neutral) ∙ ap (get_or (map read xs) i) neutral

  to_edges_read : (g : Shape) (xs : List K) → map read (pass_to_edges s g xs) ≡ pass_to_edges t g (map read xs)
  to_edges_read g xs = map-map read _ g.edges
      ∙ ap (λ f. map f g.edges) (fun_ext (λ e. combines _ _ ∙ ap₂ t.combine (read_at xs e.first) (read_at xs e.second)))

  step_read : (b : Bool) (x y : K) → read (cond b (s.combine x y) x) ≡ cond b (t.combine (read x) (read y)) (read x)
  step_read true x y = combines x y
  step_read false x y = refl

  over_edges_read : (v : ℕ) (es : List Edge) (ys : List K) (x : K) → read (over_edges_at s v x es ys) ≡ over_edges_at t v (read x) es (map read ys)
  over_edges_read v [] ys x = refl
  over_edges_read v (e ∷ es) [] x = refl
  over_edges_read v (e ∷ es) (y ∷ ys) x =
      over_edges_read v es ys (cond (touches e v) (s.combine x y) x) ∙ ap (λ z. over_edges_at t v z es (map read ys)) (step_read (touches e v) x y)

  to_vertices_read : (g : Shape) (ys : List K) → map read (pass_to_vertices s g ys) ≡ pass_to_vertices t g (map read ys)
  to_vertices_read g ys =
      map-map read _ (range_with_len 0 g.order)
      ∙ ap (λ f. map f (range_with_len 0 g.order)) (fun_ext (λ v. over_edges_read v g.edges ys s.neutral ∙ ap (λ z. over_edges_at t v z g.edges (map read ys)) neutral))

pub filters_commute : {K L : Type 0} (k : Operations K) (l : Operations L) (read : K → L) → Morphism k l read → FiltersCommute k l read
filters_commute k l read m g f w =
    let carried : Carried (passes k g) (passes l g) (map read) (map read) = record {
      joins_over = to_edges_read read (joins k) (joins l) m.lowest m.join g;
      meets_over = to_edges_read read (meets k) (meets l) m.highest m.meet g;
      joins_back = to_vertices_read read (joins k) (joins l) m.lowest m.join g;
      meets_back = to_vertices_read read (meets k) (meets l) m.highest m.meet g;
    } in
    ap₂ weighting (filter_carried carried f.family f.size w.vertices) (filter_carried (carried_exchanged carried) f.family f.size w.edges)
