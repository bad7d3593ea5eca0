-- The laws of the filters, carried over from rows of weights to weightings. Assumes nothing.
use Rattle.std.proofs.Common.{◌≡◌, ℕ, ◌<◌, ◌↔◌, List, [], ◌∷◌, length, get_or, sym, refl, ap, ◌∙◌, subst, ap₂, subst₂, arith}
use Rattle.lattice.specs.Lattices.{Operations, Lattice}
use Rattle.lattice.specs.LatticesLemmas.{turned_order, turned_lattice}
use Rattle.graph.specs.Shapes.{Shape, Accepted}
use Rattle.filters.specs.Relations.{filter, EachBelow, EdgesBelowEnds}
use Rattle.algebra.specs.Laws.{in_turn, largest, last_of, DilationAdjoint, OpeningsAbsorb, ClosingsAbsorb, AlternatesAbsorb, EdgesStayBelowEnds}
use Rattle.filters.specs.Filters.{Passes, exchanged, rounds, dilated, eroded, filter_by}
use Rattle.filters.specs.Weightings.{Weighting, weighting, Fits, passes, vertex_rounds, edge_rounds, filtered}
use Rattle.filters.specs.declared.families.Family.{Family}
use Rattle.filters.specs.declared.families.Family.TheVariants.{Dilation, Erosion, Opening, Closing, Alternate}
use Rattle.filters.specs.declared.families.Filter.{Filter}
use Rattle.algebra.proofs.Adjunctions.{Row, RowBelow, row_passes, row_lawful}
use Rattle.algebra.proofs.Nesting.{Lawful, lawful_exchanged, Carried, carried_exchanged, filter_carried, filter_related, bounded_rounds, dilated_adjoint, openings, closings}
use Rattle.algebra.proofs.Orders.{largest_decides, last_decides}
use Rattle.algebra.proofs.Suprema.{read_stands, edge_suprema}

row_carried : {K : Type 0} (k : Operations K) (g : Shape) → Carried (row_passes k g) (passes k g) (λ x. x.0) (λ y. y.0)
row_carried k g = record { joins_over = λ x. refl; meets_over = λ x. refl; joins_back = λ y. refl; meets_back = λ y. refl }

in_turn_carried : {X Y : Type 0} (h : X → Y) (f : ℕ → X → X) (g : ℕ → Y → Y) → ((n : ℕ) (x : X) → h (f n x) ≡ g n (h x)) →
    (ns : List ℕ) (x : X) → h (in_turn f ns x) ≡ in_turn g ns (h x)
in_turn_carried h f g step [] x = refl
in_turn_carried h f g step (n ∷ ns) x = in_turn_carried h f g step ns (f n x) ∙ ap (in_turn g ns) (step n x)

-- One part of a weighting, vertices or edges: rows of n weights, and the lists in them.
module _ {K : Type 0} {n m : ℕ} {p : Passes (Row K n) (Row K m)} {q : Passes (List K) (List K)} (c : Carried p q (λ x. x.0) (λ y. y.0)) where
  part_adjoint : (below : K → K → Type 0) → Lawful (RowBelow below n) (RowBelow below m) p → (size : ℕ) (x u : Row K n) →
      EachBelow below n (dilated (rounds q) size x.0) u.0 ↔ EachBelow below n x.0 (eroded (rounds q) size u.0)
  part_adjoint below l size x u = (
    (λ h. subst (EachBelow below n x.0) (filter_carried c Erosion size u)
        ((dilated_adjoint l size).up x u (subst (λ z. EachBelow below n z u.0) (sym (filter_carried c Dilation size x)) h))),
    (λ h. subst (λ z. EachBelow below n z u.0) (filter_carried c Dilation size x)
        ((dilated_adjoint l size).down x u (subst (EachBelow below n x.0) (sym (filter_carried c Erosion size u)) h))),
  )

  -- filters of the sizes ss in turn that leave on rows what the one of size t leaves do so on lists
  part_in_turn : (f : Family) (ss : List ℕ) (t : ℕ) (x : Row K n) →
      in_turn (λ s. filter_by (rounds p) f s) ss x ≡ filter_by (rounds p) f t x →
      in_turn (λ s. filter_by (rounds q) f s) ss x.0 ≡ filter_by (rounds q) f t x.0
  part_in_turn f ss t x e =
      sym (in_turn_carried (λ (y : Row K n). y.0) (λ s. filter_by (rounds p) f s) (λ s. filter_by (rounds q) f s) (λ s. filter_carried c f s) ss x)
      ∙ ap (λ (y : Row K n). y.0) e ∙ filter_carried c f t x

in_turn_parts : {K : Type 0} (k : Operations K) (g : Shape) (f : Family) (ss : List ℕ) (w : Weighting K) →
    in_turn (λ s. filtered k g (filter f s)) ss w ≡ weighting (in_turn (λ s. filter_by (vertex_rounds k g) f s) ss w.vertices) (in_turn (λ s. filter_by (edge_rounds k g) f s) ss w.edges)
in_turn_parts k g f [] w = refl
in_turn_parts k g f (s ∷ ss) w = in_turn_parts k g f ss (filtered k g (filter f s) w)

module _ {K : Type 0} (k : Operations K) (g : Shape) where
  -- both parts
  both_in_turn : (f : Family) (ss : List ℕ) (t : ℕ) →
      ((x : Row K g.order) → in_turn (λ s. filter_by (rounds (row_passes k g)) f s) ss x ≡ filter_by (rounds (row_passes k g)) f t x) →
      ((y : Row K (length g.edges)) → in_turn (λ s. filter_by (rounds (exchanged (row_passes k g))) f s) ss y ≡ filter_by (rounds (exchanged (row_passes k g))) f t y) →
      (w : Weighting K) → Fits g w → in_turn (λ s. filtered k g (filter f s)) ss w ≡ filtered k g (filter f t) w
  both_in_turn f ss t vs ys w fit = in_turn_parts k g f ss w
      ∙ ap₂ weighting (part_in_turn (row_carried k g) f ss t (w.vertices, fit.0) (vs (w.vertices, fit.0)))
      (part_in_turn (carried_exchanged (row_carried k g)) f ss t (w.edges, fit.1) (ys (w.edges, fit.1)))

module _ {K : Type 0} (below : K → K → Type 0) (k : Operations K) (lattice : Lattice below k) where
  pub dilation_adjoint : DilationAdjoint below k
  dilation_adjoint g accepted size w u fw fu =
      let l = row_lawful below k lattice g accepted in
      let vs = part_adjoint (row_carried k g) below l size (w.vertices, fw.0) (u.vertices, fu.0) in
      let ys = part_adjoint (carried_exchanged (row_carried k g)) below (lawful_exchanged l) size (w.edges, fw.1) (u.edges, fu.1) in
      ((λ h. (vs.0 h.0, ys.0 h.1)), (λ h. (vs.1 h.0, ys.1 h.1)))

  pub openings_absorb : OpeningsAbsorb k
  openings_absorb s ss g accepted =
      let l = row_lawful below k lattice g accepted in
      both_in_turn k g Opening (s ∷ ss) (largest s ss) (largest_decides l.ox (openings l) s ss) (largest_decides l.oy (openings (lawful_exchanged l)) s ss)

  pub closings_absorb : ClosingsAbsorb k
  closings_absorb s ss g accepted =
      let l = row_lawful below k lattice g accepted in
      both_in_turn k g Closing (s ∷ ss) (largest s ss) (largest_decides (turned_order l.ox) (closings l) s ss) (largest_decides (turned_order l.oy) (closings (lawful_exchanged l)) s ss)

  pub alternates_absorb : AlternatesAbsorb k
  alternates_absorb s ss rising g accepted =
      let l = row_lawful below k lattice g accepted in
      both_in_turn k g Alternate (s ∷ ss) (last_of s ss)
      (λ x. last_decides l.ox (openings l) (closings l) s ss x rising)
      (λ y. last_decides l.oy (openings (lawful_exchanged l)) (closings (lawful_exchanged l)) s ss y rising)

-- a filter keeps the numbers of weights
pub filtered_fits : {K : Type 0} (k : Operations K) (g : Shape) (f : Filter) (w : Weighting K) → Fits g w → Fits g (filtered k g f w)
filtered_fits {K = K} k g f w fit =
    let x : Row K g.order = (w.vertices, fit.0) in
    let y : Row K (length g.edges) = (w.edges, fit.1) in (
      ap length (sym (filter_carried (row_carried k g) f.family f.size x)) ∙ (filter_by (rounds (row_passes k g)) f.family f.size x).1,
      ap length (sym (filter_carried (carried_exchanged (row_carried k g)) f.family f.size y)) ∙ (filter_by (rounds (exchanged (row_passes k g))) f.family f.size y).1,
    )

module _ {K : Type 0} (below : K → K → Type 0) (k : Operations K) (lattice : Lattice below k) (g : Shape) (accepted : Accepted g) where
  -- below both ends' weights is below their meet
  abbrev Bounded : List K → List K → Type 0
  Bounded vs ys = EachBelow below (length g.edges) ys ((passes k g).meet_over vs)

  bounded : (w : Weighting K) → Fits g w → EdgesBelowEnds below g w → Bounded w.vertices w.edges
  bounded w fit b j d h = (edge_suprema (turned_lattice lattice) g accepted.within w.vertices fit.0 j d h).least (get_or w.edges j d)
      (λ x a. b j (get_or w.edges j d) x (read_stands w.edges j d (omega (arith, fit.1))) a)

  unbounded : (w : Weighting K) → Fits g w → Bounded w.vertices w.edges → EdgesBelowEnds below g w
  unbounded w fit b j y x s a =
      let h : j < length g.edges = omega (arith, s.0, fit.1) in
      let under = b j y h in
      lattice.order.transitive y _ x (subst (λ z. below z (get_or ((passes k g).meet_over w.vertices) j y)) s.1 under)
      ((edge_suprema (turned_lattice lattice) g accepted.within w.vertices fit.0 j y h).above x a)

pub edges_stay_below_ends : {K : Type 0} (below : K → K → Type 0) (k : Operations K) → Lattice below k → EdgesStayBelowEnds below k
edges_stay_below_ends below k lattice g accepted f w fit b =
    let c = row_carried k g in
    unbounded below k lattice g accepted (filtered k g f w) (filtered_fits k g f w fit)
    (subst₂ (Bounded below k lattice g accepted) (filter_carried c f.family f.size (w.vertices, fit.0)) (filter_carried (carried_exchanged c) f.family f.size (w.edges, fit.1))
    (filter_related (bounded_rounds (row_lawful below k lattice g accepted)) f.family f.size (w.vertices, fit.0) (w.edges, fit.1) (bounded below k lattice g accepted w fit b)))
