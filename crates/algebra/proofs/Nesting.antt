-- The filters that four passes make, where joins and meets are adjoint. Assumes nothing.
use Rattle.std.proofs.Common.{◌≡◌, ℕ, zero, suc, ◌+◌, ◌*◌, ◌/◌, ◌%◌, ◌<◌, sym, refl, ap, ◌∙◌, subst, arith}
use mathlib.Core.Path.{fun_ext}
use Rattle.lattice.specs.Lattices.{turned, Order}
use Rattle.lattice.specs.LatticesLemmas.{turned_order}
use Rattle.filters.specs.Filters.{Passes, exchanged, Rounds, rounds, repeat, dilated, eroded, opened, closed, alternated, filter_by}
use Rattle.filters.specs.declared.families.Family.{Family}
use Rattle.filters.specs.declared.families.Family.TheVariants.{Dilation, Erosion, Opening as OpenFamily, Closing, Alternate}
use Rattle.algebra.proofs.Orders.{Adjoint, turned_adjoint, unit, lower_keeps, upper_keeps, Opening, Openings, unchanged, between}

pub record Lawful {X Y : Type 0} (bx : X → X → Type 0) (by : Y → Y → Type 0) (p : Passes X Y) : Type 0 where
  pub ox : Order bx
  pub oy : Order by
  pub over : Adjoint bx by p.join_over p.meet_back
  pub back : Adjoint by bx p.join_back p.meet_over

-- joins exchanged with meets
abbrev dual : {X Y : Type 0} → Passes X Y → Passes X Y
dual p = record { join_over = p.meet_over; meet_over = p.join_over; join_back = p.meet_back; meet_back = p.join_back }

module _ {X Y : Type 0} {bx : X → X → Type 0} {by : Y → Y → Type 0} {p : Passes X Y} (l : Lawful bx by p) where
  pub lawful_exchanged : Lawful by bx (exchanged p)
  lawful_exchanged = record { ox = l.oy; oy = l.ox; over = l.back; back = l.over }

  pub lawful_dual : Lawful (turned bx) (turned by) (dual p)
  lawful_dual = record {
    ox = turned_order l.ox;
    oy = turned_order l.oy;
    over = turned_adjoint l.back;
    back = turned_adjoint l.over;
  }

-- the opening of size n, from the outermost pair of passes inwards
abbrev nested : (n : ℕ) {X Y : Type 0} → Passes X Y → X → X
nested zero p x = x
nested (suc n) p x = p.join_back (nested n (exchanged p) (p.meet_over x))

nested_opening : (n : ℕ) {X Y : Type 0} {bx : X → X → Type 0} {by : Y → Y → Type 0} {p : Passes X Y} →
    Lawful bx by p → Opening bx (nested n p)
nested_opening zero l = unchanged l.ox
nested_opening (suc n) l = between l.ox l.oy l.back (nested_opening n (lawful_exchanged l))

nested_falls : (n : ℕ) {X Y : Type 0} {bx : X → X → Type 0} {by : Y → Y → Type 0} {p : Passes X Y} →
    Lawful bx by p → (x : X) → bx (nested (suc n) p x) (nested n p x)
nested_falls zero {p = p} l x = l.back.down _ x (l.oy.reflexive _)
nested_falls (suc n) {p = p} l x = lower_keeps l.oy l.ox l.back _ _ (nested_falls n (lawful_exchanged l) (p.meet_over x))

repeat_shift : {X : Type 0} (f : X → X) (n : ℕ) (x : X) → f (repeat f n x) ≡ repeat f n (f x)
repeat_shift f zero x = refl
repeat_shift f (suc n) x = ap f (repeat_shift f n x)

abbrev twice_and : ℕ → ℕ → ℕ
twice_and j zero = j
twice_and j (suc i) = suc (suc (twice_and j i))

twice_and_is : (j i : ℕ) → twice_and j i ≡ 2 * i + j
twice_and_is j zero = omega arith
twice_and_is j (suc i) = omega (arith, twice_and_is j i)

module _ {X Y : Type 0} (p : Passes X Y) where
  halves_nested : (j : ℕ) → j < 2 → (x : X) → repeat (rounds p).half_opening j x ≡ nested j p x
  halves_nested zero h x = refl
  halves_nested (suc zero) h x = refl
  halves_nested (suc (suc j)) h x = absurd (omega arith)

  rounds_nested : (i j : ℕ) → j < 2 → (x : X) →
      repeat (rounds p).dilation i (repeat (rounds p).half_opening j (repeat (rounds p).erosion i x)) ≡ nested (twice_and j i) p x
  rounds_nested zero j h x = halves_nested j h x
  rounds_nested (suc i) j h x = ap (rounds p).dilation
      (ap (λ y. repeat (rounds p).dilation i (repeat (rounds p).half_opening j y)) (repeat_shift (rounds p).erosion i x)
      ∙ rounds_nested i j h ((rounds p).erosion x))

  opened_nested : (n : ℕ) (x : X) → opened (rounds p) n x ≡ nested n p x
  opened_nested n x = rounds_nested (n / 2) (n % 2) (omega arith) x
      ∙ ap (λ k. nested k p x) (twice_and_is (n % 2) (n / 2) ∙ omega arith)

-- f and g, done to both sides, keep that R holds of them
abbrev pub Keeps : {X Y : Type 0} → (X → Y → Type 0) → (X → X) → (Y → Y) → Type 0
Keeps {X} {Y} R f g = (x : X) (y : Y) → R x y → R (f x) (g y)

-- what two rounds keep between two sorts of weights
pub record Related {X Y : Type 0} (R : X → Y → Type 0) (r : Rounds X) (s : Rounds Y) : Type 0 where
  pub by_dilation : Keeps R r.dilation s.dilation
  pub by_erosion : Keeps R r.erosion s.erosion
  pub by_half_opening : Keeps R r.half_opening s.half_opening
  pub by_half_closing : Keeps R r.half_closing s.half_closing

repeat_related : {X Y : Type 0} {R : X → Y → Type 0} (f : X → X) (g : Y → Y) → Keeps R f g → (n : ℕ) → Keeps R (repeat f n) (repeat g n)
repeat_related f g step zero x y h = h
repeat_related f g step (suc n) x y h = step _ _ (repeat_related f g step n x y h)

-- every filter keeps it too
module _ {X Y : Type 0} {R : X → Y → Type 0} {r : Rounds X} {s : Rounds Y} (k : Related R r s) where
  opened_related : (n : ℕ) → Keeps R (opened r n) (opened s n)
  opened_related n x y h = repeat_related _ _ k.by_dilation (n / 2) _ _
      (repeat_related _ _ k.by_half_opening (n % 2) _ _ (repeat_related _ _ k.by_erosion (n / 2) x y h))

  closed_related : (n : ℕ) → Keeps R (closed r n) (closed s n)
  closed_related n x y h = repeat_related _ _ k.by_erosion (n / 2) _ _
      (repeat_related _ _ k.by_half_closing (n % 2) _ _ (repeat_related _ _ k.by_dilation (n / 2) x y h))

  alternated_related : (n : ℕ) → Keeps R (alternated r n) (alternated s n)
  alternated_related zero x y h = h
  alternated_related (suc n) x y h = opened_related (suc n) _ _ (closed_related (suc n) _ _ (alternated_related n x y h))

  pub filter_related : (f : Family) (n : ℕ) → Keeps R (filter_by r f n) (filter_by s f n)
  filter_related Dilation n = repeat_related _ _ k.by_dilation n
  filter_related Erosion n = repeat_related _ _ k.by_erosion n
  filter_related OpenFamily n = opened_related n
  filter_related Closing n = closed_related n
  filter_related Alternate n = alternated_related n

-- passes that a map of the weights commutes with
pub record Carried {X Y X' Y' : Type 0} (p : Passes X Y) (q : Passes X' Y') (h : X → X') (k : Y → Y') : Type 0 where
  pub joins_over : (x : X) → k (p.join_over x) ≡ q.join_over (h x)
  pub meets_over : (x : X) → k (p.meet_over x) ≡ q.meet_over (h x)
  pub joins_back : (y : Y) → h (p.join_back y) ≡ q.join_back (k y)
  pub meets_back : (y : Y) → h (p.meet_back y) ≡ q.meet_back (k y)

module _ {X Y X' Y' : Type 0} {p : Passes X Y} {q : Passes X' Y'} {h : X → X'} {k : Y → Y'} (m : Carried p q h k) where
  pub carried_exchanged : Carried (exchanged p) (exchanged q) k h
  carried_exchanged = record { joins_over = m.joins_back; meets_over = m.meets_back; joins_back = m.joins_over; meets_back = m.meets_over }

  carried_rounds : Related (λ x y. h x ≡ y) (rounds p) (rounds q)
  carried_rounds = record {
    by_dilation = λ x y e. m.joins_back (p.join_over x) ∙ ap q.join_back (m.joins_over x ∙ ap q.join_over e);
    by_erosion = λ x y e. m.meets_back (p.meet_over x) ∙ ap q.meet_back (m.meets_over x ∙ ap q.meet_over e);
    by_half_opening = λ x y e. m.joins_back (p.meet_over x) ∙ ap q.join_back (m.meets_over x ∙ ap q.meet_over e);
    by_half_closing = λ x y e. m.meets_back (p.join_over x) ∙ ap q.meet_back (m.joins_over x ∙ ap q.join_over e);
  }

  pub filter_carried : (f : Family) (n : ℕ) (x : X) → h (filter_by (rounds p) f n x) ≡ filter_by (rounds q) f n (h x)
  filter_carried f n x = filter_related carried_rounds f n x (h x) refl

repeat_adjoint : {X : Type 0} {below : X → X → Type 0} {f g : X → X} → Adjoint below below f g → (n : ℕ) → Adjoint below below (repeat f n) (repeat g n)
repeat_adjoint a zero = record { up = λ x y h. h; down = λ x y h. h }
repeat_adjoint {below = below} {f = f} {g = g} a (suc n) =
    let rest = repeat_adjoint a n in
    record {
      up = λ x y h. subst (below x) (sym (repeat_shift g n y)) (rest.up x (g y) (a.up _ y h));
      down = λ x y h. a.down _ y (rest.down x (g y) (subst (below x) (repeat_shift g n y) h));
    }

module _ {X Y : Type 0} {bx : X → X → Type 0} {by : Y → Y → Type 0} {p : Passes X Y} (l : Lawful bx by p) where
  round_adjoint : Adjoint bx bx (rounds p).dilation (rounds p).erosion
  round_adjoint = record {
    up = λ x z h. l.over.up x _ (l.back.up _ z h);
    down = λ x z h. l.back.down _ z (l.over.down x _ h);
  }

  pub dilated_adjoint : (n : ℕ) → Adjoint bx bx (dilated (rounds p) n) (eroded (rounds p) n)
  dilated_adjoint n = repeat_adjoint round_adjoint n

  pub openings : Openings bx (opened (rounds p))
  openings =
      let same : (λ (n : ℕ). nested n p) ≡ opened (rounds p) = fun_ext (λ n. fun_ext (λ x. sym (opened_nested p n x))) in
      subst (Openings bx) same (record { each = λ n. nested_opening n l; falls = λ n x. nested_falls n l x })

pub closings : {X Y : Type 0} {bx : X → X → Type 0} {by : Y → Y → Type 0} {p : Passes X Y} →
    Lawful bx by p → Openings (turned bx) (closed (rounds p))
closings l = openings (lawful_dual l)

-- weights of the other sort that the meet over bounds stay so
pub bounded_rounds : {X Y : Type 0} {bx : X → X → Type 0} {by : Y → Y → Type 0} {p : Passes X Y} →
    Lawful bx by p → Related (λ x y. by y (p.meet_over x)) (rounds p) (rounds (exchanged p))
bounded_rounds {p = p} l = record {
  by_dilation = λ x y h. l.back.up _ _ (lower_keeps l.oy l.ox l.back _ _ (lower_keeps l.ox l.oy l.over _ _ (l.back.down y x h)));
  by_erosion = λ x y h. upper_keeps l.oy l.ox l.back _ _ (upper_keeps l.ox l.oy l.over _ _ h);
  by_half_opening = λ x y h. l.oy.transitive _ _ _ (l.over.down _ y (l.ox.reflexive _))
      (l.oy.transitive _ _ _ h (unit l.oy l.ox l.back (p.meet_over x)));
  by_half_closing = λ x y h. upper_keeps l.oy l.ox l.back _ _ (l.ox.transitive _ _ _ (l.back.down y x h) (unit l.ox l.oy l.over x));
}
