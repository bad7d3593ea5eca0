-- What follows from the laws of a lattice. What is shown of joins holds of meets, in the turned order. Assumes nothing.
use Rattle.std.specs.Prelude.{◌≡◌}
use Rattle.lattice.specs.Lattices.{Operations, Lattice}
use Rattle.lattice.specs.LatticesLemmas.{turned_lattice}

module _ {K : Type 0} {below : K → K → Type 0} {k : Operations K} (l : Lattice below k) where
  pub join_of_below : (x y : K) → below x y → k.join x y ≡ y
  join_of_below x y h =
      l.order.antisymmetric _ _ (l.join_below x y y h (l.order.reflexive y)) (l.below_join_right x y)

  pub join_of_above : (x y : K) → below y x → k.join x y ≡ x
  join_of_above x y h =
      l.order.antisymmetric _ _ (l.join_below x y x (l.order.reflexive x) h) (l.below_join_left x y)

module _ {K : Type 0} {below : K → K → Type 0} {k : Operations K} (l : Lattice below k) where
  pub meet_of_below : (x y : K) → below x y → k.meet x y ≡ x
  meet_of_below x y h = join_of_above (turned_lattice l) x y h

  pub meet_of_above : (x y : K) → below y x → k.meet x y ≡ y
  meet_of_above x y h = join_of_below (turned_lattice l) x y h
