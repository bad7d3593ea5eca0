-- The turned order of a lattice is a lattice, and so is its wrapping in a reversal. Assumes nothing.
use Rattle.std.proofs.Common.{ap}
use Rattle.lattice.specs.Lattices.{turned, dual, Operations, Order, Lattice}
use Rattle.lattice.specs.Reversals.{reversal, wrapped, reversed_below, reversed_operations}

pub turned_order : {X : Type 0} {below : X → X → Type 0} → Order below → Order (turned below)
turned_order o = record {
  reflexive = o.reflexive;
  transitive = λ x y z xy yz. o.transitive z y x yz xy;
  antisymmetric = λ x y xy yx. o.antisymmetric x y yx xy;
}

pub turned_lattice : {K : Type 0} {below : K → K → Type 0} {k : Operations K} → Lattice below k → Lattice (turned below) (dual k)
turned_lattice l = record {
  order = turned_order l.order;
  lowest_below = l.below_highest;
  below_highest = l.lowest_below;
  below_join_left = l.meet_below_left;
  below_join_right = l.meet_below_right;
  join_below = l.below_meet;
  meet_below_left = l.below_join_left;
  meet_below_right = l.below_join_right;
  below_meet = l.join_below;
}

pub wrapped_lattice : {K : Type 0} {below : K → K → Type 0} {k : Operations K} → Lattice below k → Lattice (λ x y. below x.inner y.inner) (wrapped k)
wrapped_lattice l = record {
  order = record {
    reflexive = λ x. l.order.reflexive x.inner;
    transitive = λ x y z. l.order.transitive x.inner y.inner z.inner;
    antisymmetric = λ x y xy yx. ap reversal (l.order.antisymmetric x.inner y.inner xy yx);
  };
  lowest_below = λ x. l.lowest_below x.inner;
  below_highest = λ x. l.below_highest x.inner;
  below_join_left = λ x y. l.below_join_left x.inner y.inner;
  below_join_right = λ x y. l.below_join_right x.inner y.inner;
  join_below = λ x y z. l.join_below x.inner y.inner z.inner;
  meet_below_left = λ x y. l.meet_below_left x.inner y.inner;
  meet_below_right = λ x y. l.meet_below_right x.inner y.inner;
  below_meet = λ x y z. l.below_meet x.inner y.inner z.inner;
}

pub reversed_lattice : {K : Type 0} {below : K → K → Type 0} {k : Operations K} → Lattice below k → Lattice (reversed_below below) (reversed_operations k)
reversed_lattice l = wrapped_lattice (turned_lattice l)
