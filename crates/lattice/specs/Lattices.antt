-- Bounded lattices. Assumes nothing.
use Rattle.std.specs.Prelude.{◌≡◌}

-- a relation read from right to left
abbrev pub turned : {X : Type 0} → (X → X → Type 0) → X → X → Type 0
turned below x y = below y x

-- the ends of an order, and its joins and meets
pub record Operations (K : Type 0) : Type 0 where
  pub lowest : K
  pub highest : K
  pub join : K → K → K
  pub meet : K → K → K

-- the operations of the turned order: the ends exchanged, and join with meet
abbrev pub dual : {K : Type 0} → Operations K → Operations K
dual k = record { lowest = k.highest; highest = k.lowest; join = k.meet; meet = k.join }

pub record Order {X : Type 0} (below : X → X → Type 0) : Type 0 where
  pub reflexive : (x : X) → below x x
  pub transitive : (x y z : X) → below x y → below y z → below x z
  pub antisymmetric : (x y : X) → below x y → below y x → x ≡ y

-- an order with a lowest and a highest value, in which any two values have a least value above both and a greatest below both
pub record Lattice {K : Type 0} (below : K → K → Type 0) (k : Operations K) : Type 0 where
  pub order : Order below
  pub lowest_below : (x : K) → below k.lowest x
  pub below_highest : (x : K) → below x k.highest
  pub below_join_left : (x y : K) → below x (k.join x y)
  pub below_join_right : (x y : K) → below y (k.join x y)
  pub join_below : (x y z : K) → below x z → below y z → below (k.join x y) z
  pub meet_below_left : (x y : K) → below (k.meet x y) x
  pub meet_below_right : (x y : K) → below (k.meet x y) y
  pub below_meet : (x y z : K) → below z x → below z y → below z (k.meet x y)

-- The supremum of the values that P holds of: above each of them, and below all that is above each. Of no values it is the
-- lowest. In the turned order it is the infimum.
pub record Supremum {K : Type 0} (below : K → K → Type 0) (P : K → Type 0) (x : K) : Type 0 where
  pub above : (y : K) → P y → below y x
  pub least : (z : K) → ((y : K) → P y → below y z) → below x z
