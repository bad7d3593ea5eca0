-- Maps from one lattice to another that keep the ends, joins and meets. Assumes nothing.
use Rattle.std.specs.Prelude.{◌≡◌}
use Rattle.lattice.specs.Lattices.{Operations}

pub record Morphism {K L : Type 0} (k : Operations K) (l : Operations L) (f : K → L) : Type 0 where
  pub lowest : f k.lowest ≡ l.lowest
  pub highest : f k.highest ≡ l.highest
  pub join : (x y : K) → f (k.join x y) ≡ l.join (f x) (f y)
  pub meet : (x y : K) → f (k.meet x y) ≡ l.meet (f x) (f y)
