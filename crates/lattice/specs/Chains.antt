-- What makes an order a chain: a test tells it, and of two values one is below the other. Assumes nothing.
use Rattle.std.specs.Prelude.{◌≡◌, Bool, false, Decides}

pub record Total {K : Type 0} (below : K → K → Type 0) (leq : K → K → Bool) : Type 0 where
  pub exact : (x y : K) → Decides (leq x y) (below x y)
  pub otherwise : (x y : K) → leq x y ≡ false → below y x
