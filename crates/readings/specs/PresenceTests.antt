-- Presences of tests. Assumes nothing.
use Rattle.std.specs.Prelude.{◌≡◌, Bool, true, false, ◌&&◌, ◌||◌, refl}
use Rattle.lattice.specs.Presences.{present_if, either, both}
use Rattle.lattice.specs.declared.presences.Presence.TheVariants.{Present}

pub if-true : (b : Bool) → present_if b ≡ Present → b ≡ true
if-true true e = refl
if-true false e = cc

pub either_if : (a b : Bool) → present_if (a || b) ≡ either (present_if a) (present_if b)
either_if true b = refl
either_if false b = refl

pub both_if : (a b : Bool) → present_if (a && b) ≡ both (present_if a) (present_if b)
both_if true b = refl
both_if false b = refl
