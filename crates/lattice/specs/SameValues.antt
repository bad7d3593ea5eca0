-- That a number is under a bound has one proof, so two values of one number are one value. Assumes nothing.
use mathlib.Core.HLevel.{Σ_prop_path}
use Rattle.std.specs.Prelude.{◌≡◌, ℕ, suc, ◌^◌, ◌<◌}
use Rattle.std.proofs.Common.{ap, mod-eq_of_lt}
use Rattle.std.proofs.Math.Bridge.{le_prop}
use Rattle.lattice.specs.ClassSets.{classes_of}
use Rattle.lattice.specs.declared.class_sets.Classes.{Classes}
use Rattle.lattice.specs.declared.levels.Level.{Level}

same_under : {A : Type 0} (n : ℕ) (make : (k : ℕ) × (k < n) → A) (x y : ℕ) (p : x < n) (q : y < n) → x ≡ y → make (x, p) ≡ make (y, q)
same_under n make x y p q e =
    ap make (Σ_prop_path (λ (k : ℕ). le_prop {n = suc k} {m = n}) {u = (x, p)} {v = (y, q)} e)

pub same_level : (x y : Level) → x.value ≡ y.value → x ≡ y
same_level x y = same_under 65536 (λ p. record { value = p.0; fits = p.1 }) x.value y.value x.fits y.fits

pub same_classes : (x y : Classes) → x.bits ≡ y.bits → x ≡ y
same_classes x y = same_under (2 ^ 32) (λ p. record { bits = p.0; fits = p.1 }) x.bits y.bits x.fits y.fits

-- a set is that of its number
pub classes_known : (x : Classes) → classes_of x.bits ≡ x
classes_known x = same_classes (classes_of x.bits) x (mod-eq_of_lt x.fits)
