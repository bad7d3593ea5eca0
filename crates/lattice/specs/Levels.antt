-- Levels as a kind: the numbers 0 to 65,535 in the usual order. Assumes nothing.
use Rattle.std.specs.Prelude.{◌≡◌, ℕ, ◌≤◌, min, max, Bool, cond, nat_le}
use Rattle.std.proofs.Common.{suc-le-suc}
use Rattle.std.proofs.Math.Nat.{min-le_right}
use Rattle.lattice.specs.Lattices.{Operations}
use Rattle.lattice.specs.declared.levels.Level.{Level}

-- the number of a level
abbrev pub level_number : Level → ℕ
level_number x = x.value

-- the level of a number, and the highest level for every number past the last
abbrev pub level : ℕ → Level
level n = record { value = min n 65535; fits = suc-le-suc (min-le_right n 65535) }

abbrev pub level_below : Level → Level → Type 0
level_below x y = x.value ≤ y.value

-- the same as a test
abbrev pub level_leq : Level → Level → Bool
level_leq x y = nat_le x.value y.value

-- the join is the larger of two levels, the meet the smaller
abbrev pub level_operations : Operations Level
level_operations = record {
  lowest = level 0;
  highest = level 65535;
  join = λ x y. cond (level_leq x y) y x;
  meet = λ x y. cond (level_leq y x) y x;
}

-- the kind of levels: each is a number from 0 to 65,535 and each such number is one, in the usual order of the numbers
pub record LevelKind (below : Level → Level → Type 0) (k : Operations Level) : Type 0 where
  pub number : (n : ℕ) → n ≤ 65535 → level_number (level n) ≡ n
  pub known : (x : Level) → level (level_number x) ≡ x
  pub bound : (x : Level) → level_number x ≤ 65535
  pub order : (x y : Level) → (below x y → level_number x ≤ level_number y) × (level_number x ≤ level_number y → below x y)
  pub lowest : level_number k.lowest ≡ 0
  pub highest : level_number k.highest ≡ 65535
  pub join : (x y : Level) → level_number (k.join x y) ≡ max (level_number x) (level_number y)
  pub meet : (x y : Level) → level_number (k.meet x y) ≡ min (level_number x) (level_number y)
