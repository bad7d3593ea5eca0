-- Sets of classes as a kind: ordered by inclusion, with union and intersection. Assumes nothing.
use Rattle.std.specs.Prelude.{◌≡◌, ℕ, ◌/◌, ◌%◌, ◌^◌, ◌<◌, ◌≤◌, Bool, true, false, ◌&&◌, ◌||◌, ◌==◌, bit_and, bit_or}
use Rattle.std.proofs.Common.{mod-lt, zero-lt-suc}
use Rattle.lattice.specs.Lattices.{Operations}
use Rattle.lattice.specs.declared.class_sets.Classes.{Classes}

-- a number as a set: class k is in it where bit k is 1
abbrev pub is_in : ℕ → ℕ → Bool
is_in k bits = bits / 2 ^ k % 2 == 1

-- class k is in the set
abbrev pub has_class : ℕ → Classes → Bool
has_class k x = is_in k x.bits

-- the number that is a set
abbrev pub classes_number : Classes → ℕ
classes_number x = x.bits

-- the set that a number is, by its low 32 bits
abbrev pub classes_of : ℕ → Classes
classes_of n = record { bits = n % 2 ^ 32; fits = mod-lt n (zero-lt-suc 4294967295) }

-- each of the classes 0 to 31 that is in the first set is in the second
abbrev pub Included : Classes → Classes → Type 0
Included x y = (k : ℕ) → k < 32 → has_class k x ≡ true → has_class k y ≡ true

abbrev pub classes_below : Classes → Classes → Type 0
classes_below = Included

-- the same as a test: the classes in both are those in the first
abbrev pub classes_leq : Classes → Classes → Bool
classes_leq x y = bit_and x.bits y.bits == x.bits

abbrev pub union : Classes → Classes → Classes
union x y = classes_of (bit_or x.bits y.bits)

abbrev pub intersection : Classes → Classes → Classes
intersection x y = classes_of (bit_and x.bits y.bits)

abbrev pub classes_operations : Operations Classes
classes_operations = record { lowest = classes_of 0; highest = classes_of 4294967295; join = union; meet = intersection }

-- the kind of class sets: a set is known by which of the classes 0 to 31 are in it; below is inclusion, the ends are the set of
-- none and the set of all, a class is in the join where it is in one of the two, and in the meet where it is in both
pub record ClassesKind (below : Classes → Classes → Type 0) (k : Operations Classes) : Type 0 where
  pub known : (x y : Classes) → ((c : ℕ) → c < 32 → has_class c x ≡ has_class c y) → x ≡ y
  pub no_others : (x : Classes) (c : ℕ) → 32 ≤ c → has_class c x ≡ false
  pub order : (x y : Classes) → (below x y → Included x y) × (Included x y → below x y)
  pub lowest : (c : ℕ) → has_class c k.lowest ≡ false
  pub highest : (c : ℕ) → c < 32 → has_class c k.highest ≡ true
  pub join : (x y : Classes) (c : ℕ) → has_class c (k.join x y) ≡ (has_class c x || has_class c y)
  pub meet : (x y : Classes) (c : ℕ) → has_class c (k.meet x y) ≡ (has_class c x && has_class c y)
