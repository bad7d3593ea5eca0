-- The classes in a union and in an intersection, and sets by their classes. Assumes nothing.
use Rattle.std.specs.Prelude.{◌≡◌, ℕ, ◌^◌, ◌<◌, ◌≤◌, Bool, true, false, ◌&&◌, ◌||◌, refl}
use Rattle.std.proofs.Common.{sym, ap, ◌∙◌, mod-eq_of_lt, inl, inr, arith}
use Rattle.std.specs.Int.{bit_at}
use Rattle.std.specs.Int.Bits.{bit_and, bit_or, and_lt}
use Rattle.std.proofs.lemmas.Nat.{or_lt}
use Rattle.std.proofs.lemmas.Nat.Bits.{bit_at_and, bit_at_or, bit_at-zero, bit_at_ones, bit_at_above, same_from_bits_below}
use Rattle.std.proofs.lemmas.Bool.{cases_eq, eq-eqb, ne_eqb, eqb-true, eqb-false, and_parts}
use Rattle.std.proofs.lemmas.Bool.Decides.{nat_tests}
use Rattle.lattice.specs.ClassSets.{is_in, has_class, union, intersection}
use Rattle.lattice.specs.declared.class_sets.Classes.{Classes}

pub is_in_or : (k a b : ℕ) → is_in k (bit_or a b) ≡ (is_in k a || is_in k b)
is_in_or k a b = let e = bit_at_or a b k in grind (arith, nat_tests)

pub is_in_and : (k a b : ℕ) → is_in k (bit_and a b) ≡ (is_in k a && is_in k b)
is_in_and k a b = let e = bit_at_and a b k in grind (arith, nat_tests)

-- one bit is known by whether it is 1
same_bit : (k a b : ℕ) → is_in k a ≡ is_in k b → bit_at a k ≡ bit_at b k
same_bit k a b e = elim (cases_eq (bit_at a k) 1) [
  | inl one ↦ one ∙ sym (eqb-true _ 1 (sym e ∙ eq-eqb _ 1 one))
  | inr not ↦ let other = eqb-false _ 1 (sym e ∙ ne_eqb _ 1 not) in omega arith
]

-- a set is known by its classes
pub same_set : (a b : ℕ) → a < 2 ^ 32 → b < 2 ^ 32 → ((k : ℕ) → k < 32 → is_in k a ≡ is_in k b) → a ≡ b
same_set a b p q same = same_from_bits_below 32 a b p q (λ k h. same_bit k a b (same k h))

pub none_past : (k a : ℕ) → a < 2 ^ 32 → 32 ≤ k → is_in k a ≡ false
none_past k a p h = ne_eqb _ 1 (omega (arith, bit_at_above a 32 k p h))

pub is_in_none : (k : ℕ) → is_in k 0 ≡ false
is_in_none k = ne_eqb _ 1 (omega (arith, bit_at-zero k))

pub is_in_all : (k : ℕ) → k < 32 → is_in k 4294967295 ≡ true
is_in_all k h = eq-eqb _ 1 (bit_at_ones 32 k h)

absorbed : (x y : Bool) → (x ≡ true → y ≡ true) → (x && y) ≡ x
absorbed true y f = f refl
absorbed false y f = refl

-- inclusion, as the code tests it
pub included_from_and : (a b : ℕ) → bit_and a b ≡ a → (k : ℕ) → is_in k a ≡ true → is_in k b ≡ true
included_from_and a b e k i = (and_parts _ _ (sym (is_in_and k a b) ∙ ap (is_in k) e ∙ i)).1

pub and_from_included : (a b : ℕ) → a < 2 ^ 32 → b < 2 ^ 32 → ((k : ℕ) → k < 32 → is_in k a ≡ true → is_in k b ≡ true) → bit_and a b ≡ a
and_from_included a b p q f =
    same_set (bit_and a b) a (and_lt 32 a b p q) p (λ k h. is_in_and k a b ∙ absorbed (is_in k a) (is_in k b) (f k h))

pub union_bits : (x y : Classes) → (union x y).bits ≡ bit_or x.bits y.bits
union_bits x y = mod-eq_of_lt (or_lt 32 x.bits y.bits x.fits y.fits)

pub intersection_bits : (x y : Classes) → (intersection x y).bits ≡ bit_and x.bits y.bits
intersection_bits x y = mod-eq_of_lt (and_lt 32 x.bits y.bits x.fits y.fits)

-- a class is in the union where it is in one of the two
pub in_union : (k : ℕ) (x y : Classes) → has_class k (union x y) ≡ (has_class k x || has_class k y)
in_union k x y = ap (is_in k) (union_bits x y) ∙ is_in_or k x.bits y.bits

-- a class is in the intersection where it is in both
pub in_intersection : (k : ℕ) (x y : Classes) → has_class k (intersection x y) ≡ (has_class k x && has_class k y)
in_intersection k x y = ap (is_in k) (intersection_bits x y) ∙ is_in_and k x.bits y.bits
