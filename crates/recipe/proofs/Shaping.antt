-- Lemmas on the front of a word, and on its digits.
use Rattle.std.proofs.Common.{◌≡◌, ℕ, suc, ◌+◌, ◌-◌, ◌*◌, ◌≤◌, min, Bool, cond, eqb, List, [], ◌∷◌, ◌++◌, length, refl, ap, ◌∙◌, arith}
use Rattle.std.proofs.lemmas.Bool.{cond_both, eqb-true, eqb-false}
use Rattle.std.specs.List.{prefix_len, fold}
use Rattle.refusal.specs.Reports.{Answer}
use Rattle.recipe.specs.Shapes.{front, numeral, Parsed}

pub front_is : (p : ℕ → Bool) (xs : List ℕ) → front p xs ≡ prefix_len p xs
front_is p [] = refl
front_is p (x ∷ xs) = ap (λ n. cond (p x) n 0) (ap suc (front_is p xs) ∙ omega arith)

pub front_within : (p : ℕ → Bool) (xs : List ℕ) → front p xs ≤ length xs
front_within p [] = omega arith
front_within p (x ∷ xs) = cond_both (p x) (suc (front p xs)) 0 (λ n. n ≤ suc (length xs)) (λ e. omega (arith, front_within p xs)) (λ e. omega arith)

pub numeral_push : (n : ℕ) (xs : List ℕ) (y : ℕ) → numeral n (xs ++ y ∷ []) ≡ numeral n xs * 10 + (y - 48)
numeral_push n [] y = refl
numeral_push n (x ∷ xs) y = numeral_push (n * 10 + (x - 48)) xs y

-- one digit more, where the number stops at the largest of 32 bits
abbrev pub saturated : ℕ → ℕ → ℕ
saturated n d = min (min (n * 10) 4294967295 + (d - 48)) 4294967295

pub numeral_saturated : (xs : List ℕ) (m n : ℕ) → m ≡ min n 4294967295 → fold saturated m xs ≡ min (numeral n xs) 4294967295
numeral_saturated [] m n e = e
numeral_saturated (x ∷ xs) m n e = numeral_saturated xs (saturated m x) (n * 10 + (x - 48)) (omega arith)

-- a choice by the first byte
pub pick : (b k : ℕ) (x y : Answer Parsed) (P : Answer Parsed → Type 0) → (b ≡ k → P x) → ((b ≡ k → ⊥) → P y) → P (cond (eqb b k) x y)
pick b k x y P here other = cond_both (eqb b k) x y P (λ e. here (eqb-true b k e)) (λ e. other (eqb-false b k e))
