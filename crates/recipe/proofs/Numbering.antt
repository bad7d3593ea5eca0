-- The digits of a number, one after another.
use Rattle.std.proofs.Common.{◌≡◌, ℕ, ◌+◌, ◌/◌, ◌%◌, ◌^◌, ◌<◌, ◌≤◌, [], ◌∷◌, length, decimal, sym, ap, ◌∙◌, arith, length-append}
use Rattle.std.proofs.lemmas.Fmt.{decimal_digit, decimal_step, length-decimal-le}

pub digit_one : (n : ℕ) → n < 10 → (48 + n % 10) ∷ [] ≡ decimal n
digit_one n h = ap {A = ℕ} (λ d. d ∷ []) {x = 48 + n % 10} {y = 48 + n} (omega arith) ∙ sym (decimal_digit n h)

pub length_one : (n : ℕ) → n < 10 → 1 ≡ length (decimal n)
length_one n h = ap length (digit_one n h)

pub length_step : (n : ℕ) → 10 ≤ n → n < 2 ^ 64 → length (decimal (n / 10)) + 1 ≡ length (decimal n)
length_step n h small = sym (ap length (decimal_step n h small) ∙ length-append (decimal (n / 10)) ((48 + n % 10) ∷ []))

-- a number of 32 bits has at most ten digits
pub few_digits : (n : ℕ) → n < 2 ^ 32 → length (decimal n) ≤ 10
few_digits n h = length-decimal-le 10 n (omega arith) (omega arith) (omega arith)
