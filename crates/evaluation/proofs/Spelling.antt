-- Reversals in front of a name are taken off one by one. Assumes nothing.
use Rattle.std.proofs.Common.{◌≡◌, ℕ, zero, suc, List, ◌++◌, get_or, drop, codes, refl, ap, arith}
use Rattle.evaluation.specs.Kinds.{base_name, reversals}
use Rattle.evaluation.specs.declared.kinds.BaseKind.{BaseKind}
use Rattle.evaluation.specs.declared.kinds.BaseKind.TheVariants.{Presence, Level, Classes}

-- one reversal more at the name is one more in front
pub one_more : (count : ℕ) (rest : List ℕ) → reversals count (codes "reversed-" ++ rest) ≡ reversals (suc count) rest
one_more zero rest = refl
one_more (suc count) rest = ap (λ text. codes "reversed-" ++ text) (one_more count rest)

-- no name of a kind begins with a reversal
no_base : (base : BaseKind) (rest : List ℕ) → codes "reversed-" ++ rest ≡ base_name base → ⊥
no_base Presence rest is = omega (arith, ap (λ text. get_or text 0 0) is)
no_base Level rest is = omega (arith, ap (λ text. get_or text 0 0) is)
no_base Classes rest is = omega (arith, ap (λ text. get_or text 0 0) is)

-- where what is left is neither a reversal nor a name, no kind has the text for its name
pub no_kind : (taken count : ℕ) (name : List ℕ) (base : BaseKind) → ((rest : List ℕ) → name ≡ codes "reversed-" ++ rest → ⊥) → (name ≡ base_name base → ⊥)
    → reversals taken name ≡ reversals count (base_name base) → ⊥
no_kind zero zero name base front whole is = whole is
no_kind zero (suc count) name base front whole is = front (reversals count (base_name base)) is
no_kind (suc taken) zero name base front whole is = no_base base (reversals taken name) is
no_kind (suc taken) (suc count) name base front whole is = no_kind taken count name base front whole (ap (drop 9) is)
