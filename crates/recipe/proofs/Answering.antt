-- An accepted answer is no refused one, and equal refusals say the same.
use Rattle.std.proofs.Common.{◌≡◌, ℕ, subst}
use Rattle.refusal.specs.declared.Part.{Part}
use Rattle.refusal.specs.Reports.{Answer, accepted, refused}

-- a fact of a number, a place and a part, said of an answer
abbrev OfRefusal : {A : Type 0} → (ℕ → ℕ → Part → Type 0) → Answer A → Type 0
OfRefusal P (accepted x) = ⊥
OfRefusal P (refused n at p) = P n at p

pub same_refusal : {A : Type 0} (P : ℕ → ℕ → Part → Type 0) {n at n' at' : ℕ} {p p' : Part} → ◌≡◌ {A = Answer A} (refused n at p) (refused n' at' p') → P n at p → P n' at' p'
same_refusal P h x = subst (OfRefusal P) h x

pub not_accepted : {A X : Type 0} {x : A} {n at : ℕ} {p : Part} → ◌≡◌ {A = Answer A} (refused n at p) (accepted x) → X
not_accepted h = absurd (cc)

pub not_refused : {A X : Type 0} {x : A} {n at : ℕ} {p : Part} → ◌≡◌ {A = Answer A} (accepted x) (refused n at p) → X
not_refused h = absurd (cc)

pub same_value : {A : Type 0} {x y : A} → ◌≡◌ {A = Answer A} (accepted x) (accepted y) → x ≡ y
same_value h = cc
