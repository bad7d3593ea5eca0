-- Openings, closings and adjunctions of ordered collections. Assumes nothing.
-- What holds of closings is what holds of openings where the order is turned.
use Rattle.std.proofs.Common.{◌≡◌, ℕ, zero, suc, ◌<◌, ◌≤◌, max, ◌⊎◌, List, [], ◌∷◌, refl, ap, ◌∙◌, subst, inl, inr, arith}
use native.Mathlib.Decide.{le_ind}
use Rattle.std.proofs.lemmas.Bool.{cases_lt}
use Rattle.filters.specs.Filters.{alternating}
use Rattle.algebra.specs.Laws.{in_turn, largest, last_of, NeverFalls}
use Rattle.lattice.specs.Lattices.{turned, Order}
use Rattle.lattice.specs.LatticesLemmas.{turned_order}

-- an equation gives both orders
pub below_of : {X : Type 0} {below : X → X → Type 0} → Order below → {x y : X} → x ≡ y → below x y
below_of {below = below} o {x} e = subst (below x) e (o.reflexive x)

-- δ is the lower half of an adjunction, and ε the upper
pub record Adjoint {X Y : Type 0} (bx : X → X → Type 0) (by : Y → Y → Type 0) (δ : X → Y) (ε : Y → X) : Type 0 where
  pub up : (x : X) (y : Y) → by (δ x) y → bx x (ε y)
  pub down : (x : X) (y : Y) → bx x (ε y) → by (δ x) y

-- the halves exchange their parts where both orders are turned
pub turned_adjoint : {X Y : Type 0} {bx : X → X → Type 0} {by : Y → Y → Type 0} {δ : X → Y} {ε : Y → X} →
    Adjoint bx by δ ε → Adjoint (turned by) (turned bx) ε δ
turned_adjoint a = record { up = λ y x h. a.down x y h; down = λ y x h. a.up x y h }

module _ {X Y : Type 0} {bx : X → X → Type 0} {by : Y → Y → Type 0} {δ : X → Y} {ε : Y → X} (ox : Order bx) (oy : Order by) (a : Adjoint bx by δ ε) where
  pub unit : (x : X) → bx x (ε (δ x))
  unit x = a.up x _ (oy.reflexive _)

  pub lower_keeps : (x z : X) → bx x z → by (δ x) (δ z)
  lower_keeps x z h = a.down x _ (ox.transitive _ _ _ h (unit z))

pub upper_keeps : {X Y : Type 0} {bx : X → X → Type 0} {by : Y → Y → Type 0} {δ : X → Y} {ε : Y → X} →
    Order bx → Order by → Adjoint bx by δ ε → (y z : Y) → by y z → bx (ε y) (ε z)
upper_keeps ox oy a y z h = lower_keeps (turned_order oy) (turned_order ox) (turned_adjoint a) z y h

pub record Opening {X : Type 0} (below : X → X → Type 0) (f : X → X) : Type 0 where
  pub keeps : (x y : X) → below x y → below (f x) (f y)
  pub lowers : (x : X) → below (f x) x
  pub again : (x : X) → below (f x) (f (f x))

pub unchanged : {X : Type 0} {below : X → X → Type 0} → Order below → Opening below (λ x. x)
unchanged o = record { keeps = λ x y h. h; lowers = o.reflexive; again = o.reflexive }

-- an opening between the halves of an adjunction is one
pub between : {X Y : Type 0} {bx : X → X → Type 0} {by : Y → Y → Type 0} {δ : Y → X} {ε : X → Y} {γ : Y → Y} →
    Order bx → Order by → Adjoint by bx δ ε → Opening by γ → Opening bx (λ x. δ (γ (ε x)))
between {δ = δ} {ε = ε} {γ = γ} ox oy a g = record {
  keeps = λ x z h. lower_keeps oy ox a _ _ (g.keeps _ _ (upper_keeps oy ox a x z h));
  lowers = λ x. a.down _ x (g.lowers _);
  again = λ x. lower_keeps oy ox a _ _ (oy.transitive _ _ _ (g.again (ε x)) (g.keeps _ _ (unit oy ox a (γ (ε x)))));
}

-- a family of openings, each below the one before
pub record Openings {X : Type 0} (below : X → X → Type 0) (γ : ℕ → X → X) : Type 0 where
  pub each : (n : ℕ) → Opening below (γ n)
  pub falls : (n : ℕ) (x : X) → below (γ (suc n) x) (γ n x)

module _ {X : Type 0} {below : X → X → Type 0} {γ : ℕ → X → X} (o : Order below) (g : Openings below γ) where
  falls_to : (m n : ℕ) → m ≤ n → (x : X) → below (γ n x) (γ m x)
  falls_to m n h x =
      le_ind (λ k. below (γ k x) (γ m x)) (o.reflexive (γ m x)) (λ k _ lower. o.transitive _ _ _ (g.falls k x) lower) n h

  -- a smaller opening before a larger, and after it, plays no part
  pub smaller_first : (m n : ℕ) → m ≤ n → (x : X) → γ n (γ m x) ≡ γ n x
  smaller_first m n h x = o.antisymmetric _ _ ((g.each n).keeps _ _ ((g.each m).lowers x))
      (o.transitive _ _ _ ((g.each n).again x) ((g.each n).keeps _ _ (falls_to m n h x)))

  pub smaller_last : (m n : ℕ) → m ≤ n → (x : X) → γ m (γ n x) ≡ γ n x
  smaller_last m n h x = o.antisymmetric _ _ ((g.each m).lowers (γ n x))
      (o.transitive _ _ _ ((g.each n).again x) (falls_to m n h (γ n x)))

  either_order : (m n : ℕ) (x : X) → (m < n) ⊎ (n ≤ m) → γ n (γ m x) ≡ γ (max m n) x
  either_order m n x (inl h) = smaller_first m n (omega (arith, h)) x ∙ ap (λ k. γ k x) (omega (arith, h))
  either_order m n x (inr h) = smaller_last n m h x ∙ ap (λ k. γ k x) (omega (arith, h))

  -- in any order they leave what the largest leaves
  pub largest_decides : (n : ℕ) (ns : List ℕ) (x : X) → in_turn γ (n ∷ ns) x ≡ γ (largest n ns) x
  largest_decides n [] x = refl
  largest_decides n (m ∷ ms) x = ap (in_turn γ ms) (either_order n m x (cases_lt n m)) ∙ largest_decides (max n m) ms x

-- the closing of size n, then the opening
abbrev both : {X : Type 0} → (ℕ → X → X) → (ℕ → X → X) → ℕ → X → X
both γ φ n x = γ n (φ n x)

-- Closings φ that rise and openings γ that fall, one after the other.
module _ {X : Type 0} {below : X → X → Type 0} {γ φ : ℕ → X → X} (o : Order below) (g : Openings below γ) (f : Openings (turned below) φ) where
  both_keeps : (n : ℕ) (x y : X) → below x y → below (both γ φ n x) (both γ φ n y)
  both_keeps n x y h = (g.each n).keeps _ _ ((f.each n).keeps y x h)

  -- a smaller pair first leaves no more
  both_lowers : (m n : ℕ) → m ≤ n → (x : X) → below (both γ φ n (both γ φ m x)) (both γ φ n x)
  both_lowers m n h x = subst (λ y. below (both γ φ n (both γ φ m x)) (γ n y)) (smaller_first (turned_order o) f m n h x)
      ((g.each n).keeps _ _ ((f.each n).keeps _ _ ((g.each m).lowers (φ m x))))

  -- and last no less
  both_raises : (m n : ℕ) → m ≤ n → (x : X) → below (both γ φ n x) (both γ φ m (both γ φ n x))
  both_raises m n h x = subst (λ y. below y (both γ φ m (both γ φ n x))) (smaller_last o g m n h (φ n x))
      ((g.each m).keeps _ _ ((f.each m).lowers (both γ φ n x)))

  lower : (n k : ℕ) → k ≤ n → (x : X) → below (both γ φ n (alternating γ φ k x)) (both γ φ n x)
  lower n zero h x = o.reflexive (both γ φ n x)
  lower n (suc k) h x = o.transitive _ _ _ (both_lowers (suc k) n h (alternating γ φ k x)) (lower n k (omega arith) x)

  raise : (n k : ℕ) → k ≤ n → (x : X) → below (both γ φ n x) (alternating γ φ k (both γ φ n x))
  raise n zero h x = o.reflexive (both γ φ n x)
  raise n (suc k) h x = o.transitive _ _ _ (both_raises (suc k) n h x) (both_keeps (suc k) _ _ (raise n k (omega arith) x))

  pub alternating_again : (n : ℕ) (x : X) → alternating γ φ n (alternating γ φ n x) ≡ alternating γ φ n x
  alternating_again zero x = refl
  alternating_again (suc n) x =
      let once : X = alternating γ φ (suc n) x in
      o.antisymmetric _ _
      (o.transitive _ _ _ (lower (suc n) n (omega arith) once) (both_lowers (suc n) (suc n) (omega arith) (alternating γ φ n x)))
      (raise (suc n) (suc n) (omega arith) (alternating γ φ n x))

  pub alternating_absorbs : (m n : ℕ) → m ≤ n → (x : X) → alternating γ φ n (alternating γ φ m x) ≡ alternating γ φ n x
  alternating_absorbs m n h x =
      le_ind (λ k. alternating γ φ k (alternating γ φ m x) ≡ alternating γ φ k x) (alternating_again m x) (λ k _ e. ap (both γ φ (suc k)) e) n h

  -- of sizes that never fall the last alone decides
  pub last_decides : (n : ℕ) (ns : List ℕ) (x : X) → NeverFalls n ns → in_turn (alternating γ φ) (n ∷ ns) x ≡ alternating γ φ (last_of n ns) x
  last_decides n [] x h = refl
  last_decides n (m ∷ ms) x h = ap (in_turn (alternating γ φ) ms) (alternating_absorbs n m h.0 x) ∙ last_decides m ms x h.1
