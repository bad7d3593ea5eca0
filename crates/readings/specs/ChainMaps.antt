-- A map out of a chain that keeps the order and the ends keeps joins and meets too. Assumes nothing.
use Rattle.std.specs.Prelude.{◌≡◌, Bool, ◌⊎◌}
use Rattle.std.proofs.Common.{inl, inr, sym, ap, ◌∙◌}
use Rattle.std.proofs.lemmas.Bool.{cases_Bool}
use Rattle.lattice.specs.Chains.{Total}
use Rattle.lattice.specs.Lattices.{Operations, Lattice}
use Rattle.lattice.specs.Morphisms.{Morphism}
use Rattle.readings.specs.LatticeFacts.{join_of_below, join_of_above, meet_of_below, meet_of_above}

module _ {K L : Type 0} {below : K → K → Type 0} {k : Operations K} (laws : Lattice below k) {leq : K → K → Bool} (total : Total below leq)
    {below' : L → L → Type 0} {l : Operations L} (laws' : Lattice below' l) (f : K → L) where
  compares : (x y : K) → below x y ⊎ below y x
  compares x y = elim (cases_Bool (leq x y)) [ inl e ↦ inl ((total.exact x y).0 e) | inr e ↦ inr (total.otherwise x y e) ]

  pub chain_morphism : ((x y : K) → below x y → below' (f x) (f y)) → f k.lowest ≡ l.lowest → f k.highest ≡ l.highest → Morphism k l f
  chain_morphism mono low high = record {
    lowest = low;
    highest = high;
    join = λ x y. elim (compares x y) [
      | inl h ↦ ap f (join_of_below laws x y h) ∙ sym (join_of_below laws' (f x) (f y) (mono x y h))
      | inr h ↦ ap f (join_of_above laws x y h) ∙ sym (join_of_above laws' (f x) (f y) (mono y x h))
    ];
    meet = λ x y. elim (compares x y) [
      | inl h ↦ ap f (meet_of_below laws x y h) ∙ sym (meet_of_below laws' (f x) (f y) (mono x y h))
      | inr h ↦ ap f (meet_of_above laws x y h) ∙ sym (meet_of_above laws' (f x) (f y) (mono y x h))
    ];
  }
