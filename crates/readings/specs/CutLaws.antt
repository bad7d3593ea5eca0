-- A cut of a chain above its lowest value keeps the ends, joins and meets, and so does a class pick. Assumes nothing.
use Rattle.std.specs.Prelude.{◌≡◌, ℕ, ◌<◌, Bool, ◌≢◌}
use Rattle.std.proofs.Common.{inl, inr, ap, ◌∙◌}
use Rattle.std.proofs.lemmas.Bool.{cases_Bool}
use Rattle.lattice.specs.Chains.{Total}
use Rattle.lattice.specs.ClassSets.{has_class, classes_operations}
use Rattle.readings.specs.Cuts.{cut_at, pick_of}
use Rattle.lattice.specs.Lattices.{Operations, Lattice}
use Rattle.lattice.specs.Morphisms.{Morphism}
use Rattle.lattice.specs.Presences.{present_if, presence_operations}
use Rattle.lattice.specs.declared.presences.Presence.TheVariants.{Present}
use Rattle.readings.specs.ChainMaps.{chain_morphism}
use Rattle.lattice.specs.KindLaws.{presence_lattice}
use Rattle.readings.specs.PresenceTests.{if-true, either_if, both_if}
use Rattle.lattice.specs.SetBits.{is_in_none, is_in_all, in_union, in_intersection}

module _ {K : Type 0} {below : K → K → Type 0} {k : Operations K} (laws : Lattice below k) {leq : K → K → Bool} (total : Total below leq) (t : K) where
  rises : (x y : K) → below x y → cut_at leq t x ≡ Present → cut_at leq t y ≡ Present
  rises x y h e =
      ap present_if ((total.exact t y).1 (laws.order.transitive t x y ((total.exact t x).0 (if-true (leq t x) e)) h))

  pub cut_morphism : (t ≢ k.lowest) → Morphism k presence_operations (cut_at leq t)
  cut_morphism raised =
      chain_morphism laws total presence_lattice (cut_at leq t) rises
      (elim (cases_Bool (leq t k.lowest)) [
        | inl e ↦ absurd (raised (laws.order.antisymmetric t k.lowest ((total.exact t k.lowest).0 e) (laws.lowest_below t)))
        | inr e ↦ ap present_if e
      ])
      (ap present_if ((total.exact t k.highest).1 (laws.below_highest t)))

pub pick_morphism : (c : ℕ) → c < 32 → Morphism classes_operations presence_operations (pick_of c)
pick_morphism c h = record {
  lowest = ap present_if (is_in_none c);
  highest = ap present_if (is_in_all c h);
  join = λ x y. ap present_if (in_union c x y) ∙ either_if (has_class c x) (has_class c y);
  meet = λ x y. ap present_if (in_intersection c x y) ∙ both_if (has_class c x) (has_class c y);
}
