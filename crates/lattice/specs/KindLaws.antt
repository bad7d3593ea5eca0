-- The laws of presences, levels and class sets. Assumes nothing.
use Rattle.std.proofs.Common.{rules, ⊎_elim, sym, ◌∙◌}
use Rattle.std.specs.Prelude.{Decides}
use Rattle.std.specs.Cmp.{both_ways}
use Rattle.std.proofs.lemmas.Bool.{eqb-true, eq-eqb, and_from, and_parts, or_cases, or_left, or_right, false≢true}
use Rattle.lattice.specs.ClassSets.{classes_below, classes_leq, classes_operations}
use Rattle.lattice.specs.Lattices.{Lattice}
use Rattle.lattice.specs.Levels.{level_below, level_operations}
use Rattle.lattice.specs.Presences.{presence_below, presence_operations}
use Rattle.lattice.specs.declared.class_sets.Classes.{Classes}
use Rattle.lattice.specs.SameValues.{same_level, same_classes}
use Rattle.lattice.specs.SetBits.{in_union, in_intersection, is_in_none, is_in_all, same_set, included_from_and, and_from_included}

pub presence_lattice : Lattice presence_below presence_operations
presence_lattice = search rules

pub level_lattice : Lattice level_below level_operations
level_lattice = search (rules, same_level)

pub classes_lattice : Lattice classes_below classes_operations
classes_lattice = record {
  order = record {
    reflexive = λ x k h i. i;
    transitive = λ x y z f g k h i. g k h (f k h i);
    antisymmetric = λ x y f g. same_classes x y (same_set x.bits y.bits x.fits y.fits (λ k h. both_ways _ _ (f k h) (g k h)));
  };
  lowest_below = λ x k h i. absurd (false≢true (sym (is_in_none k) ∙ i));
  below_highest = λ x k h i. is_in_all k h;
  below_join_left = λ x y k h i. in_union k x y ∙ or_left _ _ i;
  below_join_right = λ x y k h i. in_union k x y ∙ or_right _ _ i;
  join_below = λ x y z f g k h i. ⊎_elim (f k h) (g k h) (or_cases _ _ (sym (in_union k x y) ∙ i));
  meet_below_left = λ x y k h i. (and_parts _ _ (sym (in_intersection k x y) ∙ i)).0;
  meet_below_right = λ x y k h i. (and_parts _ _ (sym (in_intersection k x y) ∙ i)).1;
  below_meet = λ x y z f g k h i. in_intersection k x y ∙ and_from _ _ (f k h i) (g k h i);
}

pub classes_decided : (x y : Classes) → Decides (classes_leq x y) (classes_below x y)
classes_decided x y = (
  (λ e k h i. included_from_and x.bits y.bits (eqb-true _ _ e) k i),
  (λ f. eq-eqb _ _ (and_from_included x.bits y.bits x.fits y.fits f)),
)
