use Rattle.lattice.specs.SameValues.{same_classes}
use Rattle.lattice.specs.SetBits.{in_union, in_intersection, is_in_none, is_in_all, none_past, same_set}
use Rattle.lattice.proofs.class_sets.Classes.meaning.Goals as goal

pub returns : goal.returns
returns c = record {
  known = λ x y same. same_classes x y (same_set x.bits y.bits x.fits y.fits same);
  no_others = λ x c h. none_past c x.bits x.fits h;
  order = λ x y. (λ f. f, λ f. f);
  lowest = is_in_none;
  highest = is_in_all;
  join = λ x y c. in_union c x y;
  meet = λ x y c. in_intersection c x y;
}
