-- What each call of a sheet answers, and what it leaves in the buffers. Assumes nothing.
use Rattle.std.specs.Prelude.{ℕ, cond, ◌&&◌, List}
use Rattle.refusal.specs.Reports.{Answer, accepted, refused, Verdict}
use Rattle.lattice.specs.Lattices.{Operations}
use Rattle.graph.specs.Shapes.{Shape}
use Rattle.filters.specs.Relations.{read_by}
use Rattle.filters.specs.Calls.{wrong_length, Outcome, outcome}
use Rattle.filters.specs.Weightings.{Weighting, fits, blank}
use Rattle.recipe.specs.Judging.{judge}
use Rattle.recipe.specs.declared.words.Word.{Word}
use Rattle.stories.specs.Words.{combined, nothing, done}

-- refused where a buffer has the wrong length, and then all is as it was
abbrev pub sized : {K : Type 0} → Shape → Weighting K → Weighting K → Outcome Verdict K → Outcome Verdict K
sized g w b fine = cond (fits g w && fits g b) fine (outcome wrong_length w b)

-- a hold copies the weights to the held buffers
abbrev pub hold_call : {K : Type 0} → Shape → Weighting K → Weighting K → Outcome Verdict K
hold_call g w h = sized g w h (outcome (accepted tt) w w)

-- a join, or a meet, puts at each place that of its weight and the held one; held buffers are then all lowest
abbrev pub combine_call : {K : Type 0} → (K → K → K) → Operations K → Shape → Weighting K → Weighting K → Outcome Verdict K
combine_call op k g w h = sized g w h (outcome (accepted tt) (combined op w h) (blank k h))

abbrev pub join_call : {K : Type 0} → Operations K → Shape → Weighting K → Weighting K → Outcome Verdict K
join_call k = combine_call k.join k

abbrev pub meet_call : {K : Type 0} → Operations K → Shape → Weighting K → Weighting K → Outcome Verdict K
meet_call k = combine_call k.meet k

-- a forget leaves the weights; held buffers are then all lowest
abbrev pub forget_call : {K : Type 0} → Operations K → Shape → Weighting K → Weighting K → Outcome Verdict K
forget_call k g w h = sized g w h (outcome (accepted tt) w (blank k h))

-- what a run answers and leaves, in the recipe place too
pub record Ran (K : Type 0) : Type 0 where
  pub answer : Verdict
  pub weights : Weighting K
  pub scratch : Weighting K
  pub held : Weighting K
  pub place : List Word

abbrev pub ran : {K : Type 0} → Verdict → Weighting K → Weighting K → Weighting K → List Word → Ran K
ran a w s h r = record { answer = a; weights = w; scratch = s; held = h; place = r }

-- by what its text is: the words are done in order, scratch and held buffers are all lowest and the place has the words; or
-- the refusal of the text is handed on, and all is as it was
abbrev pub run_judged : {K : Type 0} → Operations K → Shape → Answer (List Word) → Weighting K → Weighting K → Weighting K → List Word → Ran K
run_judged k g (accepted ws) w s h r = ran (accepted tt) (done k g ws w nothing) (blank k s) (blank k h) ws
run_judged k g (refused number place part) w s h r = ran (refused number place part) w s h r

-- lengths are judged before the text
abbrev pub run_call : {K : Type 0} → Operations K → Shape → List ℕ → Weighting K → Weighting K → Weighting K → List Word → Ran K
run_call k g text w s h r = cond (fits g w && (fits g s && fits g h)) (run_judged k g (judge text) w s h r) (ran wrong_length w s h r)

-- what reading a sheet answers, and what the buffers of the other kind hold after it
pub record Read (L : Type 0) : Type 0 where
  pub answer : Verdict
  pub images : Weighting L

abbrev pub reads : {L : Type 0} → Verdict → Weighting L → Read L
reads a u = record { answer = a; images = u }

abbrev pub read_call : {K L : Type 0} → (K → L) → Shape → Weighting K → Weighting L → Read L
read_call f g w u = cond (fits g w && fits g u) (reads (accepted tt) (read_by f w)) (reads wrong_length u)
