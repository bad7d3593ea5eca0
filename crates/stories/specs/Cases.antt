-- Small cases of what holds of stories. Each follows from its statement alone, whatever the operations are: a statement that says
-- less does not give it. Assumes nothing.
use Rattle.std.specs.Prelude.{◌≡◌, ℕ, ◌↔◌, List, [], ◌∷◌, codes}
use Rattle.refusal.specs.Reports.{accepted, refused, Verdict}
use Rattle.refusal.specs.declared.Part.TheVariants as part
use Rattle.lattice.specs.Lattices.{Operations}
use Rattle.graph.specs.Shapes.{Shape, Accepted}
use Rattle.filters.specs.Relations.{filter, Below, read_by}
use Rattle.filters.specs.Calls.{outcome, filter_call}
use Rattle.filters.specs.Weightings.{Weighting, Fits, blank, filtered}
use Rattle.filters.specs.declared.families.Family.TheVariants.{Dilation, Erosion, Opening, Closing, Alternate}
use Rattle.filters.specs.declared.families.Filter.{Filter}
use Rattle.recipe.specs.declared.words.Word.{Word}
use Rattle.stories.specs.Statements.{CallsAnswered, RefusalsChangeNothing, StoriesCommute, StoriesAdjoint, StoriesAbsorb}
use Rattle.stories.specs.Stories.{State, clear, holding, Lengths, Call, step, hold, join, meet, forget, run, Transition, Trace, weights_of}

-- the call is answered, in a sheet of weights w, with h held beside them or with nothing held
abbrev ClearAnswers : {K : Type 0} → Operations K → Call → Type 0
ClearAnswers {K} k c = (g : Shape) → Accepted g → (w : Weighting K) (r : List Word) → Fits g w → (a : Verdict) × ((y : State K) × Transition k g (clear w r) c a y)

abbrev HoldingAnswers : {K : Type 0} → Operations K → Call → Type 0
HoldingAnswers {K} k c = (g : Shape) → Accepted g → (w h : Weighting K) (r : List Word) → Fits g w → Fits g h → (a : Verdict) × ((y : State K) × Transition k g (holding w h r) c a y)

-- what any story left, and other weights, are adjoint at the size n
abbrev AdjointAt : {K : Type 0} → (K → K → Type 0) → Operations K → ℕ → Type 0
AdjointAt {K} below k n = (g : Shape) → Accepted g → (w u : Weighting K) (r : List Word) (story : List Call) (answers : List Verdict) (x : State K) →
    Fits g w → Fits g u → Trace k g (clear w r) story answers x →
    Below below g (filtered k g (filter Dilation n) (weights_of x)) u ↔ Below below g (weights_of x) (filtered k g (filter Erosion n) u)

-- the story with these answers leaves what the filter makes of the starting weights
abbrev LeavesStep : {K : Type 0} → Operations K → List Call → List Verdict → Filter → Type 0
LeavesStep {K} k story answers f = (g : Shape) → Accepted g → (w s : Weighting K) (r : List Word) (x : State K) → Fits g w → Fits g s →
    Trace k g (clear w r) story answers x → filter_call k g f w s ≡ outcome (accepted tt) (weights_of x) (blank k s)

pub record SmallStories {K L : Type 0} (below : K → K → Type 0) (k : Operations K) (l : Operations L) (read : K → L) : Type 0 where
  pub clear_step : CallsAnswered k → (f : Filter) (p q : Lengths) → ClearAnswers k (step f p q)
  pub clear_hold : CallsAnswered k → (p q : Lengths) → ClearAnswers k (hold p q)
  pub clear_run : CallsAnswered k → (text : List ℕ) (p q t : Lengths) → ClearAnswers k (run text p q t)
  pub holding_step : CallsAnswered k → (f : Filter) (p q : Lengths) → HoldingAnswers k (step f p q)
  pub holding_join : CallsAnswered k → (p q : Lengths) → HoldingAnswers k (join p q)
  pub holding_meet : CallsAnswered k → (p q : Lengths) → HoldingAnswers k (meet p q)
  pub holding_forget : CallsAnswered k → (p q : Lengths) → HoldingAnswers k (forget p q)
  pub refused_join : RefusalsChangeNothing k → (g : Shape) → Accepted g → (w h : Weighting K) (r : List Word) (p q : Lengths) (y : State K) →
      Transition k g (holding w h r) (join p q) (refused 7 0 part.Sheet) y → y ≡ holding w h r
  -- what is held is read too
  pub read_held : StoriesCommute k l read → (g : Shape) → Accepted g → (w v h : Weighting K) (r : List Word) (story : List Call) (answers : List Verdict) → Fits g w →
      Trace k g (clear w r) story answers (holding v h r) → Trace l g (clear (read_by read w) r) story answers (holding (read_by read v) (read_by read h) r)
  pub adjoint_at_1 : StoriesAdjoint below k → AdjointAt below k 1
  pub adjoint_at_200 : StoriesAdjoint below k → AdjointAt below k 200
  -- a run, a hold, a refused step of another family, and a step: O1, O2 and O1 are accepted
  pub openings : StoriesAbsorb k → (p q : Lengths) →
      LeavesStep k (run (codes "O1 H O2 F") p p p ∷ hold p p ∷ step (filter Closing 3) p q ∷ step (filter Opening 1) p p ∷ [])
      (accepted tt ∷ accepted tt ∷ refused 7 0 part.Sheet ∷ accepted tt ∷ []) (filter Opening 2)
  pub closings : StoriesAbsorb k → (p : Lengths) → LeavesStep k (step (filter Closing 2) p p ∷ step (filter Closing 1) p p ∷ []) (accepted tt ∷ accepted tt ∷ []) (filter Closing 2)
  pub alternates : StoriesAbsorb k → (p : Lengths) → LeavesStep k (step (filter Alternate 1) p p ∷ run (codes "A2 A2") p p p ∷ []) (accepted tt ∷ accepted tt ∷ []) (filter Alternate 2)
