use Rattle.std.proofs.Common.{ℕ, ◌≤◌, ◌↔◌, List, [], ◌∷◌, refl, arith}
use Rattle.lattice.specs.Lattices.{Operations}
use Rattle.graph.specs.Shapes.{Shape, Accepted}
use Rattle.filters.specs.Relations.{filter, Below}
use Rattle.filters.specs.Weightings.{Weighting, Fits, filtered}
use Rattle.filters.specs.declared.families.Family.TheVariants.{Dilation, Erosion}
use Rattle.recipe.specs.declared.words.Word.{Word}
use Rattle.refusal.specs.Reports.{Verdict}
use Rattle.stories.specs.Statements.{CallsAnswered, StoriesAdjoint, Reached}
use Rattle.stories.specs.Stories.{State, clear, holding, Call, step, hold, join, meet, forget, run, Transition, Trace, end, Takes, Fitting, weights_of}
use Rattle.stories.proofs.small_stories.Goals as goal

reached : {K : Type 0} (k : Operations K) (g : Shape) (w : Weighting K) (r : List Word) (story : List Call) (answers : List Verdict) (x : State K) → Fits g w → Trace k g (clear w r) story answers x → Reached k g (weights_of x)
reached k g w r story answers x f trace = record { start = w; fits = f; place = r; story = story; answers = answers; last = x; trace = trace; leaves = refl }

-- a call that the state takes is answered
answered : {K : Type 0} (k : Operations K) → CallsAnswered k → (g : Shape) → Accepted g → (x : State K) (c : Call) → Fitting g x → Takes x c → (a : Verdict) × ((y : State K) × Transition k g x c a y)
answered k law g sound x c fits takes = let made = law g sound x c fits takes in (made.0, (made.1.0, made.1.1.0))

-- what a story left, and other weights, are adjoint
adjoint : {K : Type 0} (below : K → K → Type 0) (k : Operations K) → StoriesAdjoint below k → (n : ℕ) → 1 ≤ n → n ≤ 200
    → (g : Shape) → Accepted g → (w u : Weighting K) (r : List Word) (story : List Call) (answers : List Verdict) (x : State K)
    → Fits g w → Fits g u → Trace k g (clear w r) story answers x
    → Below below g (filtered k g (filter Dilation n) (weights_of x)) u ↔ Below below g (weights_of x) (filtered k g (filter Erosion n) u)
adjoint below k law n low high g sound w u r story answers x fits others trace =
    law g sound (weights_of x) u (reached k g w r story answers x fits trace) (reached k g u r [] [] (clear u r) others (end (clear u r))) n low high

pub returns : goal.returns
returns over c read =
    let k = over.K.Kind.operations in
    record {
      clear_step = λ law f p q g a w r fits. answered k law g a (clear w r) (step f p q) fits tt;
      clear_hold = λ law p q g a w r fits. answered k law g a (clear w r) (hold p q) fits tt;
      clear_run = λ law text p q t g a w r fits. answered k law g a (clear w r) (run text p q t) fits tt;
      holding_step = λ law f p q g a w h r fits held. answered k law g a (holding w h r) (step f p q) (fits, held) tt;
      holding_join = λ law p q g a w h r fits held. answered k law g a (holding w h r) (join p q) (fits, held) tt;
      holding_meet = λ law p q g a w h r fits held. answered k law g a (holding w h r) (meet p q) (fits, held) tt;
      holding_forget = λ law p q g a w h r fits held. answered k law g a (holding w h r) (forget p q) (fits, held) tt;
      refused_join = λ law g a w h r p q y. law g a (holding w h r) y (join p q) 7 0 _;
      read_held = λ law g a w v h r story answers fits trace. (law g a w r story answers (holding v h r) fits trace).0;
      adjoint_at_1 = λ law. adjoint over.K.Kind.below k law 1 (omega arith) (omega arith);
      adjoint_at_200 = λ law. adjoint over.K.Kind.below k law 200 (omega arith) (omega arith);
      openings = λ law p q g a w s r x fits scratch trace. (law g a w r _ _ x 1 (2 ∷ 1 ∷ []) fits trace).0 (record { only = (refl, (refl, (refl, tt))); sizes = refl }) s scratch;
      closings = λ law p g a w s r x fits scratch trace. (law g a w r _ _ x 2 (1 ∷ []) fits trace).1 (record { only = (refl, (refl, tt)); sizes = refl }) s scratch;
      alternates = λ law p g a w s r x fits scratch trace.
          (law g a w r _ _ x 1 (2 ∷ 2 ∷ []) fits trace).2 (record { only = (refl, (refl, (refl, tt))); sizes = refl }) (omega arith, (omega arith, tt)) s scratch;
    }
