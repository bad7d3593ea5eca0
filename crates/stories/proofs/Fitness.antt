-- What fits goes on fitting, in every story. Assumes nothing.
use Rattle.std.proofs.Common.{◌≡◌, suc, List, [], ◌∷◌, length, sym, refl, ap, ◌∙◌, subst, arith}
use Rattle.refusal.specs.Reports.{accepted, refused, Verdict, by_verdict}
use Rattle.lattice.specs.Lattices.{Operations}
use Rattle.graph.specs.Shapes.{Shape}
use Rattle.filters.specs.Weightings.{Weighting, Fits, filtered}
use Rattle.algebra.proofs.Absorption.{filtered_fits}
use Rattle.recipe.specs.Judging.{judge}
use Rattle.recipe.specs.declared.words.Word.{Word}
use Rattle.recipe.specs.declared.words.Word.TheVariants.{Step, Hold, Join, Meet, Forget}
use Rattle.stories.specs.Stories.{State, clear, holding, Call, step, hold, join, meet, forget, run, Transition, Trace, end, then, Fitting, weights_of, words_of_text}
use Rattle.stories.specs.Words.{each, combined, Held, nothing, something, combined_held, done}
use Rattle.stories.proofs.Effects.{answer_to, effect, transition_is}

each_length : {K : Type 0} (op : K → K → K) (xs ys : List K) → length xs ≡ length ys → length (each op xs ys) ≡ length xs
each_length op [] ys e = refl
each_length op (x ∷ xs) [] e = sym e
each_length op (x ∷ xs) (y ∷ ys) e = let h : length xs ≡ length ys = omega arith in ap suc (each_length op xs ys h)

abbrev HeldFits : {K : Type 0} → Shape → Held K → Type 0
HeldFits g nothing = Unit {0}
HeldFits g (something h) = Fits g h

module _ {K : Type 0} (k : Operations K) (g : Shape) where
  combined_fits : (op : K → K → K) (w h : Weighting K) → Fits g w → Fits g h → Fits g (combined op w h)
  combined_fits op w h e f = (
    each_length op w.vertices h.vertices (e.0 ∙ sym f.0) ∙ e.0,
    each_length op w.edges h.edges (e.1 ∙ sym f.1) ∙ e.1,
  )

  combined_held_fits : (op : K → K → K) (w : Weighting K) (h : Held K) → Fits g w → HeldFits g h → Fits g (combined_held op w h)
  combined_held_fits op w nothing e f = e
  combined_held_fits op w (something h) e f = combined_fits op w h e f

  done_fits : (ws : List Word) (w : Weighting K) (h : Held K) → Fits g w → HeldFits g h → Fits g (done k g ws w h)
  done_fits [] w h e f = e
  done_fits (Step x ∷ ws) w h e f = done_fits ws (filtered k g x w) h (filtered_fits k g x w e) f
  done_fits (Hold ∷ ws) w h e f = done_fits ws w (something w) e e
  done_fits (Join ∷ ws) w h e f = done_fits ws (combined_held k.join w h) nothing (combined_held_fits k.join w h e f) tt
  done_fits (Meet ∷ ws) w h e f = done_fits ws (combined_held k.meet w h) nothing (combined_held_fits k.meet w h e f) tt
  done_fits (Forget ∷ ws) w h e f = done_fits ws w nothing e tt

  pub effect_fits : (c : Call) (x : State K) → Fitting g x → Fitting g (effect k g c x)
  effect_fits (step f p q) (clear w r) e = filtered_fits k g f w e
  effect_fits (step f p q) (holding w h r) e = (filtered_fits k g f w e.0, e.1)
  effect_fits (hold p q) (clear w r) e = (e, e)
  effect_fits (hold p q) (holding w h r) e = e
  effect_fits (join p q) (clear w r) e = e
  effect_fits (join p q) (holding w h r) e = combined_fits k.join w h e.0 e.1
  effect_fits (meet p q) (clear w r) e = e
  effect_fits (meet p q) (holding w h r) e = combined_fits k.meet w h e.0 e.1
  effect_fits (forget p q) (clear w r) e = e
  effect_fits (forget p q) (holding w h r) e = e.0
  effect_fits (run text p q t) (clear w r) e = done_fits (words_of_text (judge text)) w nothing e tt
  effect_fits (run text p q t) (holding w h r) e = (done_fits (words_of_text (judge text)) w nothing e.0 tt, e.1)

  verdict_fits : (a : Verdict) (y x : State K) → Fitting g y → Fitting g x → Fitting g (by_verdict a y x)
  verdict_fits (accepted u) y x fy fx = fy
  verdict_fits (refused number place part) y x fy fx = fx

  pub transition_fits : {x y : State K} {c : Call} {a : Verdict} → Transition k g x c a y → Fitting g x → Fitting g y
  transition_fits {x} {y} {c} m e = subst (Fitting g) (sym (transition_is k g m).1) (verdict_fits (answer_to g c) _ x (effect_fits c x e) e)

  pub trace_fits : {x y : State K} {story : List Call} {answers : List Verdict} → Trace k g x story answers y → Fitting g x → Fitting g y
  trace_fits (end x) e = e
  trace_fits (then m t) e = trace_fits t (transition_fits m e)

pub weights_fit : {K : Type 0} (g : Shape) (x : State K) → Fitting g x → Fits g (weights_of x)
weights_fit g (clear w r) e = e
weights_fit g (holding w h r) e = e.0
