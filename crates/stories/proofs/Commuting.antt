-- A reading passes through the effect of each call, and so through every story. Assumes nothing.
use Rattle.std.proofs.Common.{◌≡◌, List, [], ◌∷◌, map, sym, refl, ap, ◌∙◌, ap₂, subst₂}
use lib.ListN.{length-map}
use Rattle.refusal.specs.Reports.{accepted, refused, Verdict, by_verdict}
use Rattle.lattice.specs.Lattices.{Operations}
use Rattle.lattice.specs.Morphisms.{Morphism}
use Rattle.graph.specs.Shapes.{Shape, Accepted}
use Rattle.filters.specs.Relations.{read_by}
use Rattle.filters.specs.Weightings.{Weighting, weighting, Fits, filtered}
use Rattle.filters.specs.declared.families.Filter.{Filter}
use Rattle.algebra.proofs.Morphic.{filters_commute}
use Rattle.recipe.specs.Judging.{judge}
use Rattle.recipe.specs.declared.words.Word.{Word}
use Rattle.recipe.specs.declared.words.Word.TheVariants.{Step, Hold, Join, Meet, Forget}
use Rattle.stories.specs.Statements.{StoriesCommute}
use Rattle.stories.specs.Stories.{State, clear, holding, Call, step, hold, join, meet, forget, run, Transition, Trace, end, then, Takes, Fitting, read_state, words_of_text}
use Rattle.stories.specs.Words.{each, combined, Held, nothing, something, combined_held, done}
use Rattle.stories.proofs.Answered.{transition_takes, calls_answered}
use Rattle.stories.proofs.Effects.{answer_to, effect, transition_is}
use Rattle.stories.proofs.Fitness.{transition_fits}

abbrev read_held : {K L : Type 0} → (K → L) → Held K → Held L
read_held read nothing = nothing
read_held read (something h) = something (read_by read h)

module _ {K L : Type 0} (read : K → L) (op : K → K → K) (op' : L → L → L) (op_kept : (x y : K) → read (op x y) ≡ op' (read x) (read y)) where
  each_read : (xs ys : List K) → map read (each op xs ys) ≡ each op' (map read xs) (map read ys)
  each_read [] ys = refl
  each_read (x ∷ xs) [] = refl
  each_read (x ∷ xs) (y ∷ ys) = ap₂ ◌∷◌ (op_kept x y) (each_read xs ys)

  combined_read : (w h : Weighting K) → read_by read (combined op w h) ≡ combined op' (read_by read w) (read_by read h)
  combined_read w h = ap₂ weighting (each_read w.vertices h.vertices) (each_read w.edges h.edges)

  combined_held_read : (w : Weighting K) (h : Held K) → read_by read (combined_held op w h) ≡ combined_held op' (read_by read w) (read_held read h)
  combined_held_read w nothing = refl
  combined_held_read w (something h) = combined_read w h

verdict_read : {K L : Type 0} (read : K → L) (a : Verdict) (y x : State K) → read_state read (by_verdict a y x) ≡ by_verdict a (read_state read y) (read_state read x)
verdict_read read (accepted u) y x = refl
verdict_read read (refused number place part) y x = refl

module _ {K L : Type 0} (k : Operations K) (l : Operations L) (read : K → L) (kept : Morphism k l read) (g : Shape) (sound : Accepted g) where
  filtered_read : (f : Filter) (w : Weighting K) → read_by read (filtered k g f w) ≡ filtered l g f (read_by read w)
  filtered_read f w = filters_commute k l read kept g f w

  done_read : (ws : List Word) (w : Weighting K) (h : Held K) → read_by read (done k g ws w h) ≡ done l g ws (read_by read w) (read_held read h)
  done_read [] w h = refl
  done_read (Step f ∷ ws) w h = done_read ws (filtered k g f w) h ∙ ap (λ v. done l g ws v (read_held read h)) (filtered_read f w)
  done_read (Hold ∷ ws) w h = done_read ws w (something w)
  done_read (Join ∷ ws) w h = done_read ws (combined_held k.join w h) nothing ∙ ap (λ v. done l g ws v nothing) (combined_held_read read k.join l.join kept.join w h)
  done_read (Meet ∷ ws) w h = done_read ws (combined_held k.meet w h) nothing ∙ ap (λ v. done l g ws v nothing) (combined_held_read read k.meet l.meet kept.meet w h)
  done_read (Forget ∷ ws) w h = done_read ws w nothing

  effect_read : (c : Call) (x : State K) → read_state read (effect k g c x) ≡ effect l g c (read_state read x)
  effect_read (step f p q) (clear w r) = ap (λ v. clear v r) (filtered_read f w)
  effect_read (step f p q) (holding w h r) = ap (λ v. holding v (read_by read h) r) (filtered_read f w)
  effect_read (hold p q) (clear w r) = refl
  effect_read (hold p q) (holding w h r) = refl
  effect_read (join p q) (clear w r) = refl
  effect_read (join p q) (holding w h r) = ap (λ v. clear v r) (combined_read read k.join l.join kept.join w h)
  effect_read (meet p q) (clear w r) = refl
  effect_read (meet p q) (holding w h r) = ap (λ v. clear v r) (combined_read read k.meet l.meet kept.meet w h)
  effect_read (forget p q) (clear w r) = refl
  effect_read (forget p q) (holding w h r) = refl
  effect_read (run text p q t) (clear w r) = ap (λ v. clear v (words_of_text (judge text))) (done_read (words_of_text (judge text)) w nothing)
  effect_read (run text p q t) (holding w h r) = ap (λ v. holding v (read_by read h) r) (done_read (words_of_text (judge text)) w nothing)

  transition_alike : (x y : State K) (x' y' : State L) (c : Call) (a a' : Verdict) → x' ≡ read_state read x → Transition k g x c a y → Transition l g x' c a' y' → (a' ≡ a) × (y' ≡ read_state read y)
  transition_alike x y x' y' c a a' same m m' =
      let is = transition_is k g m in
      let is' = transition_is l g m' in (
        is'.0 ∙ sym is.0,
        is'.1 ∙ ap (λ v. by_verdict (answer_to g c) (effect l g c v) v) same
            ∙ ap (λ v. by_verdict (answer_to g c) v (read_state read x)) (sym (effect_read c x))
            ∙ sym (verdict_read read (answer_to g c) (effect k g c x) x)
            ∙ ap (read_state read) (sym is.1),
      )

  trace_alike : (x z : State K) (x' z' : State L) (story : List Call) (a b : List Verdict) → x' ≡ read_state read x → Trace k g x story a z → Trace l g x' story b z' → (b ≡ a) × (z' ≡ read_state read z)
  trace_alike x z x' z' story a b same (end y) (end y') = (refl, same)
  trace_alike x z x' z' story a b same (then {y = y} {c = c} {cs = cs} {a = r} {answers = rs} m t) (then {y = y'} {a = r'} {answers = rs'} m' t') =
      let one = transition_alike x y x' y' c r r' same m m' in
      let rest = trace_alike y z y' z' cs rs rs' one.1 t t' in
      (ap₂ ◌∷◌ one.0 rest.0, rest.1)

  takes_read : (x : State K) (c : Call) → Takes x c → Takes (read_state read x) c
  takes_read (clear w r) (step f p q) takes = takes
  takes_read (clear w r) (hold p q) takes = takes
  takes_read (clear w r) (join p q) takes = takes
  takes_read (clear w r) (meet p q) takes = takes
  takes_read (clear w r) (forget p q) takes = takes
  takes_read (clear w r) (run text p q t) takes = takes
  takes_read (holding w h r) (step f p q) takes = takes
  takes_read (holding w h r) (hold p q) takes = takes
  takes_read (holding w h r) (join p q) takes = takes
  takes_read (holding w h r) (meet p q) takes = takes
  takes_read (holding w h r) (forget p q) takes = takes
  takes_read (holding w h r) (run text p q t) takes = takes

  read_fits : (w : Weighting K) → Fits g w → Fits g (read_by read w)
  read_fits w e = (length-map w.vertices read ∙ e.0, length-map w.edges read ∙ e.1)

  fitting_read : (x : State K) → Fitting g x → Fitting g (read_state read x)
  fitting_read (clear w r) e = read_fits w e
  fitting_read (holding w h r) e = (read_fits w e.0, read_fits h e.1)

  -- a call made on the first sheet can be made on the second
  transition_read : (x y : State K) (c : Call) (a : Verdict) → Fitting g x → Transition k g x c a y → Transition l g (read_state read x) c a (read_state read y)
  transition_read x y c a e m =
      let other = calls_answered l g sound (read_state read x) c (fitting_read x e) (takes_read x c (transition_takes k m)) in
      let made = other.1.1.0 in
      let alike = transition_alike x y (read_state read x) other.1.0 c a other.0 refl m made in
      subst₂ (λ b z. Transition l g (read_state read x) c b z) alike.0 alike.1 made

  trace_read : (x z : State K) (story : List Call) (a : List Verdict) → Fitting g x → Trace k g x story a z → Trace l g (read_state read x) story a (read_state read z)
  trace_read x z story a e (end y) = end (read_state read y)
  trace_read x z story a e (then {y = y} {c = c} {cs = cs} {a = r} {answers = rs} m t) = then (transition_read x y c r e m) (trace_read y z cs rs (transition_fits k g m e) t)

pub stories_commute : {K L : Type 0} (k : Operations K) (l : Operations L) (read : K → L) → Morphism k l read → StoriesCommute k l read
stories_commute k l read kept g sound w r story a x fits trace = (
  trace_read k l read kept g sound (clear w r) x story a fits trace,
  (λ b y other. trace_alike k l read kept g sound (clear w r) x (clear (read_by read w) r) y story a b refl trace other),
)
