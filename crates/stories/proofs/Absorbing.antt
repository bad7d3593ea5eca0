-- What filters of one family in a story leave, and dilation and erosion of what stories leave. Assumes nothing.
use Rattle.std.proofs.Common.{◌≡◌, ℕ, true, List, [], ◌∷◌, ◌++◌, sym, refl, ap, ◌∙◌, subst}
use Rattle.refusal.specs.Reports.{accepted, refused, Verdict, by_verdict}
use Rattle.lattice.specs.Lattices.{Operations, Lattice}
use Rattle.graph.specs.Shapes.{Shape}
use Rattle.filters.specs.Relations.{filter}
use Rattle.filters.specs.Calls.{lawful_size, outcome}
use Rattle.algebra.specs.Laws.{in_turn, largest, last_of}
use Rattle.filters.specs.Weightings.{Weighting, Fits, blank, filtered}
use Rattle.filters.specs.declared.families.Family.{Family}
use Rattle.filters.specs.declared.families.Family.TheVariants.{Opening, Closing, Alternate}
use Rattle.algebra.proofs.Absorption.{dilation_adjoint, openings_absorb, closings_absorb, alternates_absorb}
use Rattle.recipe.specs.Judging.{judge}
use Rattle.recipe.specs.declared.words.Word.{Word}
use Rattle.recipe.specs.declared.words.Word.TheVariants.{Step, Hold, Join, Meet, Forget}
use Rattle.stories.specs.Statements.{Reached, StoriesAdjoint, AcceptsOnly, StepMakes, StoriesAbsorb}
use Rattle.stories.specs.Stories.{State, clear, holding, Call, step, hold, join, meet, forget, run, Transition, Trace, end, then, weights_of, words_of_text, words_of_call, words_if, accepted_words, Only, sizes_of}
use Rattle.stories.specs.Words.{Held, nothing, something, done}
use Rattle.stories.proofs.Effects.{effect, transition_is}
use Rattle.stories.proofs.Fitness.{trace_fits, weights_fit}
use Rattle.stories.proofs.Lawfulness.{AllLawful, sizes_lawful, trace_lawful, largest_lawful, last_lawful, step_makes}

in_turn_append : {X : Type 0} (f : ℕ → X → X) (ms ns : List ℕ) (x : X) → in_turn f (ms ++ ns) x ≡ in_turn f ns (in_turn f ms x)
in_turn_append f [] ns x = refl
in_turn_append f (m ∷ ms) ns x = in_turn_append f ms ns (f m x)

sizes_append : (vs ws : List Word) → sizes_of (vs ++ ws) ≡ sizes_of vs ++ sizes_of ws
sizes_append [] ws = refl
sizes_append (Step f ∷ vs) ws = ap (λ ns. f.size ∷ ns) (sizes_append vs ws)
sizes_append (Hold ∷ vs) ws = sizes_append vs ws
sizes_append (Join ∷ vs) ws = sizes_append vs ws
sizes_append (Meet ∷ vs) ws = sizes_append vs ws
sizes_append (Forget ∷ vs) ws = sizes_append vs ws

only_parts : (l : Family) (vs ws : List Word) → Only l (vs ++ ws) → Only l vs × Only l ws
only_parts l [] ws o = (tt, o)
only_parts l (Step f ∷ vs) ws o = let parts = only_parts l vs ws o.1 in ((o.0, parts.0), parts.1)
only_parts l (Hold ∷ vs) ws o = only_parts l vs ws o
only_parts l (Join ∷ vs) ws o = absurd o
only_parts l (Meet ∷ vs) ws o = absurd o
only_parts l (Forget ∷ vs) ws o = only_parts l vs ws o

module _ {K : Type 0} (k : Operations K) (g : Shape) (l : Family) where
  -- filters of the family, of these sizes in turn
  abbrev turns : List ℕ → Weighting K → Weighting K
  turns ns w = in_turn (λ n. filtered k g (filter l n)) ns w

  done_turns : (ws : List Word) (w : Weighting K) (h : Held K) → Only l ws → done k g ws w h ≡ turns (sizes_of ws) w
  done_turns [] w h o = refl
  done_turns (Step f ∷ ws) w h o = done_turns ws (filtered k g f w) h o.1 ∙ ap (λ m. turns (sizes_of ws) (filtered k g (filter m f.size) w)) o.0
  done_turns (Hold ∷ ws) w h o = done_turns ws w (something w) o
  done_turns (Join ∷ ws) w h o = absurd o
  done_turns (Meet ∷ ws) w h o = absurd o
  done_turns (Forget ∷ ws) w h o = done_turns ws w nothing o

  effect_turns : (c : Call) (x : State K) → Only l (words_of_call c) → weights_of (effect k g c x) ≡ turns (sizes_of (words_of_call c)) (weights_of x)
  effect_turns (step f p q) (clear w r) o = ap (λ m. filtered k g (filter m f.size) w) o.0
  effect_turns (step f p q) (holding w h r) o = ap (λ m. filtered k g (filter m f.size) w) o.0
  effect_turns (hold p q) (clear w r) o = refl
  effect_turns (hold p q) (holding w h r) o = refl
  effect_turns (join p q) x o = absurd o
  effect_turns (meet p q) x o = absurd o
  effect_turns (forget p q) (clear w r) o = refl
  effect_turns (forget p q) (holding w h r) o = refl
  effect_turns (run text p q t) (clear w r) o = done_turns (words_of_text (judge text)) w nothing o
  effect_turns (run text p q t) (holding w h r) o = done_turns (words_of_text (judge text)) w nothing o

  answer_turns : (a : Verdict) (c : Call) (x : State K) → Only l (words_if a c) → weights_of (by_verdict a (effect k g c x) x) ≡ turns (sizes_of (words_if a c)) (weights_of x)
  answer_turns (accepted u) c x o = effect_turns c x o
  answer_turns (refused number place part) c x o = refl

  transition_turns : {x y : State K} {c : Call} {a : Verdict} → Transition k g x c a y → Only l (words_if a c) → weights_of y ≡ turns (sizes_of (words_if a c)) (weights_of x)
  transition_turns {x} {y} {c} {a} m o =
      let is = transition_is k g m in
      ap weights_of (is.1 ∙ ap (λ b. by_verdict b (effect k g c x) x) (sym is.0)) ∙ answer_turns a c x o

  trace_turns : {x y : State K} {story : List Call} {answers : List Verdict} → Trace k g x story answers y → Only l (accepted_words story answers)
      → weights_of y ≡ turns (sizes_of (accepted_words story answers)) (weights_of x)
  trace_turns (end x) o = refl
  trace_turns {x} (then {c = c} {cs = cs} {a = a} {answers = answers} m t) o =
      let here = words_if a c in
      let later = accepted_words cs answers in
      let parts = only_parts l here later o in
      trace_turns t parts.1 ∙ ap (turns (sizes_of later)) (transition_turns m parts.0)
      ∙ sym (in_turn_append (λ n. filtered k g (filter l n)) (sizes_of here) (sizes_of later) (weights_of x))
      ∙ ap (λ ns. turns ns (weights_of x)) (sym (sizes_append here later))

module _ {K : Type 0} (below : K → K → Type 0) (k : Operations K) (lattice : Lattice below k) where
  -- what one family's filters leave is what one step makes, where the filters absorb one another
  leaves : (g : Shape) (w : Weighting K) (r : List Word) (story : List Call) (answers : List Verdict) (x : State K) (first : ℕ) (later : List ℕ) → Fits g w
      → Trace k g (clear w r) story answers x → (l : Family) → AcceptsOnly l story answers first later → (n : ℕ) → (AllLawful (first ∷ later) → lawful_size n ≡ true)
      → in_turn (λ m. filtered k g (filter l m)) (first ∷ later) w ≡ filtered k g (filter l n) w → StepMakes k g l n w (weights_of x)
  leaves g w r story answers x first later fits trace l accepts n lawful absorbs s fit_s =
      let all : AllLawful (first ∷ later) = subst AllLawful accepts.sizes (sizes_lawful (accepted_words story answers) (trace_lawful k g trace)) in
      let left : weights_of x ≡ filtered k g (filter l n) w =
      trace_turns k g l trace accepts.only ∙ ap (λ ns. in_turn (λ m. filtered k g (filter l m)) ns w) accepts.sizes ∙ absorbs in
      step_makes k g (filter l n) w s fits fit_s (lawful all) ∙ ap (λ v. outcome (accepted tt) v (blank k s)) (sym left)

  pub stories_absorb : StoriesAbsorb k
  stories_absorb g sound w r story answers x first later fits trace =
      let by = leaves g w r story answers x first later fits trace in (
        (λ accepts. by Opening accepts (largest first later) (largest_lawful first later) (openings_absorb below k lattice first later g sound w fits)),
        (λ accepts. by Closing accepts (largest first later) (largest_lawful first later) (closings_absorb below k lattice first later g sound w fits)),
        (λ accepts rising. by Alternate accepts (last_of first later) (last_lawful first later) (alternates_absorb below k lattice first later rising g sound w fits)),
      )

  reached_fits : (g : Shape) (w : Weighting K) → Reached k g w → Fits g w
  reached_fits g w reached = subst (Fits g) reached.leaves (weights_fit g reached.last (trace_fits k g reached.trace reached.fits))

  pub stories_adjoint : StoriesAdjoint below k
  stories_adjoint g sound w u rw ru n low high = dilation_adjoint below k lattice g sound n w u (reached_fits g w rw) (reached_fits g u ru)
