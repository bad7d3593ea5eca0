-- A run leaves the weights that the calls of its words leave, one after the other. Assumes nothing.
use Rattle.std.proofs.Common.{◌≡◌, Bool, true, false, cond, ◌&&◌, List, [], ◌∷◌, map, length, sym, refl, ap, ◌∙◌, subst, ap₂, subst₂, true≢false, eq-eqb}
use mathlib.Core.Bool.{false≢true}
use Rattle.std.proofs.lemmas.Bool.{and_parts}
use Rattle.refusal.specs.Reports.{Answer, accepted, refused, Verdict, by_verdict}
use Rattle.lattice.specs.Lattices.{Operations}
use Rattle.graph.specs.Shapes.{Shape, Accepted}
use Rattle.filters.specs.Calls.{wrong_length, wrong_size, lawful_size}
use Rattle.filters.specs.Weightings.{Weighting, Fits, filtered}
use Rattle.filters.specs.declared.families.Filter.{Filter}
use Rattle.recipe.specs.Judging.{judge}
use Rattle.recipe.specs.Legal.{fits, sizes_fit}
use Rattle.recipe.specs.declared.turns.Turn.{Turn}
use Rattle.recipe.specs.declared.turns.Turn.TheVariants.{Free, Held}
use Rattle.recipe.specs.declared.words.Word.{Word}
use Rattle.recipe.specs.declared.words.Word.TheVariants.{Step, Hold, Join, Meet, Forget}
use Rattle.recipe.proofs.Legality.{judge_legal}
use Rattle.stories.specs.Statements.{RunsGoWordByWord}
use Rattle.stories.specs.Stories.{State, clear, holding, asked, suit, Call, run, Transition, Trace, end, then, Takes, Fitting, weights_of, place_of, call_of, words_of_text}
use Rattle.stories.specs.Words.{combined, Held as HeldWeights, nothing, something, done}
use Rattle.stories.proofs.Answered.{calls_answered}
use Rattle.stories.proofs.Effects.{judged, answer_to, effect, transition_is}
use Rattle.stories.proofs.Fitness.{effect_fits}

abbrev is_accepted : Verdict → Bool
is_accepted (accepted u) = true
is_accepted (refused number place part) = false

-- a run is accepted where its text is
run_accepted : (m : Bool) (j : Answer (List Word)) → accepted tt ≡ cond m (judged j) wrong_length → (ws : List Word) × (j ≡ accepted ws)
run_accepted true (accepted ws) e = (ws, refl)
run_accepted true (refused number place part) e = absurd (true≢false (ap is_accepted e))
run_accepted false j e = absurd (true≢false (ap is_accepted e))

-- buffers of the lengths asked suit
asked_suit : (g : Shape) → suit g (asked g) ≡ true
asked_suit g = ap₂ ◌&&◌ (eq-eqb g.order g.order refl) (eq-eqb (length g.edges) (length g.edges) refl)

both_suit : (g : Shape) → (suit g (asked g) && suit g (asked g)) ≡ true
both_suit g = ap₂ ◌&&◌ (asked_suit g) (asked_suit g)

-- what is held, by the turn
abbrev pub held_in : {K : Type 0} → Turn → Weighting K → HeldWeights K
held_in Free h = nothing
held_in Held h = something h

abbrev state_in : {K : Type 0} → Turn → Weighting K → Weighting K → List Word → State K
state_in Free w h r = clear w r
state_in Held w h r = holding w h r

module _ {K : Type 0} (k : Operations K) (g : Shape) (sound : Accepted g) where
  -- an accepted call has its effect
  proceeds : (c : Call) (x : State K) → Fitting g x → Takes x c → answer_to g c ≡ accepted tt → Transition k g x c (accepted tt) (effect k g c x)
  proceeds c x e takes goes =
      let found = calls_answered k g sound x c e takes in
      let is = transition_is k g found.1.1.0 in
      subst₂ (λ a y. Transition k g x c a y) (is.0 ∙ goes) (is.1 ∙ ap (λ a. by_verdict a (effect k g c x) x) goes) found.1.1.0

  -- a hold is accepted, and so is each call that is refused for lengths alone
  hold_goes : answer_to g (call_of g Hold) ≡ accepted tt
  hold_goes = let by : Bool → Verdict = λ m. cond m (accepted tt) wrong_length in ap by (both_suit g)

  one_word : (w : Word) (x : State K) → Fitting g x → Takes x (call_of g w) → answer_to g (call_of g w) ≡ accepted tt
      → {cs : List Call} {answers : List Verdict} {z : State K} → Trace k g (effect k g (call_of g w) x) cs answers z
      → Trace k g x (call_of g w ∷ cs) (accepted tt ∷ answers) z
  one_word w x e takes goes rest = then (proceeds (call_of g w) x e takes goes) rest

  step_goes : (f : Filter) → lawful_size f.size ≡ true → answer_to g (call_of g (Step f)) ≡ accepted tt
  step_goes f in_range =
      let by : Bool → Verdict = λ m. cond m (cond (lawful_size f.size) (accepted tt) wrong_size) wrong_length in
      let then_by : Bool → Verdict = λ m. cond m (accepted tt) wrong_size in
      ap by (both_suit g) ∙ ap then_by in_range

  word_by_word : (t : Turn) (ws : List Word) (w h : Weighting K) (r : List Word) → fits t ws ≡ true → sizes_fit ws ≡ true → Fits g w → Fits g h
      → Trace k g (state_in t w h r) (map (call_of g) ws) (map (λ _. accepted tt) ws) (clear (done k g ws w (held_in t h)) r)
  word_by_word Free [] w h r f s fw fh = end (clear w r)
  word_by_word Held [] w h r f s fw fh = absurd (false≢true f)
  word_by_word Free (Step x ∷ ws) w h r f s fw fh =
      let parts = and_parts _ _ s in
      one_word (Step x) (clear w r) fw tt (step_goes x parts.0)
      (word_by_word Free ws (filtered k g x w) h r f parts.1 (effect_fits k g (call_of g (Step x)) (clear w r) fw) fh)
  word_by_word Free (Hold ∷ ws) w h r f s fw fh =
      one_word Hold (clear w r) fw tt hold_goes (word_by_word Held ws w w r f s fw fw)
  word_by_word Free (Join ∷ ws) w h r f s fw fh = absurd (false≢true f)
  word_by_word Free (Meet ∷ ws) w h r f s fw fh = absurd (false≢true f)
  word_by_word Free (Forget ∷ ws) w h r f s fw fh = absurd (false≢true f)
  word_by_word Held (Step x ∷ ws) w h r f s fw fh =
      let parts = and_parts _ _ s in
      one_word (Step x) (holding w h r) (fw, fh) tt (step_goes x parts.0)
      (word_by_word Held ws (filtered k g x w) h r f parts.1 (effect_fits k g (call_of g (Step x)) (clear w r) fw) fh)
  word_by_word Held (Hold ∷ ws) w h r f s fw fh = absurd (false≢true f)
  word_by_word Held (Join ∷ ws) w h r f s fw fh =
      one_word Join (holding w h r) (fw, fh) tt hold_goes
      (word_by_word Free ws (combined k.join w h) h r f s (effect_fits k g (call_of g Join) (holding w h r) (fw, fh)) fh)
  word_by_word Held (Meet ∷ ws) w h r f s fw fh =
      one_word Meet (holding w h r) (fw, fh) tt hold_goes
      (word_by_word Free ws (combined k.meet w h) h r f s (effect_fits k g (call_of g Meet) (holding w h r) (fw, fh)) fh)
  word_by_word Held (Forget ∷ ws) w h r f s fw fh =
      one_word Forget (holding w h r) (fw, fh) tt hold_goes (word_by_word Free ws w h r f s fw fh)

module _ {K : Type 0} (k : Operations K) where
  pub runs_go_word_by_word : RunsGoWordByWord k
  runs_go_word_by_word g sound w r text p q t y e m =
      let is = transition_is k g m in
      let found = run_accepted (suit g p && (suit g q && suit g t)) (judge text) is.0 in
      let ws = found.0 in
      let legal = judge_legal text ws found.1 in
      let left : y ≡ clear (done k g ws w nothing) ws =
      is.1 ∙ ap (λ a. by_verdict a (effect k g (run text p q t) (clear w r)) (clear w r)) (sym is.0)
      ∙ ap (λ j. clear (done k g (words_of_text j) w nothing) (words_of_text j)) found.1 in
      let P : State K → Type 0 = λ z. Trace k g (clear w r) (map (call_of g) (place_of z)) (map (λ _. accepted tt) (place_of z)) (clear (weights_of z) r) in
      subst P (sym left) (word_by_word k g sound Free ws w w r legal.fit legal.sizes e e)
