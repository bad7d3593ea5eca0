-- What a call answers depends on no weight, and what it makes of a sheet is a function of the sheet. Assumes nothing.
use Rattle.std.proofs.Common.{◌≡◌, ℕ, Bool, true, false, cond, ◌&&◌, List, sym, refl, ap, ◌∙◌, subst, ap₂, subst₂}
use Rattle.std.proofs.lemmas.Bool.{and_parts}
use Rattle.refusal.specs.Reports.{Answer, accepted, refused, Verdict, by_verdict}
use Rattle.refusal.specs.declared.Part.{Part}
use Rattle.lattice.specs.Lattices.{Operations}
use Rattle.graph.specs.Shapes.{Shape}
use Rattle.filters.specs.Calls.{wrong_length, wrong_size, lawful_size, Outcome, outcome, filter_call}
use Rattle.filters.specs.Weightings.{Weighting, weighting, filtered}
use Rattle.filters.specs.declared.families.Filter.{Filter}
use Rattle.recipe.specs.Judging.{judge}
use Rattle.recipe.specs.declared.words.Word.{Word}
use Rattle.stories.specs.Calls.{sized, hold_call, Ran, ran, run_judged, run_call}
use Rattle.stories.specs.Stories.{State, clear, holding, Lengths, lengths_of, vertices_suit, edges_suit, suit, Call, step, hold, join, meet, forget, run, PassedFor, restored, after_step, after_hold, after_release, after_run, Transition, clear_step, holding_step, clear_hold, holding_join, holding_meet, holding_forget, clear_run, words_of_text}
use Rattle.stories.specs.Words.{combined, nothing, done}

-- what a run answers, by what its text is
abbrev pub judged : Answer (List Word) → Verdict
judged (accepted ws) = accepted tt
judged (refused number place part) = refused number place part

-- the answer to a call, by its lengths, its size and its text
abbrev pub answer_to : Shape → Call → Verdict
answer_to g (step f p q) = cond (suit g p && suit g q) (cond (lawful_size f.size) (accepted tt) wrong_size) wrong_length
answer_to g (hold p q) = cond (suit g p && suit g q) (accepted tt) wrong_length
answer_to g (join p q) = cond (suit g p && suit g q) (accepted tt) wrong_length
answer_to g (meet p q) = cond (suit g p && suit g q) (accepted tt) wrong_length
answer_to g (forget p q) = cond (suit g p && suit g q) (accepted tt) wrong_length
answer_to g (run text p q t) = cond (suit g p && (suit g q && suit g t)) (judged (judge text)) wrong_length

-- what a call makes of a sheet where it is (accepted tt); at a call that the state does not take, it plays no part
abbrev pub effect : {K : Type 0} → Operations K → Shape → Call → State K → State K
effect k g (step f p q) (clear w r) = clear (filtered k g f w) r
effect k g (step f p q) (holding w h r) = holding (filtered k g f w) h r
effect k g (hold p q) (clear w r) = holding w w r
effect k g (hold p q) (holding w h r) = holding w h r
effect k g (join p q) (clear w r) = clear w r
effect k g (join p q) (holding w h r) = clear (combined k.join w h) r
effect k g (meet p q) (clear w r) = clear w r
effect k g (meet p q) (holding w h r) = clear (combined k.meet w h) r
effect k g (forget p q) (clear w r) = clear w r
effect k g (forget p q) (holding w h r) = clear w r
effect k g (run text p q t) (clear w r) = clear (done k g (words_of_text (judge text)) w nothing) (words_of_text (judge text))
effect k g (run text p q t) (holding w h r) = holding (done k g (words_of_text (judge text)) w nothing) h r

-- what is passed for weights, and what they are after a call
module _ {K : Type 0} (g : Shape) (p : Lengths) (w : Weighting K) where
  kept_or : {X : Type 0} (m : Bool) (x y : X) → (m ≡ true → x ≡ y) → cond m x y ≡ y
  kept_or true x y same = same refl
  kept_or false x y same = refl

  given : {X : Type 0} (m : Bool) (x y : X) → m ≡ true → cond m x y ≡ x
  given m x y e = ap (λ b. cond b x y) e

  -- buffers that a call leaves as they were
  restored_same : (b : Weighting K) → PassedFor g w p b → restored g p w b ≡ w
  restored_same b passed = ap₂ weighting (kept_or (vertices_suit g p) _ _ passed.same_vertices) (kept_or (edges_suit g p) _ _ passed.same_edges)

  module _ (fit : suit g p ≡ true) where
    restored_given : (v : Weighting K) → restored g p w v ≡ v
    restored_given v =
        let both = and_parts (vertices_suit g p) (edges_suit g p) fit in
        ap₂ weighting (given (vertices_suit g p) _ _ both.0) (given (edges_suit g p) _ _ both.1)

    passed_same : (b : Weighting K) → PassedFor g w p b → b ≡ w
    passed_same b passed =
        let both = and_parts (vertices_suit g p) (edges_suit g p) fit in
        ap₂ weighting (passed.same_vertices both.0) (passed.same_edges both.1)

module _ {K : Type 0} (after : Outcome Verdict K → State K) (old new : State K) where
  -- what an outcome answers, and where it leads
  abbrev Leads : Verdict → Outcome Verdict K → Type 0
  Leads a o = (o.answer ≡ a) × (after o ≡ by_verdict a new old)

  both_suit : (m n : Bool) (a : Verdict) (o : Outcome Verdict K) (w b : Weighting K) → after (outcome wrong_length w b) ≡ old → (m ≡ true → n ≡ true → Leads a o)
      → Leads (cond (m && n) a wrong_length) (cond (m && n) o (outcome wrong_length w b))
  both_suit true true a o w b as_was fine = fine refl refl
  both_suit true false a o w b as_was fine = (refl, as_was)
  both_suit false n a o w b as_was fine = (refl, as_was)

  sized_leads : (g : Shape) (p q : Lengths) (w b : Weighting K) (a : Verdict) (o : Outcome Verdict K) → lengths_of w ≡ p → lengths_of b ≡ q
      → after (outcome wrong_length w b) ≡ old → (suit g p ≡ true → suit g q ≡ true → Leads a o)
      → Leads (cond (suit g p && suit g q) a wrong_length) (sized g w b o)
  sized_leads g p q w b a o lw lb as_was fine =
      subst₂ (λ m n. Leads (cond (suit g p && suit g q) a wrong_length) (cond (suit g m && suit g n) o (outcome wrong_length w b))) (sym lw) (sym lb)
      (both_suit (suit g p) (suit g q) a o w b as_was fine)

  sound_leads : (m : Bool) (v d w b : Weighting K) → after (outcome wrong_size w b) ≡ old → after (outcome (accepted tt) v d) ≡ new
      → Leads (cond m (accepted tt) wrong_size) (cond m (outcome (accepted tt) v d) (outcome wrong_size w b))
  sound_leads true v d w b as_was e = (refl, e)
  sound_leads false v d w b as_was e = (refl, as_was)

module _ {K : Type 0} (k : Operations K) (g : Shape) where
  step_leads : (state : Weighting K → State K) (f : Filter) (p q : Lengths) (w b s : Weighting K) → PassedFor g w p b → lengths_of s ≡ q
      → (o : Outcome Verdict K) → o ≡ filter_call k g f b s → Leads (after_step g state p w) (state w) (state (filtered k g f w)) (answer_to g (step f p q)) o
  step_leads state f p q w b s passed ls o e =
      let after = after_step g state p w in
      let new = state (filtered k g f w) in
      let as_was = ap state (restored_same g p w b passed) in
      subst (Leads after (state w) new _) (sym e) (sized_leads after (state w) new g p q b s _ _ passed.long ls as_was
      (λ fit _. sound_leads after (state w) new (lawful_size f.size) _ _ b s as_was (ap state (restored_given g p w fit _ ∙ ap (filtered k g f) (passed_same g p w fit b passed)))))

  hold_leads : (p q : Lengths) (w b s : Weighting K) (r : List Word) → PassedFor g w p b → lengths_of s ≡ q
      → (o : Outcome Verdict K) → o ≡ hold_call g b s → Leads (after_hold g r p w) (clear w r) (holding w w r) (answer_to g (hold p q)) o
  hold_leads p q w b s r passed ls o e =
      let after = after_hold g r p w in
      let same = restored_same g p w b passed in
      subst (Leads after (clear w r) (holding w w r) _) (sym e) (sized_leads after (clear w r) (holding w w r) g p q b s _ _ passed.long ls (ap (λ v. clear v r) same)
      (λ fit _. (refl, ap₂ (λ v u. holding v u r) same (passed_same g p w fit b passed))))

  -- a release that leaves the weights v
  release_leads : (p q : Lengths) (w h b c : Weighting K) (r : List Word) (v d : Weighting K) → PassedFor g w p b → PassedFor g h q c
      → (new : Weighting K) → (suit g p ≡ true → suit g q ≡ true → v ≡ new) → (o : Outcome Verdict K) → o ≡ sized g b c (outcome (accepted tt) v d)
      → Leads (after_release g r p q w h) (holding w h r) (clear new r) (cond (suit g p && suit g q) (accepted tt) wrong_length) o
  release_leads p q w h b c r v d lw lh new is o e =
      let after = after_release g r p q w h in
      subst (Leads after (holding w h r) (clear new r) _) (sym e) (sized_leads after (holding w h r) (clear new r) g p q b c _ _ lw.long lh.long
      (ap₂ (λ x y. holding x y r) (restored_same g p w b lw) (restored_same g q h c lh))
      (λ fit held_suit. (refl, ap (λ x. clear x r) (restored_given g p w fit v ∙ is fit held_suit))))

  -- where a run leads, by what its text is read as
  abbrev LeadsRun : Lengths → Weighting K → List Word → Answer (List Word) → Verdict → Ran K → Type 0
  LeadsRun p w r j a o = (o.answer ≡ a) × (after_run g p w o ≡ by_verdict a (clear (done k g (words_of_text j) w nothing) (words_of_text j)) (clear w r))

  judged_leads : (j : Answer (List Word)) (p : Lengths) (w b s c : Weighting K) (r : List Word) → PassedFor g w p b → suit g p ≡ true
      → LeadsRun p w r j (judged j) (run_judged k g j b s c r)
  judged_leads (accepted ws) p w b s c r passed fit =
      (refl, ap (λ v. clear v ws) (restored_given g p w fit _ ∙ ap (λ v. done k g ws v nothing) (passed_same g p w fit b passed)))
  judged_leads (refused number place part) p w b s c r passed fit = (refl, ap (λ v. clear v r) (restored_same g p w b passed))

  all_suit : (m n o : Bool) (j : Answer (List Word)) (p : Lengths) (w b s c : Weighting K) (r : List Word) → PassedFor g w p b → (m ≡ true → suit g p ≡ true)
      → LeadsRun p w r j (cond (m && (n && o)) (judged j) wrong_length) (cond (m && (n && o)) (run_judged k g j b s c r) (ran wrong_length b s c r))
  all_suit true true true j p w b s c r passed fit = judged_leads j p w b s c r passed (fit refl)
  all_suit true true false j p w b s c r passed fit = (refl, ap (λ v. clear v r) (restored_same g p w b passed))
  all_suit true false o j p w b s c r passed fit = (refl, ap (λ v. clear v r) (restored_same g p w b passed))
  all_suit false n o j p w b s c r passed fit = (refl, ap (λ v. clear v r) (restored_same g p w b passed))

  run_leads : (text : List ℕ) (p q t : Lengths) (w b s c : Weighting K) (r : List Word) → PassedFor g w p b → lengths_of s ≡ q → lengths_of c ≡ t
      → LeadsRun p w r (judge text) (answer_to g (run text p q t)) (run_call k g text b s c r)
  run_leads text p q t w b s c r passed ls lc =
      let j = judge text in
      let L : Lengths → Lengths → Lengths → Type 0 = λ x y z. LeadsRun p w r j (answer_to g (run text p q t))
      (cond (suit g x && (suit g y && suit g z)) (run_judged k g j b s c r) (ran wrong_length b s c r)) in
      let base : L p q t = all_suit (suit g p) (suit g q) (suit g t) j p w b s c r passed (λ fit. fit) in
      subst (λ x. L x (lengths_of s) (lengths_of c)) (sym passed.long) (subst₂ (λ y z. L p y z) (sym ls) (sym lc) base)

  -- every call has its answer and its effect
  pub transition_is : {x y : State K} {c : Call} {a : Verdict} → Transition k g x c a y → (a ≡ answer_to g c) × (y ≡ by_verdict (answer_to g c) (effect k g c x) x)
  transition_is (clear_step f p q w b s r passed ls o e) = step_leads (λ v. clear v r) f p q w b s passed ls o e
  transition_is (holding_step f p q w h b s r passed ls o e) = step_leads (λ v. holding v h r) f p q w b s passed ls o e
  transition_is (clear_hold p q w b s r passed ls o e) = hold_leads p q w b s r passed ls o e
  transition_is (holding_join p q w h b c r lw lh o e) =
      release_leads p q w h b c r _ _ lw lh _ (λ fit held_suit. ap₂ (combined k.join) (passed_same g p w fit b lw) (passed_same g q h held_suit c lh)) o e
  transition_is (holding_meet p q w h b c r lw lh o e) =
      release_leads p q w h b c r _ _ lw lh _ (λ fit held_suit. ap₂ (combined k.meet) (passed_same g p w fit b lw) (passed_same g q h held_suit c lh)) o e
  transition_is (holding_forget p q w h b c r lw lh o e) = release_leads p q w h b c r _ _ lw lh _ (λ fit _. passed_same g p w fit b lw) o e
  transition_is (clear_run text p q t w b s c r passed ls lc o e) =
      subst (LeadsRun p w r (judge text) _) (sym e) (run_leads text p q t w b s c r passed ls lc)

  pub refused_change_nothing : (x y : State K) (c : Call) (number place : ℕ) (part : Part) → Transition k g x c (refused number place part) y → y ≡ x
  refused_change_nothing x y c number place part m =
      let is = transition_is m in
      is.1 ∙ ap (λ a. by_verdict a (effect k g c x) x) (sym is.0)
