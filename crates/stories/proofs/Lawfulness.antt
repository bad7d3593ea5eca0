-- Every filter that a story accepts has a size of 1 to 200, and a step of such a size is accepted. Assumes nothing.
use Rattle.std.proofs.Common.{◌≡◌, ℕ, max, Bool, true, false, cond, ◌&&◌, List, [], ◌∷◌, ◌++◌, sym, refl, ap, ◌∙◌, subst, ap₂, arith, eq-eqb}
use Rattle.std.proofs.lemmas.Bool.{and_parts, and_from}
use Rattle.std.proofs.lemmas.Bool.Decides.{nat_tests}
use Rattle.refusal.specs.Reports.{Answer, accepted, refused, Verdict}
use Rattle.lattice.specs.Lattices.{Operations}
use Rattle.graph.specs.Shapes.{Shape}
use Rattle.filters.specs.Calls.{wrong_length, wrong_size, lawful_size, outcome, filter_call}
use Rattle.algebra.specs.Laws.{largest, last_of}
use Rattle.filters.specs.Weightings.{Weighting, fits, Fits, blank, filtered}
use Rattle.filters.specs.declared.families.Filter.{Filter}
use Rattle.recipe.specs.Judging.{judge}
use Rattle.recipe.specs.Legal.{sizes_fit}
use Rattle.recipe.specs.declared.words.Word.{Word}
use Rattle.recipe.specs.declared.words.Word.TheVariants.{Step, Hold, Join, Meet, Forget}
use Rattle.recipe.proofs.Legality.{judge_legal}
use Rattle.stories.specs.Stories.{State, Lengths, suit, Call, step, hold, join, meet, forget, run, Trace, end, then, words_of_text, words_if, accepted_words, sizes_of}
use Rattle.stories.proofs.Effects.{judged, answer_to, transition_is}

-- every size is lawful
abbrev pub AllLawful : List ℕ → Type 0
AllLawful [] = Unit {0}
AllLawful (n ∷ ns) = (lawful_size n ≡ true) × AllLawful ns

pub sizes_lawful : (ws : List Word) → sizes_fit ws ≡ true → AllLawful (sizes_of ws)
sizes_lawful [] s = tt
sizes_lawful (Step f ∷ ws) s = ((and_parts _ _ s).0, sizes_lawful ws (and_parts _ _ s).1)
sizes_lawful (Hold ∷ ws) s = sizes_lawful ws s
sizes_lawful (Join ∷ ws) s = sizes_lawful ws s
sizes_lawful (Meet ∷ ws) s = sizes_lawful ws s
sizes_lawful (Forget ∷ ws) s = sizes_lawful ws s

sizes_fit_append : (vs ws : List Word) → sizes_fit vs ≡ true → sizes_fit ws ≡ true → sizes_fit (vs ++ ws) ≡ true
sizes_fit_append [] ws v w = w
sizes_fit_append (x ∷ vs) ws v w = and_from _ _ (and_parts _ _ v).0 (sizes_fit_append vs ws (and_parts _ _ v).1 w)

max_lawful : (m n : ℕ) → lawful_size m ≡ true → lawful_size n ≡ true → lawful_size (max m n) ≡ true
max_lawful m n a b = grind (arith, nat_tests)

pub largest_lawful : (n : ℕ) (ns : List ℕ) → AllLawful (n ∷ ns) → lawful_size (largest n ns) ≡ true
largest_lawful n [] s = s.0
largest_lawful n (m ∷ ms) s = largest_lawful (max n m) ms (max_lawful n m s.0 s.1.0, s.1.1)

pub last_lawful : (n : ℕ) (ns : List ℕ) → AllLawful (n ∷ ns) → lawful_size (last_of n ns) ≡ true
last_lawful n [] s = s.0
last_lawful n (m ∷ ms) s = last_lawful m ms s.1

-- the words that a call does, by its tests
tested : (m : Bool) (c : Call) (a : Verdict) → sizes_fit (words_if a c) ≡ true → sizes_fit (words_if (cond m a wrong_length) c) ≡ true
tested true c a s = s
tested false c a s = refl

step_lawful : (f : Filter) (p q : Lengths) (m : Bool) → lawful_size f.size ≡ m → sizes_fit (words_if (cond m (accepted tt) wrong_size) (step f p q)) ≡ true
step_lawful f p q true e = and_from _ _ e refl
step_lawful f p q false e = refl

run_lawful : (text : List ℕ) (p q t : Lengths) (j : Answer (List Word)) → judge text ≡ j → sizes_fit (words_if (judged j) (run text p q t)) ≡ true
run_lawful text p q t (accepted ws) e = subst (λ j. sizes_fit (words_of_text j) ≡ true) (sym e) (judge_legal text ws e).sizes
run_lawful text p q t (refused number place part) e = refl

answer_lawful : (g : Shape) (c : Call) → sizes_fit (words_if (answer_to g c) c) ≡ true
answer_lawful g (step f p q) = tested (suit g p && suit g q) (step f p q) _ (step_lawful f p q (lawful_size f.size) refl)
answer_lawful g (hold p q) = tested (suit g p && suit g q) (hold p q) (accepted tt) refl
answer_lawful g (join p q) = tested (suit g p && suit g q) (join p q) (accepted tt) refl
answer_lawful g (meet p q) = tested (suit g p && suit g q) (meet p q) (accepted tt) refl
answer_lawful g (forget p q) = tested (suit g p && suit g q) (forget p q) (accepted tt) refl
answer_lawful g (run text p q t) = tested (suit g p && (suit g q && suit g t)) (run text p q t) _ (run_lawful text p q t (judge text) refl)

module _ {K : Type 0} (k : Operations K) (g : Shape) where
  pub trace_lawful : {x y : State K} {story : List Call} {answers : List Verdict} → Trace k g x story answers y → sizes_fit (accepted_words story answers) ≡ true
  trace_lawful (end x) = refl
  trace_lawful (then {c = c} {cs = cs} {a = a} {answers = answers} m t) =
      sizes_fit_append (words_if a c) (accepted_words cs answers) (subst (λ b. sizes_fit (words_if b c) ≡ true) (sym (transition_is k g m).0) (answer_lawful g c)) (trace_lawful t)

  does_fit : (w : Weighting K) → Fits g w → fits g w ≡ true
  does_fit w e = ap₂ ◌&&◌ (eq-eqb _ _ e.0) (eq-eqb _ _ e.1)

  pub step_makes : (f : Filter) (w s : Weighting K) → Fits g w → Fits g s → lawful_size f.size ≡ true
      → filter_call k g f w s ≡ outcome (accepted tt) (filtered k g f w) (blank k s)
  step_makes f w s fw fs in_range =
      let made = outcome (accepted tt) (filtered k g f w) (blank k s) in
      let unmade = outcome wrong_size w s in
      let unfit = outcome wrong_length w s in
      ap (λ m. cond m (cond (lawful_size f.size) made unmade) unfit) (ap₂ ◌&&◌ (does_fit w fw) (does_fit s fs)) ∙ ap (λ m. cond m made unmade) in_range
