-- The words of a text, one after another.
use Rattle.std.proofs.Common.{◌≡◌, ℕ, suc, ◌+◌, ◌-◌, ◌<◌, ◌≤◌, true, false, cond, ltb, List, [], ◌∷◌, ◌++◌, length, get_or, take, drop, sym, refl, ap, ◌∙◌, subst, arith, take-append-drop}
use Rattle.std.proofs.lemmas.List.{drop_more, drop-drop, length-take-le}
use Rattle.std.proofs.lemmas.Bool.{cond_both, cond-true, cond-false, le-ltb, lt-ltb, eq-eqb, ne_eqb, not_from_true, not_from_false}
use Rattle.std.specs.List.{between}
use Rattle.refusal.specs.declared.Part.{Part}
use Rattle.refusal.specs.declared.Part.TheVariants as part
use Rattle.refusal.specs.Reports.{Answer, accepted, refused}
use Rattle.recipe.specs.Judging.{in_word, opens, word_run, Run, before, runs, Progress, start, admitted_word, read_runs, finished, judge}
use Rattle.recipe.specs.Shapes.{word_of}
use Rattle.recipe.proofs.Shaping.{front_within}

-- no space among the bytes
abbrev pub Inside : List ℕ → Type 0
Inside [] = Unit {0}
Inside (b ∷ bs) = (in_word b ≡ true) × Inside bs

pub front_inside : (t : List ℕ) → Inside (take (word_run t) t)
front_inside [] = tt
front_inside (b ∷ bs) = cond_both (in_word b) (suc (word_run bs)) 0 (λ n. Inside (take n (b ∷ bs))) (λ e. (e, front_inside bs)) (λ e. tt)

pub front_ends : (t : List ℕ) → opens (drop (word_run t) t) ≡ false
front_ends [] = refl
front_ends (b ∷ bs) = cond_both (in_word b) (suc (word_run bs)) 0 (λ n. opens (drop n (b ∷ bs)) ≡ false) (λ e. front_ends bs) (λ e. e)

-- a word and what follows it
pub run_word : (at b : ℕ) (bs rest : List ℕ) → Inside (b ∷ bs) → opens rest ≡ false → runs at ((b ∷ bs) ++ rest) ≡ record { place = at; bytes = b ∷ bs } ∷ runs (at + length (b ∷ bs)) rest
run_word at b [] rest h e = λ i. before at b (h.0 i) (e i) (runs (at + 1) rest)
run_word at b (c ∷ cs) rest h e =
    (λ i. before at b (h.0 i) (h.1.0 i) (run_word (at + 1) c cs rest h.1 e i))
    ∙ ap (λ n. record { place = at; bytes = b ∷ c ∷ cs } ∷ runs n rest) (omega arith)

-- the next word of a text
pub run_next : (at : ℕ) (t : List ℕ) → opens t ≡ true → runs at t ≡ record { place = at; bytes = take (word_run t) t } ∷ runs (at + word_run t) (drop (word_run t) t)
run_next at [] e = absurd (omega (arith, ap (λ b. cond {A = ℕ} b 0 1) e))
run_next at (b ∷ bs) e =
    let long : length (take (word_run bs) bs) ≡ word_run bs = length-take-le (word_run bs) bs (front_within in_word bs) in
    subst (λ n. runs at (b ∷ bs) ≡ record { place = at; bytes = take n (b ∷ bs) } ∷ runs (at + n) (drop n (b ∷ bs)))
    (sym (cond-true (in_word b) (suc (word_run bs)) 0 e))
    (ap (λ l. runs at (b ∷ l)) (sym (take-append-drop (word_run bs) bs))
    ∙ run_word at b (take (word_run bs) bs) (drop (word_run bs) bs) (e, front_inside bs) (front_ends bs)
    ∙ ap (λ n. record { place = at; bytes = b ∷ take (word_run bs) bs } ∷ runs (at + suc n) (drop (word_run bs) bs)) long)

pub refused_stays : (n at : ℕ) (q : Part) (rs : List Run) → read_runs (refused n at q) rs ≡ refused n at q
refused_stays n at q [] = refl
refused_stays n at q (r ∷ rs) = refused_stays n at q rs

-- one turn of the reader: what is left of the text from a place gives the answer
module _ (text : List ℕ) (at : ℕ) (here : at < length text) where
  pub over_space : get_or text at 0 ≡ 32 → runs at (drop at text) ≡ runs (at + 1) (drop (at + 1) text)
  over_space e = ap (runs at) (drop_more text at 0 here) ∙ ap (λ b. before at (get_or text at 0) b (opens (drop (at + 1) text)) (runs (at + 1) (drop (at + 1) text))) (not_from_true _ (eq-eqb _ 32 e))

  pub over_word : (end : ℕ) → (get_or text at 0 ≡ 32 → ⊥) → end ≡ at + word_run (drop at text) → runs at (drop at text) ≡ record { place = at; bytes = between at end text } ∷ runs end (drop end text)
  over_word end ne is =
      let starts : opens (drop at text) ≡ true = ap opens (drop_more text at 0 here) ∙ not_from_false _ (ne_eqb _ 32 ne) in
      let size : word_run (drop at text) ≡ end - at = omega arith in
      run_next at (drop at text) starts
      ∙ ap (λ n. record { place = at; bytes = take n (drop at text) } ∷ runs (at + n) (drop n (drop at text))) size
      ∙ ap (λ l. record { place = at; bytes = between at end text } ∷ runs (at + (end - at)) l) (drop-drop (end - at) at text)
      ∙ ap (λ n. record { place = at; bytes = between at end text } ∷ runs n (drop n text)) (omega arith)

  pub read_word_here : (p : Progress) (end : ℕ) → (get_or text at 0 ≡ 32 → ⊥) → end ≡ at + word_run (drop at text) → read_runs (accepted p) (runs at (drop at text)) ≡ read_runs (admitted_word at (word_of at (between at end text)) p) (runs end (drop end text))
  read_word_here p end ne is = ap (read_runs (accepted p)) (over_word end ne is)

-- the answer of a text that is not too long
pub judged : (text : List ℕ) (r : Answer Progress) → length text ≤ 4096 → read_runs (accepted start) (runs 0 text) ≡ r → finished (length text) r ≡ judge text
judged text r short e = ap (finished (length text)) (sym e) ∙ sym (cond-false (ltb 4096 (length text)) _ _ (le-ltb 4096 (length text) short))

-- the answer of a text that is too long
pub judged_long : (text : List ℕ) → 4096 < length text → refused 12 0 part.Recipe ≡ judge text
judged_long text long = sym (cond-true (ltb 4096 (length text)) _ _ (lt-ltb 4096 _ long))
