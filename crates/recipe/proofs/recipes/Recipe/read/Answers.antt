-- What is left to show of recipes::Recipe::read.
use Rattle.std.proofs.Common.{◌≡◌, ℕ, ◌+◌, ◌≤◌, ◌↔◌, List, length, drop, Err, Result, sym, ap, ◌∙◌, arith}
use Rattle.std.proofs.lemmas.List.{at_drop_all, take_rest}
use Rattle.std.proofs.lemmas.Result.{err_from_is_err_and}
use Rattle.refusal.specs.declared.Part.{Part}
use Rattle.refusal.specs.declared.Refusal.{Refusal}
use Rattle.refusal.specs.declared.Refusal.TheVariants as refusal
use Rattle.refusal.specs.Reports.{answer, accepted, refused, refusal_answer}
use Rattle.recipe.specs.declared.recipes.Recipe.{Recipe}
use Rattle.recipe.specs.declared.words.Word.{Word}
use Rattle.recipe.specs.Grammar.{Text}
use Rattle.recipe.specs.Refused.{Refused}
use Rattle.recipe.specs.Contents.{read_answer}
use Rattle.recipe.specs.Judging.{judge, Run, word_run, progress, start, runs, admitted_word, read_runs}
use Rattle.recipe.proofs.Refusing.{refused_why}
use Rattle.recipe.proofs.Exactly.{refused_judge}
use Rattle.recipe.proofs.Meaning.{sound}
use Rattle.recipe.proofs.Accepting.{accepted_text, text_accepted}
use Rattle.recipe.proofs.Running.{over_space, read_word_here, refused_stays, judged, judged_long}
use Rattle.recipe.proofs.recipes.Recipe.read.Goals as goal
use Rattle.recipe.proofs.recipes.Recipe.read.Goals.{After-read_word, After-loop-at}

-- where the word that was read ends
abbrev end : After-read_word → ℕ
end c = c.loop-at.at + c.word_at_front.result

end_is : (c : After-read_word) → end c ≡ c.loop-at.at + word_run (drop c.loop-at.at c.args.text.now)
end_is c = ap (λ n. c.loop-at.at + n) (c.word_at_front.ensures.is ∙ ap word_run (take_rest c.args.text.now c.loop-at.at))

-- the words after it
abbrev later : After-read_word → List Run
later c = runs (end c) (drop (end c) c.args.text.now)

-- they give the answer from what the word was read as
turn : (c : After-read_word) (r : Result Word Refusal) → c.read_word.result ≡ r → read_runs (accepted start) (runs 0 c.args.text.now) ≡ read_runs (admitted_word c.loop-at.at (answer r) (progress c.loop-at.draft)) (later c)
turn c r e =
    sym c.loop-at.invariant.1
    ∙ read_word_here c.args.text.now c.loop-at.at c.loop-at-test.true (progress c.loop-at.draft) (end c) c.if-text-at-eq32.false (end_is c)
    ∙ ap (λ w. read_runs (admitted_word c.loop-at.at w (progress c.loop-at.draft)) (later c)) (sym c.read_word.ensures ∙ ap answer e)

-- at the end the draft is the answer
done : (c : After-loop-at) → read_runs (accepted start) (runs 0 c.args.text.now) ≡ accepted (progress c.loop-at.draft)
done c = sym c.loop-at.invariant.1 ∙ ap (λ l. read_runs (accepted (progress c.loop-at.draft)) l) (at_drop_all (runs c.loop-at.at) c.args.text.now c.loop-at.at c.loop-at-test.false)

-- the answer that is judged right is the grammar's, and so is a refusal
every : (text : List ℕ) (r : Result Recipe Refusal) → read_answer r ≡ judge text → record {
  is : read_answer r ≡ judge text;
  grammar : (ws : List Word) → (read_answer r ≡ accepted ws) ↔ (Text text ws);
  refusals : (number place : ℕ) (p : Part) → (read_answer r ≡ refused number place p) ↔ (Refused text number place p);
}
every text r same = record {
  is = same;
  grammar = λ ws. (λ h. accepted_text text ws (sym same ∙ h), λ t. same ∙ text_accepted text ws t);
  refusals = λ n place p. (λ h. refused_why text n place p (sym same ∙ h), λ f. same ∙ refused_judge text n place p f);
}

pub returns-then-text-gt-MAX_TEXT_LEN : goal.returns-then-text-gt-MAX_TEXT_LEN
returns-then-text-gt-MAX_TEXT_LEN c = every c.args.text.now (Err refusal.TextTooLong) (judged_long c.args.text.now c.if-text-gt-MAX_TEXT_LEN.true)

pub loop-at-preserved-then-text-at-eq32 : goal.loop-at-preserved-then-text-at-eq32
loop-at-preserved-then-text-at-eq32 c = (
  omega arith,
  ap (read_runs (accepted (progress c.loop-at.draft))) (sym (over_space c.args.text.now c.loop-at.at c.loop-at-test.true c.if-text-at-eq32.true)) ∙ c.loop-at.invariant.1,
)

pub returns-in_err-read_word : goal.returns-in_err-read_word
returns-in_err-read_word c =
    let p = err_from_is_err_and c.from_residual.result c.from_residual.ensures.1 in
    let short : length c.args.text.now ≤ 4096 = omega arith in
    let before = (goal.at.returns-in_err-read_word c).After-read_word in
    every _ _ (rw (p.1, p.2)
    (judged c.args.text.now (refusal_answer c.in_err-read_word.field-0.0) short (turn before _ c.in_err-read_word.was ∙ refused_stays _ _ _ (later before))))

pub returns-in_err-admit : goal.returns-in_err-admit
returns-in_err-admit c =
    let p = err_from_is_err_and c.from_residual-in_err-admit.result c.from_residual-in_err-admit.ensures.1 in
    let short : length c.args.text.now ≤ 4096 = omega arith in
    let before = (goal.at.returns-in_err-admit c).After-read_word in
    every _ _ (rw (p.1, p.2)
    (judged c.args.text.now (refusal_answer c.in_err-admit.field-0.0) short
    (turn before _ c.in_ok-read_word.was ∙ ap (λ q. read_runs q (later before)) (sym c.in_err-admit.ensures) ∙ refused_stays _ _ _ (later before))))

pub loop-at-preserved : goal.loop-at-preserved
loop-at-preserved c =
    let before = (goal.at.loop-at-preserved c).After-read_word in
    (omega (arith, c.word_at_front.ensures.within), ap (λ q. read_runs q (later before)) c.in_ok-admit.ensures ∙ sym (turn before _ c.in_ok-read_word.was))

pub finish-requires : goal.finish-requires
finish-requires c free = sound (runs 0 c.args.text.now) (progress c.loop-at.draft) (done (goal.at.finish-requires c).After-loop-at) free

pub returns : goal.returns
returns c =
    let short : length c.args.text.now ≤ 4096 = omega arith in
    every _ _ (c.finish.ensures ∙ judged c.args.text.now (accepted (progress c.loop-at.draft)) short (done (goal.at.returns c).After-loop-at))
