-- What is left to show of recipes::Recipe::write.
use Rattle.std.proofs.Common.{◌≡◌, drop, sym, subst}
use Rattle.refusal.specs.Reports.{accepted}
use Rattle.recipe.specs.Contents.{recipe_words}
use Rattle.recipe.specs.Grammar.{Text}
use Rattle.recipe.specs.Judging.{judge}
use Rattle.recipe.specs.Written.{written}
use Rattle.recipe.proofs.Legality.{recipe_legal}
use Rattle.recipe.proofs.RoundTrip.{written_text, front_is}
use Rattle.recipe.proofs.Accepting.{text_accepted}
use Rattle.recipe.proofs.recipes.Recipe.write.Goals as goal

pub returns-clause-back : goal.returns-clause-back
returns-clause-back c =
    let ws = recipe_words c.args.self.now in
    subst (λ l. judge l ≡ accepted ws) (sym (front_is (written ws) c.copy_from_slice.new.self (drop c.len-len.result c.args.buffer.now) _ (cc) (cc)))
    (text_accepted (written ws) ws (written_text ws (recipe_legal c.args.self.now)))

pub returns-clause-belongs : goal.returns-clause-belongs
returns-clause-belongs c =
    let ws = recipe_words c.args.self.now in
    subst (λ l. Text l ws) (sym (front_is (written ws) c.copy_from_slice.new.self (drop c.len-len.result c.args.buffer.now) _ (cc) (cc)))
    (written_text ws (recipe_legal c.args.self.now))
