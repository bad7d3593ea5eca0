-- What is left to show of tokens::saturated_size.
use Rattle.std.proofs.Common.{◌∙◌, refl, rules, tests}
use Rattle.std.proofs.lemmas.Iterator.{YieldsList-from_slice}
use Rattle.std.proofs.lemmas.Iterator.Consumers.{fold_from_yields_List}
use Rattle.recipe.proofs.Shaping.{saturated, numeral_saturated}
use Rattle.recipe.proofs.tokens.saturated_size.Goals as goal

pub returns : goal.returns
returns c =
    fold_from_yields_List _ saturated 0 c.fold.result c.fold.ensures.ran (YieldsList-from_slice c.args.digits.now (cc)) (λ a x b q k. search (rules, tests))
    ∙ numeral_saturated c.args.digits.now 0 0 refl
