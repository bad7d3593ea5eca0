-- What is left to show of words::Word::spelling.
use Rattle.std.proofs.Common.{[], ◌∷◌, length, length-append, ap, arith, rules}
use Rattle.recipe.proofs.Numbering.{few_digits}
use Rattle.recipe.proofs.words.Word.spelling.Goals as goal

pub push_number-requires : goal.push_number-requires
push_number-requires c =
    omega (arith, ap length c.new-text.ensures, ap length (c.push.ensures.ascii (omega arith)), length-append c.new-text.result.bytes (c.letter_of.result ∷ []), few_digits c.in-Step.filter.size (search rules))
