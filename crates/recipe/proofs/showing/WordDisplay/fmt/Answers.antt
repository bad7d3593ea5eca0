-- What is left to show of showing::WordDisplay::fmt.
use Rattle.std.proofs.Common.{◌++◌, decimal, sym, ap, ◌∙◌, subst}
use lib.Utf8.{encode}
use Rattle.std.specs.Fmt.{HasWritten}
use Rattle.std.proofs.lemmas.Str.{encode_ascii}
use Rattle.recipe.specs.Grammar.{letter}
use Rattle.recipe.specs.Written.{spelling}
use Rattle.recipe.proofs.Spelling.{letter_ascii}
use Rattle.recipe.proofs.showing.WordDisplay.fmt.Goals as goal

pub returns-in-Step-clause-writes : goal.returns-in-Step-clause-writes
returns-in-Step-clause-writes g c plain ok =
    let family = c.in-Step.filter.family in
    let digits = decimal c.in-Step.filter.size in
    subst (λ bs. HasWritten {W = g.row.W.Denot} g.W.Write.write_str_gives c.args.f.now bs c.write.new.self)
    (ap (λ b. encode b ++ digits) c.letter_of-letter.ensures.is ∙ ap (λ bs. bs ++ digits) (encode_ascii (letter family) (letter_ascii family)) ∙ ap spelling (sym c.in-Step.is))
    (c.write.ensures.writes plain ok)
