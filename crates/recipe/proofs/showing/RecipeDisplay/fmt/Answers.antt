-- What is left to show of showing::RecipeDisplay::fmt.
use Rattle.std.proofs.Common.{◌<◌, ◌++◌, length, get_or, take, is_ok, sym, ap, ◌∙◌, rules}
use Rattle.std.specs.List.{flat_map, between}
use Rattle.std.proofs.Output.{has_written_append, has_written_of_eq}
use Rattle.std.proofs.lemmas.List.{take_all}
use Rattle.recipe.specs.Written.{spaced, written}
use Rattle.recipe.proofs.Placing.{past, joined_next, written_first, first}
use Rattle.recipe.proofs.showing.RecipeDisplay.fmt.Goals as goal

pub loop-word-preserved : goal.loop-word-preserved
loop-word-preserved g c plain =
    let ws = between 1 (length c.words.result.now) c.words.result.now in
    let i = c.loop-word.word-index in
    let so_far = c.loop-word.invariant plain in
    has_written_of_eq g.W.Write.write_str_gives _ _ _ _ (sym (joined_next ws i past c.loop-word-test.true))
    (has_written_append g.W.Write.write_str_gives _ (flat_map spaced (take i ws)) c.loop-word.f (spaced (get_or ws i past)) _ so_far (c.write-in-loop-word.ensures.writes so_far.plain (ap is_ok c.in_ok-write-2.was)))

pub returns-clause-writes : goal.returns-clause-writes
returns-clause-writes g c plain ok =
    let ws = c.words.result.now in
    let some : 0 < length ws = search rules in
    let begun = c.write.ensures.writes plain (ap is_ok c.in_ok-write.was) in
    let rest = between 1 (length ws) ws in
    has_written_of_eq g.W.Write.write_str_gives _ _ _ _
    (ap (λ l. first ws some ++ flat_map spaced l) (take_all c.loop-word.word-index rest c.loop-word-test.false) ∙ sym (written_first ws some) ∙ ap written c.words.ensures.is)
    (has_written_append g.W.Write.write_str_gives _ (first ws some) _ (flat_map spaced (take c.loop-word.word-index rest)) _ begun (c.loop-word.invariant begun.plain))
