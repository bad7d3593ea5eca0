use Rattle.std.proofs.Common.{ap, ◌∙◌}
use Rattle.graph.specs.Shapes.{shape_of}
use Rattle.stories.specs.Words.{nothing, done}
use Rattle.calls.specs.Runs.{pair_of}
use Rattle.calls.proofs.HeldBuffer.{recipe_done}
use Rattle.calls.proofs.Sizes.{size_at}
use Rattle.calls.proofs.running.Run.do_recipe.Goals as goal

pub do_word-requires : goal.do_word-requires
do_word-requires g c = size_at c.words-words.result.now c.loop-i.i _ c.loop-i-test.true c.words-words.ensures.legal.sizes

pub returns-clause-weights : goal.returns-clause-weights
returns-clause-weights g c =
    let k = g.K.Kind.operations in
    let work = c.args.self.now in
    let graph = shape_of work.graph in
    let words = c.words-words in
    recipe_done k graph words.result.now c.loop-i.i (pair_of c.loop-i.self) (pair_of work) words.ensures.legal c.loop-i-test.false c.loop-i.invariant.1
    ∙ ap (λ ws. done k graph ws (pair_of work).weights nothing) words.ensures.is
