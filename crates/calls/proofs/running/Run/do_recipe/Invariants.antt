use Rattle.std.proofs.Common.{◌≡◌, drop}
use Rattle.graph.specs.Shapes.{shape_of}
use Rattle.stories.specs.Words.{words_done}
use Rattle.calls.specs.Runs.{SamePlaces, pair_of}
use Rattle.calls.proofs.running.Run.do_recipe.Given as goal

-- what is left of the words decides, in the same buffers
abbrev pub invariant-loop-i : goal.invariant-loop-i
invariant-loop-i g l =
    let start = l.initial.self in
    let words_from = words_done g.K.Kind.operations (shape_of start.graph) in
    SamePlaces start l.self × (words_from (drop l.i l.words) (pair_of l.self) ≡ words_from l.words (pair_of start))
