use Rattle.stories.proofs.Absorbing.{stories_adjoint, stories_absorb}
use Rattle.stories.proofs.Answered.{calls_answered}
use Rattle.stories.proofs.Effects.{refused_change_nothing}
use Rattle.stories.proofs.Running.{runs_go_word_by_word}
use Rattle.stories.proofs.story_laws.Goals as goal

pub returns : goal.returns
returns g c =
    let kind = g.K.Kind in
    record {
      answered = calls_answered kind.operations;
      unchanged = λ at _. refused_change_nothing kind.operations at;
      word_by_word = runs_go_word_by_word kind.operations;
      adjoint = stories_adjoint kind.below kind.operations g.met.K.Kind.lattice;
      absorb = stories_absorb kind.below kind.operations g.met.K.Kind.lattice;
    }
