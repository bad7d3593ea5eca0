use Rattle.stories.proofs.Commuting.{stories_commute}
use Rattle.stories.proofs.stories_commute.Goals as goal

pub returns : goal.returns
returns g c =
    let r = c.args.reading.now in
    stories_commute g.K.Kind.operations g.R.Target.Kind.operations (g.R.Reading.image r) (g.met.R.Reading.morphism r)
