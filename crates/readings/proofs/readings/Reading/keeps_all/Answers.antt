use Rattle.readings.proofs.readings.Reading.keeps_all.Goals as goal

pub returns : goal.returns
returns g c = g.met.Self.Reading.morphism c.args.self.now
