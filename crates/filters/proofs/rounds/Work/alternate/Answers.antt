use Rattle.std.proofs.Common.{◌≡◌, arith}
use Rattle.filters.proofs.Loops.{alternated_more}
use Rattle.filters.proofs.rounds.Work.alternate.Goals as goal

pub loop-s-preserved : goal.loop-s-preserved
loop-s-preserved g c = (
  omega arith,
  λ n is.
      let same : c.loop-s.s ≡ n = omega (arith, is) in
      rw same at (alternated_more c.args.self.now g.K.Kind.operations c.loop-s.self c.close_and_open.new.self c.loop-s.s c.loop-s.auto.s c.loop-s.invariant.1 c.close_and_open.ensures),
)

pub returns : goal.returns
returns g c = c.loop-s.invariant.1 c.args.size (omega arith)

pub returns-2 : goal.returns-2
returns-2 g c =
    let last : c.loop-s.s ≡ c.args.size = omega arith in
    rw last at (alternated_more c.args.self.now g.K.Kind.operations c.loop-s.self c.close_and_open.new.self c.loop-s.s c.loop-s.auto.s c.loop-s.invariant.1 c.close_and_open.ensures)
