use Rattle.std.proofs.Common.{◌∙◌, arith, rules}
use Rattle.evaluation.specs.Evaluations.{input}
use Rattle.c_library.proofs.Numbering.{delivers}
use Rattle.c_library.proofs.requests.filter.Goals as goal

pub returns : goal.returns
returns c =
    let done = c.in_ok-evaluated.ensures in
    delivers c.args.kind (input c.args.job) _ _ _ _ c.in_ok-kind.kind c.in_ok-evaluated.evaluated (search rules) done.records done.sizes (omega arith) (omega arith) (c.copy_from_slice.ensures.after ∙ c.deref.ensures.value) (c.copy_from_slice-2.ensures.after ∙ c.deref-2.ensures.value)
