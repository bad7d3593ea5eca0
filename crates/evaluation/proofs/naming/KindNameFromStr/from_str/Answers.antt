use Rattle.std.proofs.Common.{suc, not, ◌++◌, codes, sym, ap, ◌∙◌, rules}
use Rattle.std.proofs.lemmas.Result.{err_from_is_err_and}
use Rattle.evaluation.specs.Kinds.{reversals}
use Rattle.evaluation.proofs.Spelling.{one_more, no_kind}
use Rattle.evaluation.proofs.naming.KindNameFromStr.from_str.Goals as goal

pub loop-rest-preserved : goal.loop-rest-preserved
loop-rest-preserved c =
    let taken = c.loop-rest.invariant.1 in
    let stripped = c.in-Some.ensures.cases in
    let name = stripped.1.1 ∙ ap (λ text. codes "reversed-" ++ text) (sym stripped.2) in
    (search rules, (suc taken.0, taken.1 ∙ ap (reversals taken.0) name ∙ one_more taken.0 c.in-Some.rest.now, ap not taken.2))

pub returns-in_err-base : goal.returns-in_err-base
returns-in_err-base c =
    let taken = c.loop-rest.invariant.1 in
    let left = c.in_default.ensures.cases in
    let exit = err_from_is_err_and c.from_residual.result c.from_residual.ensures.1 in
    rw exit.1 (λ kind names. no_kind taken.0 names.count c.loop-rest.name.now kind.base left (c.in_err-base.ensures.value kind.base) (sym taken.1 ∙ names.spelled))
