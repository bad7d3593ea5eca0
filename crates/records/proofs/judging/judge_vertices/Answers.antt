use Rattle.std.proofs.Common.{◌<◌, length, sym, ap, ◌∙◌, arith, rules}
use Rattle.std.proofs.lemmas.List.{length_push}
use Rattle.std.proofs.lemmas.Result.{err_from_is_err_and}
use Rattle.records.specs.Formats.{format}
use Rattle.records.specs.Verdicts.{first_refusal, vertex_verdict}
use Rattle.records.proofs.Chunks.{record_is, all_records}
use Rattle.records.proofs.Firsts.{verdict_more, refused_at, vertex_is}
use Rattle.records.proofs.judging.judge_vertices.Goals as goal

pub loop-i-preserved : goal.loop-i-preserved
loop-i-preserved g c n long =
    let w = g.K.Stored.WIDTH in
    let f = format w g.K.Stored.parsed in
    let bytes = c.args.records.now in
    let some : 0 < w = omega (arith, g.met.K.Stored.narrow) in
    let item = record_is w n bytes some long c.into_iter-i-iterator.result c.loop-i.i-iterator c.next.new.self c.loop-i.yielded c.next.result (search rules) (search rules) (search rules) c.loop-i.yielded_by c.next.ensures.steps c.in-Some.i c.in-Some.record c.in-Some.is in
    ap (first_refusal (vertex_verdict f bytes)) (length_push c.loop-i.yielded (c.in-Some.i, c.in-Some.record))
    ∙ verdict_more (vertex_verdict f bytes) (length c.loop-i.yielded) (c.loop-i.invariant n long)
    ∙ sym (vertex_is f bytes (length c.loop-i.yielded) c.in-Some.i c.in-Some.record.now item.1 item.2)
    ∙ sym c.in_ok-judge_vertex.ensures

pub returns-in_err-judge_vertex : goal.returns-in_err-judge_vertex
returns-in_err-judge_vertex g c n long =
    let w = g.K.Stored.WIDTH in
    let f = format w g.K.Stored.parsed in
    let bytes = c.args.records.now in
    let some : 0 < w = omega (arith, g.met.K.Stored.narrow) in
    let item = record_is w n bytes some long c.into_iter-i-iterator.result c.loop-i.i-iterator c.next.new.self c.loop-i.yielded c.next.result (search rules) (search rules) (search rules) c.loop-i.yielded_by c.next.ensures.steps c.in-Some.i c.in-Some.record c.in-Some.is in
    let p = err_from_is_err_and c.from_residual.result c.from_residual.ensures.1 in
    rw (p.1, p.2)
    (sym (refused_at (vertex_verdict f bytes) (length c.loop-i.yielded) n _ _ _ (c.loop-i.invariant n long) item.0
    (sym (vertex_is f bytes (length c.loop-i.yielded) c.in-Some.i c.in-Some.record.now item.1 item.2) ∙ sym c.in_err-judge_vertex.ensures)))

pub returns : goal.returns
returns g c n long =
    let w = g.K.Stored.WIDTH in
    let f = format w g.K.Stored.parsed in
    let bytes = c.args.records.now in
    let some : 0 < w = omega (arith, g.met.K.Stored.narrow) in
    let all_come = all_records w n bytes some long c.into_iter-i-iterator.result c.loop-i.i-iterator c.next.new.self c.loop-i.yielded c.next.result (search rules) (search rules) (search rules) c.loop-i.yielded_by c.next.ensures.steps c.in-None.is in
    sym (c.loop-i.invariant n long) ∙ ap (first_refusal (vertex_verdict f bytes)) all_come
