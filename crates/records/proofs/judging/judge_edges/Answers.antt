use Rattle.std.proofs.Common.{ℕ, ◌<◌, length, sym, ap, ◌∙◌, arith, rules}
use Rattle.std.proofs.lemmas.List.{length_push}
use Rattle.std.proofs.lemmas.Result.{err_from_is_err_and}
use Rattle.refusal.specs.Reports.{Verdict}
use Rattle.records.specs.Formats.{format}
use Rattle.records.specs.Verdicts.{first_refusal, edge_verdict, edge_at}
use Rattle.records.proofs.Chunks.{edge_record_is, all_edge_records}
use Rattle.records.proofs.Firsts.{verdict_more, refused_at, edge_is}
use Rattle.records.proofs.judging.judge_edges.Goals as goal

pub loop-j-preserved : goal.loop-j-preserved
loop-j-preserved g c =
    let w = g.K.Stored.WIDTH in
    let f = format w g.K.Stored.parsed in
    let table = c.args.table.now in
    let bytes = c.args.edge_records.now in
    let some : 0 < w = omega (arith, g.met.K.Stored.narrow) in
    let k = length c.loop-j.yielded in
    let item = edge_record_is w table bytes some c.requires.edges c.into_iter-j-iterator.result c.loop-j.j-iterator c.next.new.self c.loop-j.yielded c.next.result (search rules) (search rules) (search rules) (search rules) c.loop-j.yielded_by c.next.ensures.steps c.in-Some.j c.in-Some.edge c.in-Some.record c.in-Some.is in
    let verdict : ℕ → Verdict = λ j. edge_verdict g.K.Kind.leq f c.args.n c.args.vertex_records.now bytes j (edge_at table j) in
    ap (first_refusal verdict) (length_push c.loop-j.yielded (c.in-Some.j, (c.in-Some.edge, c.in-Some.record)))
    ∙ verdict_more verdict k c.loop-j.invariant
    ∙ sym (edge_is g.K.Kind.leq f c.args.n table c.args.vertex_records.now bytes k c.in-Some.j c.in-Some.edge.now c.in-Some.record.now item.0 item.1 item.2 item.3)
    ∙ sym c.in_ok-judge_edge.ensures

pub returns-in_err-judge_edge : goal.returns-in_err-judge_edge
returns-in_err-judge_edge g c =
    let w = g.K.Stored.WIDTH in
    let f = format w g.K.Stored.parsed in
    let table = c.args.table.now in
    let bytes = c.args.edge_records.now in
    let some : 0 < w = omega (arith, g.met.K.Stored.narrow) in
    let k = length c.loop-j.yielded in
    let item = edge_record_is w table bytes some c.requires.edges c.into_iter-j-iterator.result c.loop-j.j-iterator c.next.new.self c.loop-j.yielded c.next.result (search rules) (search rules) (search rules) (search rules) c.loop-j.yielded_by c.next.ensures.steps c.in-Some.j c.in-Some.edge c.in-Some.record c.in-Some.is in
    let verdict : ℕ → Verdict = λ j. edge_verdict g.K.Kind.leq f c.args.n c.args.vertex_records.now bytes j (edge_at table j) in
    let p = err_from_is_err_and c.from_residual.result c.from_residual.ensures.1 in
    rw (p.1, p.2)
    (sym (refused_at verdict k (length table) _ _ _ c.loop-j.invariant item.0
    (sym (edge_is g.K.Kind.leq f c.args.n table c.args.vertex_records.now bytes k c.in-Some.j c.in-Some.edge.now c.in-Some.record.now item.0 item.1 item.2 item.3) ∙ sym c.in_err-judge_edge.ensures)))

pub returns : goal.returns
returns g c =
    let w = g.K.Stored.WIDTH in
    let f = format w g.K.Stored.parsed in
    let table = c.args.table.now in
    let bytes = c.args.edge_records.now in
    let some : 0 < w = omega (arith, g.met.K.Stored.narrow) in
    let all_come = all_edge_records w table bytes some c.requires.edges c.into_iter-j-iterator.result c.loop-j.j-iterator c.next.new.self c.loop-j.yielded c.next.result (search rules) (search rules) (search rules) (search rules) c.loop-j.yielded_by c.next.ensures.steps c.in-None.is in
    let verdict : ℕ → Verdict = λ j. edge_verdict g.K.Kind.leq f c.args.n c.args.vertex_records.now bytes j (edge_at table j) in
    sym c.loop-j.invariant ∙ ap (first_refusal verdict) all_come
