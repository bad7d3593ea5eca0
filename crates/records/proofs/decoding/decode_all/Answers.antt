use Rattle.std.proofs.Common.{◌<◌, length, ap, ◌∙◌, arith, rules}
use Rattle.std.proofs.lemmas.List.{length_push}
use Rattle.records.specs.Formats.{format, value_or}
use Rattle.records.proofs.Chunks.{record_is, all_records}
use Rattle.records.proofs.Extents.{value_written, values_all}
use Rattle.records.proofs.decoding.decode_all.Goals as goal

pub offset_bounds-weights-i : goal.offset_bounds-weights-i
offset_bounds-weights-i g c =
    let w = g.K.Stored.WIDTH in
    let n = length c.args.weights.now in
    let bytes = c.args.records.now in
    let some : 0 < w = omega (arith, g.met.K.Stored.narrow) in
    let item = record_is w n bytes some c.requires c.into_iter-i-iterator.result c.loop-i.i-iterator c.next.new.self c.loop-i.yielded c.next.result (search rules) (search rules) (search rules) c.loop-i.yielded_by c.next.ensures.steps c.in-Some.i c.in-Some.record c.in-Some.is in
    let below : c.in-Some.i < n = omega (arith, item.0, item.1) in
    search rules

pub loop-i-preserved : goal.loop-i-preserved
loop-i-preserved g c =
    let w = g.K.Stored.WIDTH in
    let f = format w g.K.Stored.parsed in
    let d = g.K.Kind.operations.lowest in
    let n = length c.args.weights.now in
    let bytes = c.args.records.now in
    let some : 0 < w = omega (arith, g.met.K.Stored.narrow) in
    let item = record_is w n bytes some c.requires c.into_iter-i-iterator.result c.loop-i.i-iterator c.next.new.self c.loop-i.yielded c.next.result (search rules) (search rules) (search rules) c.loop-i.yielded_by c.next.ensures.steps c.in-Some.i c.in-Some.record c.in-Some.is in
    value_written f d bytes c.loop-i.weights (length c.loop-i.yielded) c.in-Some.i _ c.decode_or_lowest.result item.1 (length_push c.loop-i.yielded (c.in-Some.i, c.in-Some.record)) (omega (arith, item.0, c.loop-i.auto.weights))
    (c.decode_or_lowest.ensures ∙ ap (λ b. value_or d (g.K.Stored.parsed b)) item.2) c.loop-i.invariant

pub returns : goal.returns
returns g c =
    let w = g.K.Stored.WIDTH in
    let n = length c.args.weights.now in
    let bytes = c.args.records.now in
    let some : 0 < w = omega (arith, g.met.K.Stored.narrow) in
    let all_come = all_records w n bytes some c.requires c.into_iter-i-iterator.result c.loop-i.i-iterator c.next.new.self c.loop-i.yielded c.next.result (search rules) (search rules) (search rules) c.loop-i.yielded_by c.next.ensures.steps c.in-None.is in
    values_all (format w g.K.Stored.parsed) g.K.Kind.operations.lowest bytes c.loop-i.weights (length c.loop-i.yielded) n c.loop-i.auto.weights (omega arith) (omega arith) c.loop-i.invariant
