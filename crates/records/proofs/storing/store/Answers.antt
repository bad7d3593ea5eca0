use Rattle.std.proofs.Common.{sym, subst}
use Rattle.graph.specs.Shapes.{shape_of}
use Rattle.filters.specs.Weightings.{weights_in}
use Rattle.records.specs.Formats.{format}
use Rattle.records.specs.Calls.{Bytes}
use Rattle.records.specs.Rules.{StandFor, LoadsBack}
use Rattle.records.proofs.Returns.{stand_for, loads_back, stored_fits, stored_bytes}
use Rattle.records.proofs.storing.store.Goals as goal

pub returns : goal.returns
returns g c =
    let size = g.K.Stored.WIDTH in
    let written = g.K.Stored.written in
    let f = format size g.K.Stored.parsed in
    let sized = g.met.K.Stored.sized in
    let read_back = g.met.K.Stored.read_back in
    let graph = c.args.graph.now in
    let w = weights_in c.args.weights in
    let call = c.store_from.ensures in
    record {
      call = call;
      vertices = λ accepts.
          let P : Bytes → Type 0 = λ bytes. StandFor f bytes.vertices w.vertices in
          subst P (sym (stored_bytes size written (shape_of graph) w _ _ _ call accepts)) (stand_for f written sized read_back w.vertices);
      edges = λ accepts.
          let P : Bytes → Type 0 = λ bytes. StandFor f bytes.edges w.edges in
          subst P (sym (stored_bytes size written (shape_of graph) w _ _ _ call accepts)) (stand_for f written sized read_back w.edges);
      loads = λ accepts.
          let P : Bytes → Type 0 = λ bytes. LoadsBack g.K.Kind.below g.K.Kind.operations g.K.Kind.leq f (shape_of graph) bytes w in
          subst P (sym (stored_bytes size written (shape_of graph) w _ _ _ call accepts)) (loads_back f written sized read_back g.K.Kind.below g.K.Kind.operations g.K.Kind.leq g.met.K.Kind.decided (shape_of graph) graph.within w (stored_fits size written (shape_of graph) w _ _ _ call accepts));
    }
