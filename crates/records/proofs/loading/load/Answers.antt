use Rattle.std.proofs.Common.{sym, ap, ◌∙◌, subst}
use Rattle.refusal.specs.Reports.{by_verdict}
use Rattle.graph.specs.Shapes.{shape_of}
use Rattle.filters.specs.Relations.{EdgesBelowEnds}
use Rattle.filters.specs.Weightings.{Weighting, weights_before}
use Rattle.records.specs.Formats.{format, bytes_in}
use Rattle.records.specs.Calls.{Loaded, record_weights}
use Rattle.records.proofs.Bounds.{edges_below_ends}
use Rattle.records.proofs.Faults.{accepts, judged}
use Rattle.records.proofs.loading.load.Goals as goal

pub returns : goal.returns
returns g c =
    let leq = g.K.Kind.leq in
    let f = format g.K.Stored.WIDTH g.K.Stored.parsed in
    let graph = shape_of c.args.graph.now in
    let vertices = c.args.vertex_records.now in
    let edges = bytes_in c.args.edge_records in
    let w = weights_before c.args.weights in
    let verdict = ap (λ (l : Loaded _). l.answer) c.load_into.ensures in
    let right = accepts g.K.Kind.below leq g.met.K.Kind.decided f graph vertices w edges _ verdict in
    record {
      call = c.load_into.ensures;
      accepted = right;
      judged = λ a. judged g.K.Kind.below leq g.met.K.Kind.decided f graph vertices w edges _ a verdict;
      bounded = λ is.
          let new = record_weights g.K.Kind.operations f graph vertices edges in
          let written = ap (λ (l : Loaded _). l.weights) c.load_into.ensures ∙ ap (λ v. by_verdict v new w) (sym verdict ∙ is) in
          let P : Weighting _ → Type 0 = EdgesBelowEnds g.K.Kind.below graph in
          subst P (sym written) (edges_below_ends g.K.Kind.below g.K.Kind.operations g.met.K.Kind.lattice f graph vertices w edges (right.0 is));
    }
