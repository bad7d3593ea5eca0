-- Each turn is a draw more.
use Rattle.std.proofs.Common.{◌≡◌, [], ◌∷◌, ◌++◌, sym, ap, ◌∙◌, rules}
use Rattle.std.proofs.lemmas.List.{append-nil}
use Rattle.graph.specs.declared.edges.Edge.{Edge}
use Rattle.measuring.proofs.Drawing.{draw_more, edge_of_two, edge_of_one}
use Rattle.measuring.proofs.meshes.Random.draw.Goals as goal
use Rattle.measuring.proofs.meshes.Random.draw.Goals.{then-a-b+in_ok-push, else-a-b}

pub loop-preserved : goal.loop-preserved
loop-preserved c =
    draw_more c.args.self c.loop.generator.state c.below-a.new.self.state c.below-b.new.self.state c.below-a.result c.below-b.result c.loop.edges.items c.if-a-b.edges.items c.below-a.ensures.next c.below-b.ensures.next c.below-a.ensures.answer c.below-b.ensures.answer c.below-a.ensures.bound c.below-b.ensures.bound
    (elim c.if-a-b.branch [
      | then-a-b+in_ok-push w ↦ (
          let apart : c.below-a.result ≡ c.below-b.result → ⊥ = w.if-a-b.true in
          let edge : Edge = record { first = w.min.result; second = w.max.result } in
          let between = edge_of_two c.below-a.result c.below-b.result edge apart w.min.ensures w.max.ensures in
          let pushed : c.if-a-b.edges.items ≡ c.loop.edges.items ++ edge ∷ [] = search rules in
          pushed ∙ ap (λ es. c.loop.edges.items ++ es) (sym between))
      | else-a-b w ↦ (
          let none = edge_of_one c.below-a.result c.below-b.result w.if-a-b.false in
          let kept : c.if-a-b.edges.items ≡ c.loop.edges.items = search rules in
          kept ∙ sym (append-nil c.loop.edges.items) ∙ ap (λ es. c.loop.edges.items ++ es) (sym none))
    ])
    (elim c.if-a-b.branch [ then-a-b+in_ok-push w ↦ search rules | else-a-b w ↦ search rules ])
    c.loop.invariant
