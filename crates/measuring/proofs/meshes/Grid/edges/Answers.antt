-- Each turn adds the edge to the right and the edge down.
use Rattle.std.proofs.Common.{◌≡◌, suc, ◌+◌, ◌++◌, ap, ◌∙◌, arith, rules}
use Rattle.measuring.specs.Meshes.{edge_right, edge_down, edges_below}
use Rattle.measuring.proofs.meshes.Grid.edges.Goals as goal
use Rattle.measuring.proofs.meshes.Grid.edges.Goals.{then-first-width+in_ok-push, else-first-width, then-first-width-2+in_ok-push-2, else-first-width-2}

pub loop-first-preserved : goal.loop-first-preserved
loop-first-preserved c =
    let before = c.loop-first.edges.items in
    let between = c.if-first-width.edges.items in
    let to_right = edge_right c.args.self.width c.loop-first.first in
    let to_below = edge_down c.args.self.width c.args.self.height c.loop-first.first in
    let right : between ≡ before ++ to_right = elim c.if-first-width.branch [ then-first-width+in_ok-push w ↦ search rules | else-first-width w ↦ search rules ] in
    let down : c.if-first-width-2.edges.items ≡ between ++ to_below = elim c.if-first-width-2.branch [ then-first-width-2+in_ok-push-2 w ↦ search rules | else-first-width-2 w ↦ search rules ] in
    let next : suc c.loop-first.first ≡ c.loop-first.first + 1 = omega arith in
    down ∙ ap (λ es. es ++ to_below) (right ∙ ap (λ es. es ++ to_right) c.loop-first.invariant) ∙ ap (edges_below c.args.self.width c.args.self.height) next
