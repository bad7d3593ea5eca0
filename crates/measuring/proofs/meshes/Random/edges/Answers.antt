-- A turn sorts the edges and leaves each once.
use Rattle.std.proofs.Common.{◌≡◌, ◌≤◌, length, subst, rules}
use Rattle.std.proofs.lemmas.List.Filters.{dedup_is}
use Rattle.graph.specs.contracts.edges.EdgePartialEq.TheImpl.{eq-value as same}
use Rattle.measuring.proofs.Drawing.{sorted_once}
use Rattle.measuring.proofs.Rising.{rising_dedup}
use Rattle.measuring.proofs.meshes.Random.edges.Goals as goal

pub loop-preserved : goal.loop-preserved
loop-preserved c =
    let sorted = c.sort.new.self.items in
    let kept = dedup_is same.it sorted c.dedup.new.self.items c.dedup.ensures.filtered in
    let fewer : length c.dedup.new.self.items ≤ length sorted = search rules in
    let long : length sorted ≡ length c.draw.new.edges.items = search rules in
    rw kept (
      sorted_once c.args.self c.draw.new.generator.state c.draw.new.edges.items sorted c.sort.ensures.permutation (subst (λ es. length es ≤ length sorted) kept fewer) long c.in_ok-draw.ensures,
      rising_dedup sorted c.in_ok-sort.ensures.sorted,
    )
