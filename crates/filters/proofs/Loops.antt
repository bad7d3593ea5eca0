-- Passes one after the other, and what is done over and over to the weights that are worked on. Assumes nothing.
use Rattle.std.proofs.Common.{◌≡◌, ℕ, zero, suc, ◌+◌, ◌≤◌, List, refl, ap, ◌∙◌, ap₂, add-one, arith}
use Rattle.lattice.specs.Lattices.{Operations}
use Rattle.graph.specs.Shapes.{Shape, shape_of}
use Rattle.filters.specs.Filters.{repeat, opened, closed, alternated}
use Rattle.filters.specs.Weightings.{vertex_rounds, edge_rounds}
use Rattle.filters.specs.Works.{Changes, ChangesByFilter}
use Rattle.filters.specs.declared.rounds.Work.{Work}

-- a way from one list over another and back, by two passes that name the graph by what they were handed
pub over_and_back : {X Y Z G : Type 0} (over : G → X → Y) (back : G → Y → Z) (g first second : G) (x : X) (y : Y) (z : Z) → first ≡ g → second ≡ g
    → y ≡ over first x → z ≡ back second y → z ≡ back g (over g x)
over_and_back over back g first second x y z f s went came = came ∙ ap₂ back s (went ∙ ap (λ h. over h x) f)

module _ {K : Type 0} (start : Work K) where
  -- one change, and then another
  pub changes_then : (now next : Work K) (f h f' h' : Shape → List K → List K) → Changes start now f h → Changes now next f' h' → Changes start next (λ g x. f' g (f g x)) (λ g y. h' g (h g y))
  changes_then now next f h f' h' first second =
      let same = ap (λ g. shape_of g) first.0.0 in (
        (second.0.0 ∙ first.0.0, second.0.1 ∙ first.0.1, second.0.2 ∙ first.0.2),
        second.1 ∙ ap₂ f' same first.1,
        second.2 ∙ ap₂ h' same first.2,
      )

  -- one round more
  pub repeat_more : (now next : Work K) (f h : Shape → List K → List K) (count : ℕ) → Changes start now (λ g. repeat (f g) count) (λ g. repeat (h g) count) → Changes now next f h
      → Changes start next (λ g. repeat (f g) (count + 1)) (λ g. repeat (h g) (count + 1))
  repeat_more now next f h count so_far round = rw add-one (changes_then now next (λ g. repeat (f g) count) (λ g. repeat (h g) count) f h so_far round)

  -- one closing and one opening more
  pub alternated_more : (k : Operations K) (now next : Work K) (size : ℕ) → 1 ≤ size → ((n : ℕ) → suc n ≡ size → ChangesByFilter k start now (λ r. alternated r n))
      → ChangesByFilter k now next (λ r w. opened r size (closed r size w)) → ChangesByFilter k start next (λ r. alternated r size)
  alternated_more k now next zero some so_far both = absurd (omega (arith, some))
  alternated_more k now next (suc m) some so_far both =
      let v = vertex_rounds k in
      let e = edge_rounds k in
      let n = suc m in
      changes_then now next (λ g. alternated (v g) m) (λ g. alternated (e g) m) (λ g w. opened (v g) n (closed (v g) n w)) (λ g w. opened (e g) n (closed (e g) n w)) (so_far m refl) both
