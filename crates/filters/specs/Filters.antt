-- The filters, from four passes between two sorts of weights. Assumes nothing.
use Rattle.std.specs.Prelude.{ℕ, zero, suc, ◌/◌, ◌%◌}
use Rattle.filters.specs.declared.families.Family.{Family}
use Rattle.filters.specs.declared.families.Family.TheVariants.{Dilation, Erosion, Opening, Closing, Alternate}

-- X are the weights that a filter changes and Y those of the other sort: vertices and edges, or edges and vertices.
-- Two passes go over from X to Y, and two come back.
pub record Passes (X Y : Type 0) : Type 0 where
  pub join_over : X → Y
  pub meet_over : X → Y
  pub join_back : Y → X
  pub meet_back : Y → X

-- the same passes, as the other sort has them
abbrev pub exchanged : {X Y : Type 0} → Passes X Y → Passes Y X
exchanged p = record { join_over = p.join_back; meet_over = p.meet_back; join_back = p.join_over; meet_back = p.meet_over }

-- what the filters repeat: over by one pass, and back by another
pub record Rounds (X : Type 0) : Type 0 where
  pub dilation : X → X
  pub erosion : X → X
  pub half_opening : X → X
  pub half_closing : X → X

abbrev pub rounds : {X Y : Type 0} → Passes X Y → Rounds X
rounds p = record {
  dilation = λ x. p.join_back (p.join_over x);
  erosion = λ x. p.meet_back (p.meet_over x);
  half_opening = λ x. p.join_back (p.meet_over x);
  half_closing = λ x. p.meet_back (p.join_over x);
}

-- f, n times
abbrev pub repeat : {X : Type 0} → (X → X) → ℕ → X → X
repeat f zero x = x
repeat f (suc n) x = f (repeat f n x)

-- n dilation rounds
abbrev pub dilated : {X : Type 0} → Rounds X → ℕ → X → X
dilated r n x = repeat r.dilation n x

-- n erosion rounds
abbrev pub eroded : {X : Type 0} → Rounds X → ℕ → X → X
eroded r n x = repeat r.erosion n x

-- half of n rounds by first, one by middle where n is odd, and as many as at first by last
abbrev pub halves : {X : Type 0} → (X → X) → (X → X) → (X → X) → ℕ → X → X
halves first middle last n x = repeat last (n / 2) (repeat middle (n % 2) (repeat first (n / 2) x))

-- half of n erosion rounds, a half opening where n is odd, and as many dilation rounds
abbrev pub opened : {X : Type 0} → Rounds X → ℕ → X → X
opened r n x = halves r.erosion r.half_opening r.dilation n x

-- half of n dilation rounds, a half closing where n is odd, and as many erosion rounds
abbrev pub closed : {X : Type 0} → Rounds X → ℕ → X → X
closed r n x = halves r.dilation r.half_closing r.erosion n x

-- the closings φ and openings γ of sizes 1 to n in turn, each closing first
abbrev pub alternating : {X : Type 0} → (ℕ → X → X) → (ℕ → X → X) → ℕ → X → X
alternating γ φ zero x = x
alternating γ φ (suc n) x = γ (suc n) (φ (suc n) (alternating γ φ n x))

abbrev pub alternated : {X : Type 0} → Rounds X → ℕ → X → X
alternated r n x = alternating (opened r) (closed r) n x

-- the filter of a family and a size
abbrev pub filter_by : {X : Type 0} → Rounds X → Family → ℕ → X → X
filter_by r Dilation n x = dilated r n x
filter_by r Erosion n x = eroded r n x
filter_by r Opening n x = opened r n x
filter_by r Closing n x = closed r n x
filter_by r Alternate n x = alternated r n x
