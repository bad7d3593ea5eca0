-- What the calls of this crate answer, and what they leave in the buffers. Assumes nothing.
use Rattle.std.specs.Prelude.{ℕ, Bool, cond, ◌&&◌, List, nat_le}
use Rattle.refusal.specs.Reports.{Answer, accepted, refused}
use Rattle.refusal.specs.declared.Part.TheVariants as part
use Rattle.lattice.specs.Lattices.{Operations}
use Rattle.graph.specs.Shapes.{Shape}
use Rattle.filters.specs.Passes.{Side, pass_to_edges, pass_to_vertices}
use Rattle.filters.specs.Weightings.{Weighting, vertices_fit, edges_fit, fits, blank, filtered}
use Rattle.filters.specs.declared.families.Filter.{Filter}

-- refused by rule 7: a weight buffer has the wrong length
abbrev pub wrong_length : {A : Type 0} → Answer A
wrong_length = refused 7 0 part.Sheet

-- refused by rule 11, at a single step: the size is not 1 to 200
abbrev pub wrong_size : {A : Type 0} → Answer A
wrong_size = refused 11 0 part.Sheet

-- the size is 1 to 200
abbrev pub lawful_size : ℕ → Bool
lawful_size n = nat_le 1 n && nat_le n 200

-- the answer of a pass, and what its target holds after it
pub record Passed (K : Type 0) : Type 0 where
  pub answer : Answer (Unit {0})
  pub target : List K

abbrev pub passed : {K : Type 0} → Answer (Unit {0}) → List K → Passed K
passed a xs = record { answer = a; target = xs }

-- a pass to edges or to vertices; where a buffer has the wrong length, the target is as it was
abbrev pub to_edges_call : {K : Type 0} → Side K → Shape → List K → List K → Passed K
to_edges_call s g vs old = cond (vertices_fit g vs && edges_fit g old) (passed (accepted tt) (pass_to_edges s g vs)) (passed wrong_length old)

abbrev pub to_vertices_call : {K : Type 0} → Side K → Shape → List K → List K → Passed K
to_vertices_call s g ys old = cond (edges_fit g ys && vertices_fit g old) (passed (accepted tt) (pass_to_vertices s g ys)) (passed wrong_length old)

-- what a call answers, and what the weights and the buffers beside them hold after it
pub record Outcome (A K : Type 0) : Type 0 where
  pub answer : A
  pub weights : Weighting K
  pub beside : Weighting K

abbrev pub outcome : {A K : Type 0} → A → Weighting K → Weighting K → Outcome A K
outcome a w b = record { answer = a; weights = w; beside = b }

-- One filter on weights and scratch: the weights are filtered and scratch is all lowest. It is refused where a buffer has the
-- wrong length, and then where the size is not 1 to 200; then every buffer is as it was.
abbrev pub filter_call : {K : Type 0} → Operations K → Shape → Filter → Weighting K → Weighting K → Outcome (Answer (Unit {0})) K
filter_call k g f w s =
    cond (fits g w && fits g s)
    (cond (lawful_size f.size) (outcome (accepted tt) (filtered k g f w) (blank k s)) (outcome wrong_size w s))
    (outcome wrong_length w s)
