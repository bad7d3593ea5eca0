-- How long the records are that an evaluation hands out. Assumes nothing.
use Rattle.std.specs.Prelude.{◌≡◌, ℕ, ◌*◌, vec_len}
use Rattle.evaluation.specs.declared.jobs.Evaluated.{Evaluated}

-- there is a record of this width for each vertex and for each edge
pub record Sized (width : ℕ) (e : Evaluated) : Type 0 where
  pub vertices : vec_len e.vertex_records ≡ e.vertices * width
  pub edges : vec_len e.edge_records ≡ e.edges * width
