-- The buffers of a run, and what they hold. Assumes nothing.
use Rattle.std.specs.Prelude.{◌≡◌}
use Rattle.filters.specs.Weightings.{Weighting, weighting}
use Rattle.stories.specs.Words.{Pair, pair}
use Rattle.calls.specs.declared.running.Run.{Run}

-- on the same graph, in the same buffers
abbrev pub SamePlaces : {K : Type 0} → Run K → Run K → Type 0
SamePlaces old new =
    (new.graph ≡ old.graph)
    × (new.vertices.ghost_name ≡ old.vertices.ghost_name)
    × (new.edges.ghost_name ≡ old.edges.ghost_name)
    × (new.vertex_scratch.ghost_name ≡ old.vertex_scratch.ghost_name)
    × (new.edge_scratch.ghost_name ≡ old.edge_scratch.ghost_name)
    × (new.held_vertices.ghost_name ≡ old.held_vertices.ghost_name)
    × (new.held_edges.ghost_name ≡ old.held_edges.ghost_name)

-- the weights, and what is held
abbrev pub pair_of : {K : Type 0} → Run K → Pair K
pair_of r = pair (weighting r.vertices.now r.edges.now) (weighting r.held_vertices.now r.held_edges.now)

-- what the scratch holds
abbrev pub scratch_of : {K : Type 0} → Run K → Weighting K
scratch_of r = weighting r.vertex_scratch.now r.edge_scratch.now
