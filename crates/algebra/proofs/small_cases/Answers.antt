use Rattle.std.proofs.Common.{[], ◌∷◌, inr, arith}
use Rattle.filters.specs.Relations.{filter}
use Rattle.filters.specs.declared.families.Family.TheVariants.{Opening}
use Rattle.algebra.proofs.small_cases.Goals as goal

pub returns : goal.returns
returns g c = record {
  rising_openings = λ law. law 1 (2 ∷ []);
  falling_openings = λ law. law 2 (1 ∷ []);
  rising_closings = λ law. law 1 (2 ∷ []);
  falling_closings = λ law. law 2 (1 ∷ []);
  rising_alternates = λ law. law 1 (2 ∷ []) (omega arith, tt);
  equal_alternates = λ law. law 2 (2 ∷ []) (omega arith, tt);
  above_erosion = λ law s a w f u h. (law s a 1 w u f h).0;
  below_dilation = λ law s a w f u h. (law s a 1 w u f h).1;
  opened_edges = λ law s a w f. law s a (filter Opening 1) w f;
  empty_join = λ law s a w f v d z h none. ((law s a w f).join_to_vertices v d h).least z (λ y at. absurd (none y at));
  empty_meet = λ law s a w f v d z h none. ((law s a w f).meet_to_vertices v d h).least z (λ y at. absurd (none y at));
  dilated_neighbour = λ law s a w f edges u v x d h near x-at. ((law s a edges w f).0 v d h).above x (record { vertex = u; near = inr near; weight = x-at });
  eroded_neighbour = λ law s a w f edges u v x d h near x-at. ((law s a edges w f).1 v d h).above x (record { vertex = u; near = inr near; weight = x-at });
}
