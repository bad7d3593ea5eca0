-- Edges that are drawn one by one, and sorted and left once now and then. Assumes nothing.
use Rattle.std.proofs.Common.{◌≡◌, ℕ, suc, true, ◌<◌, ◌≤◌, ◌==◌, min, max, List, [], ◌∷◌, ◌++◌, length, ⊎_elim, ap, ◌∙◌, arith, rules}
use Rattle.std.specs.List.{All, Contains, dedup}
use Rattle.std.specs.List.Sorted.{IsPermutation}
use Rattle.std.proofs.lemmas.Bool.{cond_both, eqb-false}
use Rattle.std.proofs.lemmas.List.Elements.{All-nil, All-push, All-append, All-contains, All-contains_itself, Contains-append_left, Contains-append_right, Contains-append_cases}
use Rattle.std.proofs.lemmas.List.Filters.{All-dedup}
use Rattle.std.proofs.lemmas.List.Sorted.{All-permutation, Contains-permutation, IsPermutation-sym}
use Rattle.std.proofs.lemmas.List.Kept.{Contains-dedup}
use Rattle.graph.specs.Graphs.{Within}
use Rattle.graph.specs.declared.edges.Edge.{Edge}
use Rattle.graph.specs.contracts.edges.EdgePartialEq.TheImpl.{eq-value as same}
use Rattle.graph.specs.contracts.edges.EdgeEq.TheImpl.Laws.{laws-law}
use Rattle.measuring.specs.Draws.{after, vertex, edge_between, state_of_draws, drawn}
use Rattle.measuring.specs.Meshes.{SameEdges, Drawing}
use Rattle.measuring.specs.declared.meshes.Random.{Random}

-- edges that are equal are identical
identical : (e f : Edge) → same.it e f ≡ true → e ≡ f
identical e f is = search rules

-- edges that are added to both
pub same_added : (es fs more : List Edge) → SameEdges es fs → SameEdges (es ++ more) (fs ++ more)
same_added es fs more s e = (
  λ c. ⊎_elim (λ l. Contains-append_left fs more e ((s e).0 l)) (λ r. Contains-append_right fs more e r) (Contains-append_cases es more e c),
  λ c. ⊎_elim (λ l. Contains-append_left es more e ((s e).1 l)) (λ r. Contains-append_right es more e r) (Contains-append_cases fs more e c),
)

-- another order
pub same_sorted : (es fs gs : List Edge) → IsPermutation es gs → SameEdges es fs → SameEdges gs fs
same_sorted es fs gs p s e = (
  λ c. (s e).0 (Contains-permutation gs es e (IsPermutation-sym es gs p) c),
  λ c. Contains-permutation es gs e p ((s e).1 c),
)

-- each edge once
pub same_once : (es fs : List Edge) → SameEdges es fs → SameEdges (dedup same.it es) fs
same_once es fs s e = (
  λ c. (s e).0 (All-contains (Contains es) (dedup same.it es) e (All-dedup same.it (Contains es) es (All-contains_itself es)) c),
  λ c. Contains-dedup laws-law identical es e ((s e).1 c),
)

-- two vertices have an edge between them, and one has none
pub edge_of_two : (a b : ℕ) (e : Edge) → (a ≡ b → ⊥) → e.first ≡ min a b → e.second ≡ max a b → edge_between a b ≡ e ∷ []
edge_of_two a b e apart low high = search rules

pub edge_of_one : (a b : ℕ) → a ≡ b → edge_between a b ≡ []
edge_of_one a b is = search rules

-- the edge lies within the graph that both vertices are of
within_between : (n a b : ℕ) → a < n → b < n → All (Within n) (edge_between a b)
within_between n a b from to =
    cond_both (a == b) [] (record { first = min a b; second = max a b } ∷ []) (All (Within n))
    (λ _. All-nil (Within n))
    (λ apart. All-push (Within n) [] (record { first = min a b; second = max a b }) (All-nil (Within n)) (omega (arith, eqb-false a b apart), omega arith))

-- a draw more: es gets the edge between its two vertices, where there is one
pub draw_more : (r : Random) (s s₁ s₂ a b : ℕ) (es gs : List Edge) → s₁ ≡ after s → s₂ ≡ after s₁ → a ≡ vertex r.n s₁ → b ≡ vertex r.n s₂ → a < r.n → b < r.n → gs ≡ es ++ edge_between a b → length gs ≤ r.m → Drawing r s es → Drawing r s₂ gs
draw_more r s s₁ s₂ a b es gs first second from to a_below b_below is short d =
    let seen : s₁ ≡ after (state_of_draws r.seed d.draws) = first ∙ ap after d.reached in
    let reached : s₂ ≡ state_of_draws r.seed (suc d.draws) = second ∙ ap after seen in
    let x = vertex r.n (after (state_of_draws r.seed d.draws)) in
    let y = vertex r.n (state_of_draws r.seed (suc d.draws)) in
    let edges : gs ≡ es ++ edge_between x y = is ∙ ap (λ v. es ++ edge_between v b) (from ∙ ap (vertex r.n) seen) ∙ ap (λ v. es ++ edge_between x v) (to ∙ ap (vertex r.n) reached) in
    record {
      draws = suc d.draws;
      reached = reached;
      short = short;
      within = rw is (All-append (Within r.n) es (edge_between a b) d.within (within_between r.n a b a_below b_below));
      found = rw edges (same_added es (drawn r.seed r.n d.draws) (edge_between x y) d.found);
    }

-- sorted, and each edge once
pub sorted_once : (r : Random) (s : ℕ) (es fs : List Edge) → IsPermutation es fs → length (dedup same.it fs) ≤ length fs → length fs ≡ length es → Drawing r s es → Drawing r s (dedup same.it fs)
sorted_once r s es fs moved fewer long d = record {
  draws = d.draws;
  reached = d.reached;
  short = omega (arith, fewer, long, d.short);
  within = All-dedup same.it (Within r.n) fs (All-permutation (Within r.n) es fs moved d.within);
  found = same_once fs (drawn r.seed r.n d.draws) (same_sorted es (drawn r.seed r.n d.draws) fs moved d.found);
}
