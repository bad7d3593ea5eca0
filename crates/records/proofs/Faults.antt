-- The verdict on a load is the right answer, and no other is. Assumes nothing.
use Rattle.std.proofs.Common.{◌≡◌, ℕ, ◌+◌, ◌<◌, Bool, true, false, ◌&&◌, ◌⊎◌, ◌↔◌, List, length, Some, None, Decides, Option, sym, refl, ap, ◌∙◌, subst, inl, inr, arith}
use Rattle.std.proofs.lemmas.Bool.{cases_Bool, cond-true, cond-false}
use Rattle.std.proofs.lemmas.Bool.Decides.{Decides-and, Decides-eqb, not_from_Decides}
use Rattle.refusal.specs.Reports.{accepted, refused, Verdict}
use Rattle.refusal.specs.declared.Part.{Part}
use Rattle.graph.specs.Shapes.{Shape}
use Rattle.filters.specs.Weightings.{Weighting, fits, Fits}
use Rattle.records.specs.Formats.{Format, value_at}
use Rattle.graph.specs.Verdicts.{then}
use Rattle.records.specs.Verdicts.{first_refusal, not_a_value, not_below_ends, value_verdict, vertex_verdict, bounded, ends_verdict, edge_verdict, edge_at, edges_verdict, bytes_fit, edge_bytes_fit, records_verdict}
use Rattle.records.specs.Calls.{load_verdict}
use Rattle.records.specs.Rules.{HasValue, BelowEnds, EdgeRight, VerticesRight, EdgesRight, EdgeLength, LengthsRight, Loadable, VertexFault, EdgeFault, Judged, all_right, weights_length, bytes_length, vertex_value, edge_value, edge_ends}
use Rattle.records.proofs.Firsts.{all_accepted, refused_at, none_refused, first_refused, settled}

-- a test that decides a fact came out one way or the other
pub outcomes : {P : Type 0} (r : Bool) → Decides r P → ((r ≡ true) × P) ⊎ ((r ≡ false) × (P → ⊥))
outcomes r decides =
    elim (cases_Bool r) [ inl holds ↦ inl (holds, decides.0 holds) | inr fails ↦ inr (fails, not_from_Decides r decides fails) ]

pub buffers_decide : {K : Type 0} (g : Shape) (w : Weighting K) → Decides (fits g w) (Fits g w)
buffers_decide g w = Decides-and _ _ (Decides-eqb _ _) (Decides-eqb _ _)

-- nothing is both accepted and refused
pub not_both : (v : Verdict) (number place : ℕ) (p : Part) → v ≡ accepted tt → v ≡ refused number place p → ⊥
not_both v number place p accepts refuses = let z : ◌≡◌ {A = ℕ} 0 1 = cc in omega arith

not_some : {K : Type 0} (x : K) → None ≡ Some x → ⊥
not_some x h = let z : ◌≡◌ {A = ℕ} 0 1 = cc in omega arith

-- a vertex record by its value
vertex_none : {K : Type 0} (place : ℕ) (o : Option K) → ((x : K) × (o ≡ Some x) → ⊥) → value_verdict place o ≡ not_a_value place
vertex_none place None h = refl
vertex_none place (Some x) h = absurd (h (x, refl))

vertex_some : {K : Type 0} (place : ℕ) (o : Option K) (x : K) → o ≡ Some x → value_verdict place o ≡ accepted tt
vertex_some place o x is = ap (value_verdict place) is

has_value : {K : Type 0} (o : Option K) → ((x : K) × (o ≡ Some x)) ⊎ ((x : K) × (o ≡ Some x) → ⊥)
has_value None = inr (λ h. not_some h.0 h.1)
has_value (Some x) = inl (x, refl)

module _ {K : Type 0} (below : K → K → Type 0) (leq : K → K → Bool) (decided : (x y : K) → Decides (leq x y) (below x y)) where
  -- y is below the value, where there is one
  abbrev Bounds : K → Option K → Type 0
  Bounds y o = (x : K) → o ≡ Some x → below y x

  bounded_decides : (y : K) (o : Option K) → Decides (bounded leq y o) (Bounds y o)
  bounded_decides y None = (λ h x is. absurd (not_some x is), λ h. refl)
  bounded_decides y (Some x) = (
    λ h z is. let same : x ≡ z = cc in subst (below y) same ((decided y x).0 h),
    λ h. (decided y x).1 (h x refl),
  )

  module _ (n j : ℕ) (first second : Option K) where
    both_decide : (y : K) → Decides (bounded leq y first && bounded leq y second) (Bounds y first × Bounds y second)
    both_decide y = Decides-and (bounded leq y first) (bounded leq y second) (bounded_decides y first) (bounded_decides y second)

    ends_none : (o : Option K) → ((x : K) × (o ≡ Some x) → ⊥) → ends_verdict leq n j first second o ≡ not_a_value (n + j)
    ends_none None h = refl
    ends_none (Some x) h = absurd (h (x, refl))

    ends_some : (o : Option K) (y : K) → o ≡ Some y → Bounds y first × Bounds y second → ends_verdict leq n j first second o ≡ accepted tt
    ends_some o y is h = ap (ends_verdict leq n j first second) is ∙ cond-true _ _ _ ((both_decide y).1 h)

    ends_above : (o : Option K) (y : K) → o ≡ Some y → (Bounds y first × Bounds y second → ⊥) → ends_verdict leq n j first second o ≡ not_below_ends j
    ends_above o y is h =
        ap (ends_verdict leq n j first second) is
        ∙ elim (outcomes (bounded leq y first && bounded leq y second) (both_decide y)) [
          | inl t ↦ absurd (h t.1)
          | inr t ↦ cond-false _ _ _ t.0
        ]

  -- an edge record by its value and those of its ends
  data EdgeRecord (first second o : Option K) : Type 0 where
    right : (y : K) → o ≡ Some y → Bounds y first × Bounds y second → EdgeRecord first second o
    no_value : ((x : K) × (o ≡ Some x) → ⊥) → EdgeRecord first second o
    above : (y : K) → o ≡ Some y → (Bounds y first × Bounds y second → ⊥) → EdgeRecord first second o

  edge_cases : (first second o : Option K) → EdgeRecord first second o
  edge_cases first second None = no_value (λ h. not_some h.0 h.1)
  edge_cases first second (Some y) =
      elim (outcomes (bounded leq y first && bounded leq y second) (both_decide 0 0 first second y)) [
        | inl t ↦ right y refl t.1
        | inr t ↦ above y refl t.1
      ]

  module _ (f : Format K) (g : Shape) (vertices : List ℕ) where
    abbrev vertex : ℕ → Verdict
    vertex = vertex_verdict f vertices

    vertex_right : (i : ℕ) → vertex i ≡ accepted tt → HasValue f vertices i
    vertex_right i accepts =
        elim (has_value (value_at f vertices i)) [
          | inl found ↦ found
          | inr missing ↦ absurd (not_both (vertex i) _ _ _ accepts (vertex_none i (value_at f vertices i) missing))
        ]

    all_vertices : (n : ℕ) → ((i : ℕ) → i < n → HasValue f vertices i) → first_refusal vertex n ≡ accepted tt
    all_vertices n each = all_accepted vertex n (λ i l. let found = each i l in vertex_some i (value_at f vertices i) found.0 found.1)

    module _ (bytes : List ℕ) where
      abbrev edge : ℕ → Verdict
      edge j = edge_verdict leq f g.order vertices bytes j (edge_at g.edges j)

      abbrev first_end : ℕ → Option K
      first_end j = value_at f vertices (edge_at g.edges j).first

      abbrev second_end : ℕ → Option K
      second_end j = value_at f vertices (edge_at g.edges j).second

      edge_right : (j : ℕ) → edge j ≡ accepted tt → EdgeRight below f g.edges vertices bytes j
      edge_right j accepts =
          elim (edge_cases (first_end j) (second_end j) (value_at f bytes j)) [
            | right y is bounds ↦ (y, is, bounds)
            | no_value missing ↦ absurd (not_both (edge j) _ _ _ accepts (ends_none g.order j (first_end j) (second_end j) (value_at f bytes j) missing))
            | above y is fails ↦ absurd (not_both (edge j) _ _ _ accepts (ends_above g.order j (first_end j) (second_end j) (value_at f bytes j) y is fails))
          ]

      all_edges : (m : ℕ) → ((j : ℕ) → j < m → EdgeRight below f g.edges vertices bytes j) → first_refusal edge m ≡ accepted tt
      all_edges m each =
          all_accepted edge m (λ j l. let e = each j l in ends_some g.order j (first_end j) (second_end j) (value_at f bytes j) e.0 e.1 e.2)

      edge_value_refused : (j : ℕ) → EdgeFault below f g vertices bytes j (HasValue f bytes j → ⊥) → first_refusal edge (length g.edges) ≡ not_a_value (g.order + j)
      edge_value_refused j fault =
          refused_at edge j (length g.edges) _ _ _ (all_edges j fault.before) fault.present (ends_none g.order j (first_end j) (second_end j) (value_at f bytes j) fault.here)

      edge_ends_refused : (j : ℕ) (y : K) → EdgeFault below f g vertices bytes j ((value_at f bytes j ≡ Some y) × (BelowEnds below f vertices (edge_at g.edges j) y → ⊥))
          → first_refusal edge (length g.edges) ≡ not_below_ends j
      edge_ends_refused j y fault =
          refused_at edge j (length g.edges) _ _ _ (all_edges j fault.before) fault.present (ends_above g.order j (first_end j) (second_end j) (value_at f bytes j) y fault.here.0 fault.here.1)

    vertex_refused : (i : ℕ) → VertexFault f g vertices i → first_refusal vertex g.order ≡ not_a_value i
    vertex_refused i fault =
        refused_at vertex i g.order _ _ _ (all_vertices i fault.before) fault.present (vertex_none i (value_at f vertices i) fault.here)

    length_decides : (edges : Option (List ℕ)) → Decides (edge_bytes_fit (length g.edges) f.width edges) (EdgeLength (length g.edges) f.width edges)
    length_decides None = (λ h. tt, λ h. refl)
    length_decides (Some bytes) = Decides-eqb _ _

    lengths_decide : (edges : Option (List ℕ)) → Decides (bytes_fit g.order f.width vertices && edge_bytes_fit (length g.edges) f.width edges) (LengthsRight f g vertices edges)
    lengths_decide edges = Decides-and _ _ (Decides-eqb _ _) (length_decides edges)

    module _ (w : Weighting K) where
      -- the answer to the edge records, where all before is right
      edges_judged : (edges : Option (List ℕ)) → Fits g w → LengthsRight f g vertices edges → VerticesRight f g vertices
          → Judged below f g vertices edges w (edges_verdict leq f g vertices edges)
      edges_judged None fit long vs = all_right (record { buffers = fit; lengths = long; vertex_values = vs; edge_values = tt }) refl
      edges_judged (Some bytes) fit long vs =
          elim (settled (edge bytes) (length g.edges)) [
            | none_refused each ↦ all_right
                (record { buffers = fit; lengths = long; vertex_values = vs; edge_values = λ j l. edge_right bytes j (each j l) })
                (all_accepted (edge bytes) (length g.edges) each)
            | first_refused j number place p l before refuses ↦ elim (edge_cases (first_end bytes j) (second_end bytes j) (value_at f bytes j)) [
              | right y is bounds ↦ absurd (not_both (edge bytes j) _ _ _ (ends_some g.order j (first_end bytes j) (second_end bytes j) (value_at f bytes j) y is bounds) refuses)
              | no_value missing ↦
                  let fault : EdgeFault below f g vertices bytes j (HasValue f bytes j → ⊥) = record { present = l; before = λ k kl. edge_right bytes k (before k kl); here = missing } in
                  edge_value bytes j fit long vs refl fault (edge_value_refused bytes j fault)
              | above y is fails ↦
                  let fault : EdgeFault below f g vertices bytes j ((value_at f bytes j ≡ Some y) × (BelowEnds below f vertices (edge_at g.edges j) y → ⊥)) = record { present = l; before = λ k kl. edge_right bytes k (before k kl); here = (is, fails) } in
                  edge_ends bytes j y fit long vs refl fault (edge_ends_refused bytes j y fault)
            ]
          ]

      edges_accepted : (edges : Option (List ℕ)) → EdgesRight below f g vertices edges → edges_verdict leq f g vertices edges ≡ accepted tt
      edges_accepted None each = refl
      edges_accepted (Some bytes) each = all_edges bytes (length g.edges) each

      module _ (edges : Option (List ℕ)) where
        -- an accepted answer rests on records that are right
        loadable : {a : Verdict} → Judged below f g vertices edges w a → a ≡ accepted tt → Loadable below f g vertices edges w
        loadable {a = a} (all_right l said) same = l
        loadable {a = a} (weights_length fails said) same = absurd (not_both a _ _ _ same said)
        loadable {a = a} (bytes_length fit fails said) same = absurd (not_both a _ _ _ same said)
        loadable {a = a} (vertex_value i fit long fault said) same = absurd (not_both a _ _ _ same said)
        loadable {a = a} (edge_value bytes j fit long vs is fault said) same = absurd (not_both a _ _ _ same said)
        loadable {a = a} (edge_ends bytes j y fit long vs is fault said) same = absurd (not_both a _ _ _ same said)

        abbrev after_vertices : Verdict → Verdict
        after_vertices v = then v (edges_verdict leq f g vertices edges)

        records_judged : Fits g w → LengthsRight f g vertices edges
            → Judged below f g vertices edges w (after_vertices (first_refusal vertex g.order))
        records_judged fit long =
            elim (settled vertex g.order) [
              | none_refused each ↦
                  let P : Verdict → Type 0 = λ v. Judged below f g vertices edges w (after_vertices v) in
                  subst P (sym (all_accepted vertex g.order each)) (edges_judged edges fit long (λ i l. vertex_right i (each i l)))
              | first_refused i number place p l before refuses ↦ elim (has_value (value_at f vertices i)) [
                | inl found ↦ absurd (not_both (vertex i) _ _ _ (vertex_some i (value_at f vertices i) found.0 found.1) refuses)
                | inr missing ↦
                    let fault : VertexFault f g vertices i = record { present = l; before = λ k kl. vertex_right k (before k kl); here = missing } in
                    vertex_value i fit long fault (ap after_vertices (vertex_refused i fault))
              ]
            ]

        past_buffers : Fits g w → load_verdict leq f g vertices edges w ≡ records_verdict leq f g vertices edges
        past_buffers fit = cond-true _ _ _ ((buffers_decide g w).1 fit)

        past_lengths : LengthsRight f g vertices edges → records_verdict leq f g vertices edges ≡ after_vertices (first_refusal vertex g.order)
        past_lengths long = cond-true _ _ _ ((lengths_decide edges).1 long)

        past_vertices : VerticesRight f g vertices → after_vertices (first_refusal vertex g.order) ≡ edges_verdict leq f g vertices edges
        past_vertices vs = ap after_vertices (all_vertices g.order vs)

        verdict_judged : Judged below f g vertices edges w (load_verdict leq f g vertices edges w)
        verdict_judged =
            elim (outcomes (fits g w) (buffers_decide g w)) [
              | inr t ↦ weights_length t.1 (cond-false _ _ _ t.0)
              | inl t ↦ elim (outcomes _ (lengths_decide edges)) [
                | inr u ↦ bytes_length t.1 u.1 (past_buffers t.1 ∙ cond-false _ _ _ u.0)
                | inl u ↦
                    let P : Verdict → Type 0 = Judged below f g vertices edges w in
                    subst P (sym (past_buffers t.1 ∙ past_lengths u.1)) (records_judged t.1 u.1)
              ]
            ]

        loads : Loadable below f g vertices edges w → load_verdict leq f g vertices edges w ≡ accepted tt
        loads l =
            past_buffers l.buffers ∙ past_lengths l.lengths ∙ past_vertices l.vertex_values ∙ edges_accepted edges l.edge_values

        only_verdict : (a : Verdict) → Judged below f g vertices edges w a → load_verdict leq f g vertices edges w ≡ a
        only_verdict a (all_right l said) = loads l ∙ sym said
        only_verdict a (weights_length fails said) =
            elim (outcomes (fits g w) (buffers_decide g w)) [ inl t ↦ absurd (fails t.1) | inr t ↦ cond-false _ _ _ t.0 ∙ sym said ]
        only_verdict a (bytes_length fit fails said) =
            past_buffers fit
            ∙ elim (outcomes _ (lengths_decide edges)) [ inl t ↦ absurd (fails t.1) | inr t ↦ cond-false _ _ _ t.0 ∙ sym said ]
        only_verdict a (vertex_value i fit long fault said) =
            past_buffers fit ∙ past_lengths long ∙ ap after_vertices (vertex_refused i fault) ∙ sym said
        only_verdict a (edge_value bytes j fit long vs is fault said) =
            past_buffers fit ∙ past_lengths long ∙ past_vertices vs ∙ ap (edges_verdict leq f g vertices) is ∙ edge_value_refused bytes j fault ∙ sym said
        only_verdict a (edge_ends bytes j y fit long vs is fault said) =
            past_buffers fit ∙ past_lengths long ∙ past_vertices vs ∙ ap (edges_verdict leq f g vertices) is ∙ edge_ends_refused bytes j y fault ∙ sym said

        -- an answer is the verdict exactly where it is the right answer
        pub judged : (answer a : Verdict) → answer ≡ load_verdict leq f g vertices edges w → (answer ≡ a) ↔ (Judged below f g vertices edges w a)
        judged answer a is = (
          λ same. let P : Verdict → Type 0 = Judged below f g vertices edges w in subst P (sym is ∙ same) verdict_judged,
          λ grounds. is ∙ only_verdict a grounds,
        )

        -- it is accepted exactly where the records are the weights of the graph
        pub accepts : (answer : Verdict) → answer ≡ load_verdict leq f g vertices edges w → (answer ≡ accepted tt) ↔ (Loadable below f g vertices edges w)
        accepts answer is = (λ same. loadable verdict_judged (sym is ∙ same), λ l. is ∙ loads l)
