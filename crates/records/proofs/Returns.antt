-- What is stored loads as the same weights. Assumes nothing.
use Rattle.std.proofs.Common.{◌≡◌, ℕ, zero, suc, ◌*◌, ◌<◌, Bool, List, [], ◌∷◌, ◌++◌, length, get_or, take, drop, Some, Decides, sym, refl, ap, ◌∙◌, ap₂, inl, inr, suc-mul, add_comm, zero-mul, arith, length-append}
use Rattle.std.proofs.lemmas.List.FromFn.{fill_by_all}
use Rattle.std.proofs.lemmas.List.{get_or_default, take_at, drop_at, drop-drop}
use Rattle.std.proofs.lemmas.Bool.{cond-false}
use Rattle.std.specs.List.{flat_map}
use Rattle.refusal.specs.Reports.{accepted, Verdict, by_verdict}
use Rattle.lattice.specs.Lattices.{Operations}
use Rattle.graph.specs.Graphs.{AllWithin}
use Rattle.graph.specs.Shapes.{Shape}
use Rattle.filters.specs.Relations.{Stands, EdgesBelowEnds}
use Rattle.filters.specs.Weightings.{Weighting, weighting, fits, Fits}
use Rattle.records.specs.Formats.{Format, record_at, value_at, value_or, values}
use Rattle.records.specs.Verdicts.{edge_at}
use Rattle.records.specs.Calls.{Bytes, bytes_of_both, loaded, load_verdict, record_weights, Stores, stored, store_call, store_verdict}
use Rattle.records.specs.Rules.{StandFor, Loadable, LoadsBack}
use Rattle.records.proofs.Faults.{outcomes, not_both, buffers_decide, accepts}

-- what is read at a place within a list stands there
stands : {X : Type 0} (xs : List X) (i : ℕ) (d : X) → i < length xs → Stands xs i (get_or xs i d)
stands xs i d l = (l, get_or_default xs i (get_or xs i d) d l)

module _ {K : Type 0} (f : Format K) (written : K → List ℕ) (sized : (x : K) → length (written x) ≡ f.width) (read_back : (x : K) → f.parsed (written x) ≡ Some x) where
  pub length_records : (xs : List K) → length (flat_map written xs) ≡ length xs * f.width
  length_records [] = sym (zero-mul f.width)
  length_records (x ∷ xs) = length-append (written x) (flat_map written xs) ∙ omega (arith, sized x, length_records xs, suc-mul (length xs) f.width)

  record_of : (xs : List K) (i : ℕ) (d : K) → i < length xs → record_at f.width (flat_map written xs) i ≡ written (get_or xs i d)
  record_of [] i d l = absurd (omega arith)
  record_of (x ∷ xs) zero d l =
      ap (λ n. take f.width (drop n (written x ++ flat_map written xs))) (zero-mul f.width)
      ∙ take_at (written x) (flat_map written xs) f.width (sized x)
  record_of (x ∷ xs) (suc i) d l =
      let w = f.width in
      let rest = flat_map written xs in
      ap (λ n. take w (drop n (written x ++ rest))) (suc-mul i w ∙ add_comm (i * w) w)
      ∙ ap (take w) (sym (drop-drop (i * w) w (written x ++ rest)) ∙ ap (drop (i * w)) (drop_at (written x) rest w (sized x)))
      ∙ record_of xs i d (omega arith)

  pub stand_for : (xs : List K) → StandFor f (flat_map written xs) xs
  stand_for xs i x (l, is) = ap f.parsed (record_of xs i x l) ∙ read_back (get_or xs i x) ∙ ap Some is

  -- the values of such records
  values_of : (d : K) (n : ℕ) (xs : List K) → length xs ≡ n → values f d n (flat_map written xs) ≡ xs
  values_of d n xs long =
      sym (fill_by_all (λ i. value_or d (value_at f (flat_map written xs) i)) xs n d long (λ i l. sym (ap (value_or d) (stand_for xs i (get_or xs i d) (stands xs i d (omega arith))))))

  module _ (below : K → K → Type 0) (k : Operations K) (leq : K → K → Bool) (decided : (x y : K) → Decides (leq x y) (below x y)) (g : Shape) (within : AllWithin g.order g.edges) (w : Weighting K) (fit : Fits g w) where
    -- a value that an end's record stands for is the weight of that end
    end_stands : (v : ℕ) (x : K) → v < g.order → value_at f (flat_map written w.vertices) v ≡ Some x → Stands w.vertices v x
    end_stands v x l is =
        let here : v < length w.vertices = omega (arith, fit.0) in
        let there = stand_for w.vertices v (get_or w.vertices v x) (stands w.vertices v x here) in
        let same : get_or w.vertices v x ≡ x = cc in
        (here, same)

    loadable : EdgesBelowEnds below g w → (old : Weighting K) → Fits g old
        → Loadable below f g (flat_map written w.vertices) (Some (flat_map written w.edges)) old
    loadable bounded old room = record {
      buffers = room;
      lengths = (length_records w.vertices ∙ ap (λ n. n * f.width) fit.0, length_records w.edges ∙ ap (λ n. n * f.width) fit.1);
      vertex_values = λ i l. (get_or w.vertices i k.lowest, stand_for w.vertices i _ (stands w.vertices i k.lowest (omega (arith, fit.0))));
      edge_values = λ j l.
          let y = get_or w.edges j k.lowest in
          let e = edge_at g.edges j in
          let y_stands = stands w.edges j k.lowest (omega (arith, fit.1)) in
          let ends = within j _ l in (
            y,
            stand_for w.edges j y y_stands,
            (
              λ x is. bounded j y x y_stands (record { edge = e; vertex = e.first; is_edge = stands g.edges j _ l; end = inl refl; weight = end_stands e.first x (omega (arith, ends)) is }),
              λ x is. bounded j y x y_stands (record { edge = e; vertex = e.second; is_edge = stands g.edges j _ l; end = inr refl; weight = end_stands e.second x ends.1 is }),
            ),
          );
    }

    pub loads_back : LoadsBack below k leq f g (bytes_of_both (flat_map written w.vertices) (flat_map written w.edges)) w
    loads_back bounded old room =
        let vs = flat_map written w.vertices in
        let es = Some (flat_map written w.edges) in
        let new = record_weights k f g vs es in
        let verdict = (accepts below leq decided f g vs old es (load_verdict leq f g vs es old) refl).1 (loadable bounded old room) in
        ap (λ v. loaded v (by_verdict v new old)) verdict
        ∙ ap (loaded (accepted tt)) (ap₂ weighting (values_of k.lowest g.order w.vertices fit.0) (values_of k.lowest (length g.edges) w.edges fit.1))

-- an accepted store: the weights fit the graph, and the bytes are their records
module _ {K : Type 0} (width : ℕ) (written : K → List ℕ) (g : Shape) (w : Weighting K) (old bytes : Bytes) (a : Verdict) (is : stored a bytes ≡ store_call width written g w old) (accepts : a ≡ accepted tt) where
  verdict_accepts : store_verdict width g w old ≡ accepted tt
  verdict_accepts = sym (ap (λ (s : Stores). s.answer) is) ∙ accepts

  pub stored_fits : Fits g w
  stored_fits =
      elim (outcomes (fits g w) (buffers_decide g w)) [
        | inl t ↦ t.1
        | inr t ↦ absurd (not_both (store_verdict width g w old) _ _ _ verdict_accepts (cond-false _ _ _ t.0))
      ]

  pub stored_bytes : bytes ≡ bytes_of_both (flat_map written w.vertices) (flat_map written w.edges)
  stored_bytes =
      ap (λ (s : Stores). s.bytes) is
      ∙ ap (λ v. by_verdict v (bytes_of_both (flat_map written w.vertices) (flat_map written w.edges)) old) verdict_accepts
