-- Records read one after the other, as chunks of their bytes. Assumes nothing.
use Rattle.std.proofs.Common.{◌≡◌, ℕ, zero, suc, ◌*◌, ◌<◌, List, ◌++◌, length, get_or, take, drop, Some, None, Option, Bor, sym, refl, ap, ◌∙◌, suc-mul, zero-mul, zero-add, arith, length-append, length-drop}
use Rattle.std.proofs.lemmas.List.FromFn.{length-enumerate_from, get_or-enumerate_from}
use Rattle.std.proofs.lemmas.List.{take_at, drop_at, drop-drop}
use Rattle.std.proofs.lemmas.Iterator.{YieldsList, YieldsList-from_slice, YieldsList-from_zip, zips}
use Rattle.std.proofs.lemmas.Iterator.Consumers.{YieldsList-from_enumerate, YieldsList-turn, YieldsList-end}
use Rattle.std.proofs.iter.Yields.{fronts}
use Rattle.std.proofs.lemmas.Slice.Zip.{length-zip, get_or-zip}
use Rattle.std.specs.Iterator.{AlwaysYields, Yields}
use Rattle.std.specs.Iterator.Adapters.{enumerate_source, enumerate_count, enumerate_steps, zip_first, zip_second}
use Rattle.std.specs.List.{enumerate_from, zip}
use Rattle.std.specs.Simd.{first_chunks}
use Rattle.std.specs.Slice.Iter.{iter_rest, chunks_exact_rest, chunks_exact_size, chunks_exact_steps}
use Rattle.graph.specs.declared.edges.Edge.{Edge}
use Rattle.records.specs.Formats.{record_at}

length_chunks : (w n : ℕ) (bytes : List ℕ) → length (first_chunks w n bytes) ≡ n
length_chunks w zero bytes = refl
length_chunks w (suc n) bytes = ap (λ k. suc k) (length_chunks w n (drop w bytes))

-- chunk i is record i
chunk_at : (w n i : ℕ) (bytes d : List ℕ) → i < n → get_or (first_chunks w n bytes) i d ≡ record_at w bytes i
chunk_at w zero i bytes d below = absurd (omega arith)
chunk_at w (suc n) zero bytes d below = ap (λ m. take w (drop m bytes)) (sym (zero-mul w))
chunk_at w (suc n) (suc i) bytes d below =
    chunk_at w n i (drop w bytes) d (omega arith)
    ∙ ap (take w) (drop-drop (i * w) w bytes)
    ∙ ap (λ m. take w (drop m bytes)) (omega (arith, suc-mul i w))

chunks_come : (w n : ℕ) (bytes : List ℕ) (s : _) → 0 < w → chunks_exact_size s ≡ w → chunks_exact_rest s ≡ bytes → length bytes ≡ n * w
    → AlwaysYields (chunks_exact_steps {A = ℕ}) (λ y. y.now) s (first_chunks w n bytes)
chunks_come w zero bytes s some wide is long =
    λ x j steps. absurd (omega (arith, zero-mul w, length-append x.now (chunks_exact_rest j), ap length (sym is ∙ steps.1.0), steps.1.1))
chunks_come w (suc n) bytes s some wide is long =
    let room = suc-mul n w in (
      λ j steps. absurd (omega (arith, ap length is, steps.1.0)),
      λ x j steps.
          let same : bytes ≡ x.now ++ chunks_exact_rest j = sym is ∙ steps.1.0 in
          let as_long : length x.now ≡ w = steps.1.1 ∙ wide in (
            sym (take_at x.now (chunks_exact_rest j) w as_long) ∙ ap (take w) (sym same),
            chunks_come w n (drop w bytes) j some (steps.0 ∙ wide) (sym (drop_at x.now (chunks_exact_rest j) w as_long) ∙ ap (drop w) (sym same)) (length-drop w bytes ∙ omega arith),
          ),
    )

records_come : (w n : ℕ) (bytes : List ℕ) → 0 < w → length bytes ≡ n * w → {s : _} → chunks_exact_size s ≡ w → chunks_exact_rest s ≡ bytes → YieldsList (chunks_exact_steps {A = ℕ}) (λ y. y.now) s (first_chunks w n bytes)
records_come w n bytes some long wide is = record { runs = chunks_come w n bytes _ some wide is long }

-- a loop over n records, each with its place: xs have come, and r is what the next call gives
module _ (w n : ℕ) (bytes : List ℕ) (some : 0 < w) (long : length bytes ≡ n * w) (s t u : _) (xs : List (ℕ × Bor (List ℕ))) (r : Option (ℕ × Bor (List ℕ)))
    (wide : chunks_exact_size (enumerate_source s) ≡ w) (is : chunks_exact_rest (enumerate_source s) ≡ bytes) (count : enumerate_count s ≡ 0)
    (come : Yields (enumerate_steps (chunks_exact_steps {A = ℕ})) s xs t) (next : enumerate_steps (chunks_exact_steps {A = ℕ}) t r u) where
  abbrev chunks : List (List ℕ)
  chunks = first_chunks w n bytes

  road : YieldsList {B = ℕ × List ℕ} (enumerate_steps (chunks_exact_steps {A = ℕ})) (λ p. (p.0, p.1.now)) s (enumerate_from 0 chunks)
  road = YieldsList-from_enumerate (records_come w n bytes some long wide is) count

  length_all : length (enumerate_from 0 chunks) ≡ n
  length_all = length-enumerate_from 0 chunks ∙ length_chunks w n bytes

  -- an item is the record at its place
  pub record_is : (i : ℕ) (b : Bor (List ℕ)) → r ≡ Some (i, b) → (length xs < n) × (i ≡ length xs) × (b.now ≡ record_at w bytes (length xs))
  record_is i b given =
      let k = length xs in
      let turn = YieldsList-turn road xs t come r u (i, b) given next in
      let below : k < n = omega (arith, turn.0, length_all) in
      let same = turn.1 ∙ get_or-enumerate_from 0 chunks k (i, b.now) (omega (arith, length_chunks w n bytes)) in (
        below,
        ap (λ (p : ℕ × List ℕ). p.0) same ∙ zero-add k,
        ap (λ (p : ℕ × List ℕ). p.1) same ∙ chunk_at w n k bytes b.now below,
      )

  -- where none is left, all have come
  pub all_records : r ≡ None → length xs ≡ n
  all_records none = (YieldsList-end road xs t come r u none next).1 ∙ length_all

-- a loop over the edges of a table with their records, each with its place
module _ (w : ℕ) (table : List Edge) (bytes : List ℕ) (some : 0 < w) (long : length bytes ≡ length table * w) (s t u : _) (xs : List (ℕ × (Bor Edge × Bor (List ℕ)))) (r : Option (ℕ × (Bor Edge × Bor (List ℕ))))
    (first : iter_rest (zip_first (enumerate_source s)) ≡ table) (wide : chunks_exact_size (zip_second (enumerate_source s)) ≡ w) (is : chunks_exact_rest (zip_second (enumerate_source s)) ≡ bytes) (count : enumerate_count s ≡ 0)
    (come : Yields (enumerate_steps (zips fronts (chunks_exact_steps {A = ℕ}))) s xs t) (next : enumerate_steps (zips fronts (chunks_exact_steps {A = ℕ})) t r u) where
  abbrev edge_chunks : List (List ℕ)
  edge_chunks = first_chunks w (length table) bytes

  abbrev pairs : List (Edge × List ℕ)
  pairs = zip table edge_chunks

  edge_road : YieldsList {B = ℕ × (Edge × List ℕ)} (enumerate_steps (zips fronts (chunks_exact_steps {A = ℕ}))) (λ p. (p.0, (p.1.0.now, p.1.1.now))) s (enumerate_from 0 pairs)
  edge_road = YieldsList-from_enumerate (YieldsList-from_zip (YieldsList-from_slice table first) (records_come w (length table) bytes some long wide is)) count

  length_pairs : length pairs ≡ length table
  length_pairs = length-zip table edge_chunks ∙ omega (arith, length_chunks w (length table) bytes)

  length_numbered : length (enumerate_from 0 pairs) ≡ length table
  length_numbered = length-enumerate_from 0 pairs ∙ length_pairs

  -- an item is the edge and the record at its place
  pub edge_record_is : (j : ℕ) (e : Bor Edge) (b : Bor (List ℕ)) → r ≡ Some (j, (e, b)) → (length xs < length table) × (j ≡ length xs) × (e.now ≡ get_or table (length xs) e.now) × (b.now ≡ record_at w bytes (length xs))
  edge_record_is j e b given =
      let k = length xs in
      let turn = YieldsList-turn edge_road xs t come r u (j, (e, b)) given next in
      let below : k < length table = omega (arith, turn.0, length_numbered) in
      let same = turn.1 ∙ get_or-enumerate_from 0 pairs k (j, (e.now, b.now)) (omega (arith, length_pairs)) in
      let pair = ap (λ (p : ℕ × (Edge × List ℕ)). p.1) same ∙ get_or-zip table edge_chunks k (e.now, b.now) below (omega (arith, length_chunks w (length table) bytes)) in (
        below,
        ap (λ (p : ℕ × (Edge × List ℕ)). p.0) same ∙ zero-add k,
        ap (λ (p : Edge × List ℕ). p.0) pair,
        ap (λ (p : Edge × List ℕ). p.1) pair ∙ chunk_at w (length table) k bytes b.now below,
      )

  pub all_edge_records : r ≡ None → length xs ≡ length table
  all_edge_records none = (YieldsList-end edge_road xs t come r u none next).1 ∙ length_numbered
