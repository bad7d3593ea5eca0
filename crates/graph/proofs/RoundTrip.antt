-- The records of a file are the edges that it was written from. Assumes nothing.
use Rattle.std.proofs.Common.{◌≡◌, ℕ, zero, suc, ◌+◌, ◌*◌, ◌/◌, ◌%◌, ◌<◌, List, [], ◌∷◌, ◌++◌, length, get_or, refl, ap, ◌∙◌, arith}
use Rattle.std.proofs.lemmas.List.FromFn.{length-map-range_with_len, get_or-map-range_with_len}
use Rattle.std.proofs.lemmas.List.{get_or-append-add, same_lists}
use Rattle.graph.specs.Files.{number_at, record_at, file_records, record_bytes, file_bytes}
use Rattle.graph.specs.declared.edges.Edge.{Edge}

-- the digits of a number make it up
digits : (x : ℕ) → x % 256 + (x / 256 % 256) * 256 + (x / 65536 % 256) * 65536 + (x / 16777216) * 16777216 ≡ x
digits x = omega arith

past_record : (e : Edge) (rest : List ℕ) (i j : ℕ) → j ≡ 8 + i → get_or (record_bytes e ++ rest) j 0 ≡ get_or rest i 0
past_record e rest i j same = rw same (get_or-append-add (record_bytes e) rest i 0)

past_number : (e : Edge) (rest : List ℕ) (i j : ℕ) → j ≡ 8 + i → number_at (record_bytes e ++ rest) j ≡ number_at rest i
past_number e rest i j same =
    let a = past_record e rest i j same in
    let b = past_record e rest (i + 1) (j + 1) (omega arith) in
    let c = past_record e rest (i + 2) (j + 2) (omega arith) in
    let d = past_record e rest (i + 3) (j + 3) (omega arith) in
    cc

abbrev edge : ℕ → ℕ → Edge
edge x y = record { first = x; second = y }

same_edge : (e f : Edge) → e.first ≡ f.first → e.second ≡ f.second → e ≡ f
same_edge e f p q = ap (λ x. edge x e.second) p ∙ ap (edge f.first) q

-- record k is edge k
read_back : (es : List Edge) (k : ℕ) (d : Edge) → k < length es → record_at (file_bytes es) k ≡ get_or es k d
read_back [] k d l = absurd (omega arith)
read_back (e ∷ es) zero d l = same_edge _ e (digits e.first) (digits e.second)
read_back (e ∷ es) (suc k) d l =
    let first = past_number e (file_bytes es) (8 * k) (8 * suc k) (omega arith) in
    let second = past_number e (file_bytes es) (8 * k + 4) (8 * suc k + 4) (omega arith) in
    same_edge _ (record_at (file_bytes es) k) first second ∙ read_back es k d (omega arith)

file_length : (es : List Edge) → length (file_bytes es) ≡ 8 * length es
file_length [] = refl
file_length (e ∷ es) = let rest = file_length es in omega arith

pub round_trip : (es : List Edge) → file_records (file_bytes es) ≡ es
round_trip es =
    let bs = file_bytes es in
    let whole = file_length es in
    let count : length bs / 8 ≡ length es = omega arith in
    same_lists (file_records bs) es
    (length-map-range_with_len (record_at bs) 0 (length bs / 8) ∙ count)
    (λ k d l.
    let low : k < length bs / 8 = rw length-map-range_with_len at l in
    get_or-map-range_with_len (record_at bs) 0 (length bs / 8) k k d low (omega arith) ∙ read_back es k d (omega arith))
