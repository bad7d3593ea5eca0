-- The records of a file are those of its chunks of eight bytes. Assumes nothing.
use Rattle.std.proofs.Common.{◌≡◌, ℕ, zero, suc, ◌+◌, ◌*◌, ◌/◌, ◌<◌, ◌≤◌, List, map, length, get_or, take, drop, refl, ap, ◌∙◌, arith}
use Rattle.std.proofs.lemmas.List.{drop-drop}
use Rattle.std.proofs.lemmas.Simd.{get_or-chunk}
use Rattle.std.specs.List.{range_with_len}
use Rattle.std.specs.Simd.{first_chunks}
use Rattle.graph.specs.Files.{number_at, record_at, file_records}

byte_in : (bs : List ℕ) (i j m : ℕ) → j < 8 → i + j ≡ m → get_or (take 8 (drop i bs)) j 0 ≡ get_or bs m 0
byte_in bs i j m fits is = get_or-chunk i 8 bs j 0 fits ∙ ap (λ n. get_or bs n 0) is

-- a number of the eight bytes from place i on
number_in : (bs : List ℕ) (i j m : ℕ) → j + 4 ≤ 8 → i + j ≡ m → number_at (take 8 (drop i bs)) j ≡ number_at bs m
number_in bs i j m fits is =
    let a = byte_in bs i j m (omega arith) is in
    let b = byte_in bs i (j + 1) (m + 1) (omega arith) (omega arith) in
    let c = byte_in bs i (j + 2) (m + 2) (omega arith) (omega arith) in
    let d = byte_in bs i (j + 3) (m + 3) (omega arith) (omega arith) in
    cc

-- the record of the eight bytes from record k on
record_in : (bs : List ℕ) (k : ℕ) → record_at (take 8 (drop (8 * k) bs)) 0 ≡ record_at bs k
record_in bs k =
    let p = number_in bs (8 * k) 0 (8 * k) (omega arith) (omega arith) in
    let q = number_in bs (8 * k) 4 (8 * k + 4) (omega arith) (omega arith) in
    cc

-- the records of m chunks from record k on
records_from : (bs : List ℕ) (k m : ℕ) → map (λ r. record_at r 0) (first_chunks 8 m (drop (8 * k) bs)) ≡ map (record_at bs) (range_with_len k m)
records_from bs k zero = refl
records_from bs k (suc m) =
    let past : drop 8 (drop (8 * k) bs) ≡ drop (8 * (k + 1)) bs = drop-drop 8 (8 * k) bs ∙ ap (λ n. drop n bs) (omega arith) in
    let here = record_in bs k in
    let rest = records_from bs (k + 1) m in
    cc

pub records_in_chunks : (bs : List ℕ) → map (λ r. record_at r 0) (first_chunks 8 (length bs / 8) bs) ≡ file_records bs
records_in_chunks bs = records_from bs 0 (length bs / 8)
