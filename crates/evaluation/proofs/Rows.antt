-- A table of the rows that are made for a file is judged as one of the right length. Assumes nothing.
use Rattle.std.proofs.Common.{◌≡◌, ℕ, ◌/◌, ◌%◌, ◌<◌, Bool, true, false, cond, eqb, List, length, sym, refl, ap, arith}
use mathlib.Core.Bool.{false≢true}
use Rattle.std.proofs.lemmas.List.FromFn.{length-map-range_with_len}
use Rattle.std.proofs.lemmas.Bool.{eqb-true, lt-ltb, or_right}
use Rattle.refusal.specs.Reports.{Verdict}
use Rattle.graph.specs.Files.{file_records, record_at}
use Rattle.graph.specs.Verdicts.{file_verdict, large}

pub file_length : (bytes : List ℕ) → length (file_records bytes) ≡ length bytes / 8
file_length bytes = length-map-range_with_len (record_at bytes) 0 (length bytes / 8)

pub whole_file : (n : ℕ) (bytes : List ℕ) → file_verdict n bytes (length bytes / 8) ≡ file_verdict n bytes (length (file_records bytes))
whole_file n bytes = ap (file_verdict n bytes) (sym (file_length bytes))

-- where a file of whole records is too large, no table is looked at
unread : (whole huge : Bool) (x y partial large : Verdict) → (whole ≡ true → huge ≡ true)
    → cond whole (cond huge large x) partial ≡ cond whole (cond huge large y) partial
unread true true x y partial large h = refl
unread true false x y partial large h = absurd (false≢true (h refl))
unread false huge x y partial large h = refl

pub refused_file : (n : ℕ) (bytes : List ℕ) → (length bytes % 8 ≡ 0 → 4000000 < length bytes / 8) → file_verdict n bytes 0 ≡ file_verdict n bytes (length (file_records bytes))
refused_file n bytes h =
    let m = length (file_records bytes) in
    unread (eqb (length bytes % 8) 0) (large n m) _ _ _ _ (λ whole.
    let many : 4000000 < m = omega (arith, h (eqb-true _ _ whole), file_length bytes) in
    or_right _ _ (lt-ltb 4000000 m many))
