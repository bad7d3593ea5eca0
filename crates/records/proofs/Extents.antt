-- The values of all records. Assumes nothing.
use Rattle.std.proofs.Common.{◌≡◌, ℕ, ◌+◌, ◌<◌, ◌≤◌, List, [], ◌∷◌, ◌++◌, length, take, set, sym, ap, ◌∙◌, zero-add, arith}
use Rattle.std.proofs.lemmas.List.FromFn.{map-range_with_len_more}
use Rattle.std.proofs.lemmas.List.{take_all, take_more_set}
use Rattle.records.specs.Formats.{Format, value_at, value_or, values}

module _ {K : Type 0} (f : Format K) (d : K) (bytes : List ℕ) where
  -- one value more
  pub values_more : (weights : List K) (i : ℕ) (x : K) → i < length weights → x ≡ value_or d (value_at f bytes i) → take i weights ≡ values f d i bytes
      → take (i + 1) (set weights i x) ≡ values f d (i + 1) bytes
  values_more weights i x below is before =
      take_more_set weights i x below
      ∙ ap (λ l. l ++ x ∷ []) before
      ∙ ap (λ y. values f d i bytes ++ y ∷ []) is
      ∙ sym (map-range_with_len_more (λ j. value_or d (value_at f bytes j)) 0 i i (zero-add i))

  -- the same, where the index and the next one are said otherwise
  pub value_written : (weights : List K) (i place next : ℕ) (x : K) → place ≡ i → next ≡ i + 1 → i < length weights → x ≡ value_or d (value_at f bytes i) → take i weights ≡ values f d i bytes
      → take next (set weights place x) ≡ values f d next bytes
  value_written weights i place next x at more below is before = rw (at, more) (values_more weights i x below is before)

  -- no record is left
  pub values_all : (weights : List K) (i n : ℕ) → length weights ≡ n → n ≤ i → i ≤ n → take i weights ≡ values f d i bytes → weights ≡ values f d n bytes
  values_all weights i n long past within before =
      let same : i ≡ n = omega arith in
      sym (take_all i weights (omega arith)) ∙ before ∙ ap (λ k. values f d k bytes) same
