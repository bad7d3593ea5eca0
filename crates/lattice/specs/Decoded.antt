-- What records stand for, by their bytes. Assumes nothing.
use Rattle.std.specs.Prelude.{◌≡◌, ℕ, ◌+◌, ◌*◌, ◌%◌, ◌^◌, ◌≤◌, List, [], ◌∷◌, length, Some, None, Option, slice_index}
use Rattle.std.proofs.Common.{sym, ap, ◌∙◌, arith}
use Rattle.std.proofs.lemmas.Bool.{cond-true, cond-false, eq-eqb, ne_eqb}
use Rattle.lattice.specs.declared.class_sets.Classes.{Classes}
use Rattle.lattice.specs.declared.levels.Level.{Level}
use Rattle.lattice.specs.ClassSets.{classes_of}
use Rattle.lattice.specs.Levels.{level}
use Rattle.lattice.specs.Records.{little_endian, of_width, presence_of, parsed_presence, parsed_level, parsed_classes}
use Rattle.lattice.specs.SameValues.{same_level, same_classes}

little_1 : (bs : List ℕ) → length bs ≡ 1 → little_endian bs ≡ slice_index bs 0
little_1 [] e = omega arith
little_1 (a ∷ []) e = omega arith
little_1 (a ∷ b ∷ bs) e = omega arith

little_2 : (bs : List ℕ) → length bs ≡ 2 → little_endian bs ≡ slice_index bs 0 + slice_index bs 1 * 256
little_2 [] e = omega arith
little_2 (a ∷ bs) e = omega (arith, little_1 bs (omega arith))

little_4 : (bs : List ℕ) → length bs ≡ 4 → little_endian bs ≡ slice_index bs 0 + slice_index bs 1 * 256 + slice_index bs 2 * 65536 + slice_index bs 3 * 16777216
little_4 [] e = omega arith
little_4 (a ∷ []) e = omega arith
little_4 (a ∷ b ∷ bs) e = omega (arith, little_2 bs (omega arith))

-- a record of the right length
right_width : {K : Type 0} (w : ℕ) (value : ℕ → Option K) (bs : List ℕ) → length bs ≡ w → of_width w value bs ≡ value (little_endian bs)
right_width w value bs e = cond-true _ (value (little_endian bs)) None (eq-eqb _ _ e)

pub presence_read : (bs : List ℕ) → length bs ≡ 1 → parsed_presence bs ≡ presence_of (slice_index bs 0)
presence_read bs e = right_width 1 presence_of bs e ∙ ap presence_of (little_1 bs e)

pub no_presence : (n : ℕ) → 2 ≤ n → presence_of n ≡ None
no_presence n h = cond-false _ _ _ (ne_eqb n 0 (omega arith)) ∙ cond-false _ _ _ (ne_eqb n 1 (omega arith))

pub level_read : (x : Level) (bs : List ℕ) → length bs ≡ 2 → x.value ≡ slice_index bs 0 + slice_index bs 1 * 256 → Some x ≡ parsed_level bs
level_read x bs e is =
    ap Some (same_level x (level (little_endian bs)) (omega (arith, little_2 bs e, x.fits))) ∙ sym (right_width 2 (λ n. Some (level n)) bs e)

pub classes_read : (x : Classes) (bs : List ℕ) → length bs ≡ 4
    → x.bits ≡ slice_index bs 0 + slice_index bs 1 * 256 + slice_index bs 2 * 65536 + slice_index bs 3 * 16777216 → Some x ≡ parsed_classes bs
classes_read x bs e is =
    let same : x.bits ≡ little_endian bs % 2 ^ 32 = omega (arith, little_4 bs e, x.fits) in
    ap Some (same_classes x (classes_of (little_endian bs)) same) ∙ sym (right_width 4 (λ n. Some (classes_of n)) bs e)
