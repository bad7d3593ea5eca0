-- A word is read exactly where it is spelt.
use Rattle.std.proofs.Common.{◌≡◌, ℕ, suc, ◌<◌, ◌≤◌, ◌||◌, eqb, ltb, leb, List, [], ◌∷◌, length, sym, refl, ap, ◌∙◌, subst, arith}
use Rattle.std.proofs.lemmas.Bool.{cond_both, cond-true, cond-false, eqb-false, leb-true, ltb-false, and_parts, and_from, or_parts, or_from, le-leb, le-ltb, ne_eqb}
use Rattle.refusal.specs.Reports.{Answer, accepted, refused}
use Rattle.refusal.specs.declared.Part.TheVariants as part
use Rattle.filters.specs.declared.families.Family.{Family}
use Rattle.filters.specs.declared.families.Family.TheVariants.{Dilation, Erosion, Opening, Closing, Alternate}
use Rattle.recipe.specs.declared.words.Word.{Word}
use Rattle.recipe.specs.declared.words.Word.TheVariants.{Step, Hold, Join, Meet, Forget}
use Rattle.recipe.specs.Grammar.{Digits, Number, letter, Spells}
use Rattle.recipe.specs.Shapes.{is_digit, digit_run, number_run, numeral, Parsed, step, hold, join, meet, forget, step_shape, alone_shape, first_shape, shape_of, sized, sized_shape, word_of, step_of}
use Rattle.recipe.proofs.Answering.{not_accepted, same_value}
use Rattle.recipe.proofs.Shaping.{pick}

digits_from : (ds : List ℕ) → length ds ≤ digit_run ds → Digits ds
digits_from [] h = tt
digits_from (d ∷ ds) h =
    cond_both (is_digit d) (suc (digit_run ds)) 0 (λ n. suc (length ds) ≤ n → Digits (d ∷ ds))
    (λ e l. let p = and_parts (leb 48 d) (leb d 57) e in (leb-true 48 d p.0, leb-true d 57 p.1, digits_from ds (omega arith)))
    (λ e l. absurd (omega arith))
    h

number_from : (ds : List ℕ) → (number_run ds ≡ 0 → ⊥) → length ds ≤ number_run ds → Number ds
number_from [] some h = some refl
number_from (d ∷ ds) some h =
    cond_both (eqb d 48) 0 (digit_run (d ∷ ds)) (λ n. (n ≡ 0 → ⊥) → suc (length ds) ≤ n → Number (d ∷ ds))
    (λ e s l. absurd (s refl))
    (λ e s l. (eqb-false d 48 e, digits_from (d ∷ ds) l))
    some h

digits_run : (ds : List ℕ) → Digits ds → digit_run ds ≡ length ds
digits_run [] h = refl
digits_run (d ∷ ds) h = cond-true (is_digit d) (suc (digit_run ds)) 0 (and_from _ _ (le-leb 48 d h.0) (le-leb d 57 h.1)) ∙ ap suc (digits_run ds h.2)

pub number_run_whole : (ds : List ℕ) → Number ds → number_run ds ≡ length ds
number_run_whole [] h = absurd h
number_run_whole (d ∷ ds) h = cond-false (eqb d 48) 0 (digit_run (d ∷ ds)) (ne_eqb d 48 h.0) ∙ digits_run (d ∷ ds) h.1

pub number_some : (ds : List ℕ) → Number ds → 0 < length ds
number_some [] h = absurd h
number_some (d ∷ ds) h = omega arith

-- a step that is read is spelt
step_spells : (at : ℕ) (f : Family) (ds : List ℕ) (w : Word) (b : ℕ) → b ≡ letter f → sized_shape (step_shape at f ds) ≡ accepted w → Spells w (b ∷ ds)
step_spells at f ds w b is h =
    cond_both (eqb (number_run ds) 0 || ltb (number_run ds) (length ds)) (refused 13 _ part.Word) (accepted (step f ds at)) (λ r. sized_shape r ≡ accepted w → Spells w (b ∷ ds))
    (λ e g. not_accepted g)
    (λ e. cond_both (eqb (numeral 0 ds) 0 || ltb 200 (numeral 0 ds)) (refused 11 at part.Word) (accepted (step_of f (numeral 0 ds))) (λ r. r ≡ accepted w → Spells w (b ∷ ds))
    (λ z g. not_accepted g)
    (λ z g.
    let same : step_of f (numeral 0 ds) ≡ w = same_value g in
    let shape = or_parts (eqb (number_run ds) 0) (ltb (number_run ds) (length ds)) e in
    let size = or_parts (eqb (numeral 0 ds) 0) (ltb 200 (numeral 0 ds)) z in
    let some : numeral 0 ds ≡ 0 → ⊥ = eqb-false _ 0 size.0 in
    subst (λ v. Spells v (b ∷ ds)) same (record {
      digits = ds;
      is = ap (λ x. x ∷ ds) is;
      number = number_from ds (eqb-false _ 0 shape.0) (ltb-false _ _ shape.1);
      value = refl;
      low = omega arith;
      high = ltb-false 200 _ size.1;
    })))
    h

-- a letter that is read stands alone
alone_only : (at : ℕ) (s : Parsed) (bs : List ℕ) (v w : Word) → sized s ≡ accepted v → sized_shape (alone_shape at s bs) ≡ accepted w → (bs ≡ []) × (v ≡ w)
alone_only at s [] v w e h = (refl, same_value (sym e ∙ h))
alone_only at s (b ∷ bs) v w e h = not_accepted h

module _ (at b : ℕ) (bs : List ℕ) (w : Word) where
  abbrev Good : Answer Parsed → Type 0
  Good r = sized_shape r ≡ accepted w → Spells w (b ∷ bs)

  first_spells : Good (first_shape at b bs)
  first_spells =
      pick b 68 _ _ Good (step_spells at Dilation bs w b)
      (λ no. pick b 69 _ _ Good (step_spells at Erosion bs w b)
      (λ no. pick b 79 _ _ Good (step_spells at Opening bs w b)
      (λ no. pick b 67 _ _ Good (step_spells at Closing bs w b)
      (λ no. pick b 65 _ _ Good (step_spells at Alternate bs w b)
      (λ no. pick b 72 _ _ Good (λ e h. let o = alone_only at (hold (b ∷ bs) at) bs Hold w refl h in subst (λ v. Spells v (b ∷ bs)) o.1 (λ i. e i ∷ o.0 i))
      (λ no. pick b 74 _ _ Good (λ e h. let o = alone_only at (join (b ∷ bs) at) bs Join w refl h in subst (λ v. Spells v (b ∷ bs)) o.1 (λ i. e i ∷ o.0 i))
      (λ no. pick b 77 _ _ Good (λ e h. let o = alone_only at (meet (b ∷ bs) at) bs Meet w refl h in subst (λ v. Spells v (b ∷ bs)) o.1 (λ i. e i ∷ o.0 i))
      (λ no. pick b 70 _ _ Good (λ e h. let o = alone_only at (forget (b ∷ bs) at) bs Forget w refl h in subst (λ v. Spells v (b ∷ bs)) o.1 (λ i. e i ∷ o.0 i))
      (λ no h. not_accepted h)))))))))

pub word_spells : (at : ℕ) (bs : List ℕ) (w : Word) → word_of at bs ≡ accepted w → Spells w bs
word_spells at [] w h = not_accepted h
word_spells at (b ∷ bs) w h = first_spells at b bs w h

pub letter_shape : (at : ℕ) (f : Family) (ds : List ℕ) → shape_of at (letter f ∷ ds) ≡ step_shape at f ds
letter_shape at Dilation ds = refl
letter_shape at Erosion ds = refl
letter_shape at Opening ds = refl
letter_shape at Closing ds = refl
letter_shape at Alternate ds = refl

pub spells_word : (at : ℕ) (w : Word) (bs : List ℕ) → Spells w bs → word_of at bs ≡ accepted w
spells_word at (Step f) bs s =
    let run = number_run_whole s.digits s.number in
    let some = number_some s.digits s.number in
    ap (word_of at) s.is
    ∙ ap sized_shape (letter_shape at f.family s.digits)
    ∙ ap sized_shape (cond-false (eqb (number_run s.digits) 0 || ltb (number_run s.digits) (length s.digits)) _ _ (or_from _ _ (ne_eqb (number_run s.digits) 0 (λ z. omega arith)) (le-ltb (number_run s.digits) (length s.digits) (omega arith))))
    ∙ cond-false (eqb (numeral 0 s.digits) 0 || ltb 200 (numeral 0 s.digits)) _ _ (or_from _ _ (ne_eqb (numeral 0 s.digits) 0 (λ z. omega (arith, s.value, s.low))) (le-ltb 200 (numeral 0 s.digits) (omega (arith, s.value, s.high))))
    ∙ ap (λ v. accepted (step_of f.family v)) s.value
spells_word at Hold bs s = ap (word_of at) s
spells_word at Join bs s = ap (word_of at) s
spells_word at Meet bs s = ap (word_of at) s
spells_word at Forget bs s = ap (word_of at) s

-- a step of a right shape is a letter and a number
module _ (at b : ℕ) (bs : List ℕ) (f : Family) (ds : List ℕ) (at' : ℕ) where
  abbrev IsStep : Answer Parsed → Type 0
  IsStep r = r ≡ accepted (step f ds at') → (b ∷ bs ≡ letter f ∷ ds) × Number ds × (at' ≡ at)

  of_step : (g : Family) → b ≡ letter g → IsStep (step_shape at g bs)
  of_step g is =
      cond_both (eqb (number_run bs) 0 || ltb (number_run bs) (length bs)) (refused 13 _ part.Word) (accepted (step g bs at)) IsStep
      (λ z h. not_accepted h)
      (λ z h.
      let same : step g bs at ≡ step f ds at' = same_value h in
      let same_filter : g ≡ f = cc in
      let same_digits : bs ≡ ds = cc in
      let same_place : at' ≡ at = cc in
      let shape = or_parts (eqb (number_run bs) 0) (ltb (number_run bs) (length bs)) z in
      (λ i. (is ∙ ap letter same_filter) i ∷ same_digits i, subst Number same_digits (number_from bs (eqb-false _ 0 shape.0) (ltb-false _ _ shape.1)), same_place))

  of_alone : (s : Parsed) (cs : List ℕ) → (s ≡ step f ds at' → ⊥) → IsStep (alone_shape at s cs)
  of_alone s [] apart h = absurd (apart (same_value h))
  of_alone s (c ∷ cs) apart h = not_accepted h

  first_step : IsStep (first_shape at b bs)
  first_step =
      pick b 68 _ _ IsStep (of_step Dilation)
      (λ no. pick b 69 _ _ IsStep (of_step Erosion)
      (λ no. pick b 79 _ _ IsStep (of_step Opening)
      (λ no. pick b 67 _ _ IsStep (of_step Closing)
      (λ no. pick b 65 _ _ IsStep (of_step Alternate)
      (λ no. pick b 72 _ _ IsStep (λ e. of_alone (hold (b ∷ bs) at) bs (λ h. cc))
      (λ no. pick b 74 _ _ IsStep (λ e. of_alone (join (b ∷ bs) at) bs (λ h. cc))
      (λ no. pick b 77 _ _ IsStep (λ e. of_alone (meet (b ∷ bs) at) bs (λ h. cc))
      (λ no. pick b 70 _ _ IsStep (λ e. of_alone (forget (b ∷ bs) at) bs (λ h. cc))
      (λ no h. not_accepted h)))))))))

pub shape_step : (at : ℕ) (bytes : List ℕ) (f : Family) (ds : List ℕ) (at' : ℕ) → shape_of at bytes ≡ accepted (step f ds at') → (bytes ≡ letter f ∷ ds) × Number ds × (at' ≡ at)
shape_step at [] f ds at' h = not_accepted h
shape_step at (b ∷ bs) f ds at' h = first_step at b bs f ds at' h

-- every letter is one byte of text
pub letter_ascii : (f : Family) → letter f < 128
letter_ascii Dilation = omega arith
letter_ascii Erosion = omega arith
letter_ascii Opening = omega arith
letter_ascii Closing = omega arith
letter_ascii Alternate = omega arith
