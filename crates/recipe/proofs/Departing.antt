-- A wrong word is refused where it departs.
use Rattle.std.proofs.Common.{◌≡◌, ℕ, suc, ◌+◌, ◌<◌, ◌≤◌, true, ◌||◌, eqb, ltb, leb, List, [], ◌∷◌, ◌++◌, length, take, sym, refl, ap, ◌∙◌, subst, inl, inr, ⊎_elim, append-nil, add-zero, arith}
use Rattle.std.proofs.lemmas.Bool.{cond_both, cases_eq, eqb-true, eqb-false, leb-true, le-leb, ltb-true, and_parts, and_from, or_cases, both_ways}
use Rattle.refusal.specs.Reports.{Answer, accepted, refused}
use Rattle.refusal.specs.declared.Part.{Part}
use Rattle.refusal.specs.declared.Part.TheVariants as part
use Rattle.filters.specs.declared.families.Family.{Family}
use Rattle.filters.specs.declared.families.Family.TheVariants.{Dilation, Erosion, Opening, Closing, Alternate}
use Rattle.recipe.specs.Departs.{Alone, Departs}
use Rattle.recipe.specs.Grammar.{Digits, Number, letter}
use Rattle.recipe.specs.Shapes.{is_digit, digit_run, number_run, Parsed, step, hold, join, meet, forget, step_shape, alone_shape, first_shape, shape_of}
use Rattle.recipe.proofs.Answering.{not_refused}
use Rattle.recipe.proofs.Shaping.{front_within, pick}
use Rattle.recipe.proofs.Spelling.{number_run_whole, number_some}

digit_parts : (d : ℕ) → is_digit d ≡ true → (48 ≤ d) × (d ≤ 57)
digit_parts d e = let p = and_parts (leb 48 d) (leb d 57) e in (leb-true 48 d p.0, leb-true d 57 p.1)

digits_front : (ds : List ℕ) → Digits (take (digit_run ds) ds)
digits_front [] = tt
digits_front (d ∷ ds) =
    cond_both (is_digit d) (suc (digit_run ds)) 0 (λ n. Digits (take n (d ∷ ds)))
    (λ e. let p = digit_parts d e in (p.0, p.1, digits_front ds))
    (λ e. tt)

-- the bytes that belong to a number are one
number_front : (ds : List ℕ) → (number_run ds ≡ 0 → ⊥) → Number (take (number_run ds) ds)
number_front [] some = some refl
number_front (d ∷ ds) some =
    cond_both (eqb d 48) 0 (digit_run (d ∷ ds)) (λ n. (n ≡ 0 → ⊥) → Number (take n (d ∷ ds)))
    (λ e s. absurd (s refl))
    (λ e. cond_both (is_digit d) (suc (digit_run ds)) 0 (λ n. (n ≡ 0 → ⊥) → Number (take n (d ∷ ds)))
    (λ g s. let p = digit_parts d g in (eqb-false d 48 e, (p.0, p.1, digits_front ds)))
    (λ g s. absurd (s refl)))
    some

digits_stop : (ds rest : List ℕ) → digit_run ds < length ds → Digits (take (suc (digit_run ds)) ds ++ rest) → ⊥
digits_stop [] rest h n = omega arith
digits_stop (d ∷ ds) rest h n =
    cond_both (is_digit d) (suc (digit_run ds)) 0 (λ k. k < suc (length ds) → Digits (take (suc k) (d ∷ ds) ++ rest) → ⊥)
    (λ e l n. digits_stop ds rest (omega arith) n.2)
    (λ e l n. both_ways (is_digit d) e (and_from _ _ (le-leb 48 d n.0) (le-leb d 57 n.1)))
    h n

-- and with one byte more they are none
number_stop : (ds rest : List ℕ) → number_run ds < length ds → Number (take (suc (number_run ds)) ds ++ rest) → ⊥
number_stop [] rest h n = omega arith
number_stop (d ∷ ds) rest h n =
    cond_both (eqb d 48) 0 (digit_run (d ∷ ds)) (λ k. k < suc (length ds) → Number (take (suc k) (d ∷ ds) ++ rest) → ⊥)
    (λ e l n. n.0 (eqb-true d 48 e))
    (λ e l n. digits_stop (d ∷ ds) rest l n.1)
    h n

run_within : (ds : List ℕ) → number_run ds ≤ length ds
run_within [] = omega arith
run_within (d ∷ ds) = cond_both (eqb d 48) 0 (digit_run (d ∷ ds)) (λ n. n ≤ suc (length ds)) (λ e. omega arith) (λ e. front_within is_digit (d ∷ ds))

alone_apart : (b : ℕ) → Alone b → (f : Family) → b ≡ letter f → ⊥
alone_apart b a Dilation e = grind arith
alone_apart b a Erosion e = grind arith
alone_apart b a Opening e = grind arith
alone_apart b a Closing e = grind arith
alone_apart b a Alternate e = grind arith

-- a place in the word where it departs, and the refusal that names it
abbrev pub At : ℕ → List ℕ → ℕ → ℕ → Part → Type 0
At at bytes n place p = (k : ℕ) × (◌≡◌ {A = Answer Parsed} (refused n place p) (refused 13 (at + k) part.Word)) × Departs bytes k

by_letter : {b : ℕ} → (b ≡ 68 → ⊥) → (b ≡ 69 → ⊥) → (b ≡ 79 → ⊥) → (b ≡ 67 → ⊥) → (b ≡ 65 → ⊥) → (f : Family) → b ≡ letter f → ⊥
by_letter d e o c a Dilation = d
by_letter d e o c a Erosion = e
by_letter d e o c a Opening = o
by_letter d e o c a Closing = c
by_letter d e o c a Alternate = a

module _ (at b : ℕ) (bs : List ℕ) (n place : ℕ) (p : Part) where
  abbrev Good : Answer Parsed → Type 0
  Good r = r ≡ refused n place p → At at (b ∷ bs) n place p

  step_departs : (f : Family) → b ≡ letter f → Good (step_shape at f bs)
  step_departs f is =
      cond_both (eqb (number_run bs) 0 || ltb (number_run bs) (length bs)) (refused 13 (at + 1 + number_run bs) part.Word) (accepted (step f bs at)) Good
      (λ c h.
      let none : (Number bs → ⊥) = λ n. ⊎_elim
      (λ z. let y = eqb-true (number_run bs) 0 z in omega (arith, number_run_whole bs n, number_some bs n))
      (λ l. let y = ltb-true (number_run bs) (length bs) l in omega (arith, number_run_whole bs n))
      (or_cases (eqb (number_run bs) 0) (ltb (number_run bs) (length bs)) c) in
      let start : (more : List ℕ) × Number (take (number_run bs) bs ++ more) = ⊎_elim
      (λ z. (49 ∷ [], subst (λ n. Number (take n bs ++ 49 ∷ [])) (sym z) ((λ y. omega arith), (omega arith, omega arith, tt))))
      (λ s. ([], subst Number (sym (append-nil _)) (number_front bs s)))
      (cases_eq (number_run bs) 0) in (
        suc (number_run bs),
        sym h ∙ ap (λ m. refused 13 m part.Word) (omega arith),
        record {
          more = start.0;
          begins = inl (f, is, start.1);
          within = omega (arith, run_within bs);
          departs = λ l rest s. ⊎_elim (λ n. number_stop bs rest (omega arith) n.2) (λ a. alone_apart b a.0 f is) s;
          wrong = λ s. ⊎_elim (λ n. none n.2) (λ a. alone_apart b a.0 f is) s;
        },
      ))
      (λ c h. not_refused h)

  alone_departs : (s : Parsed) (cs : List ℕ) → bs ≡ cs → Alone b → Good (alone_shape at s cs)
  alone_departs s [] is a h = not_refused h
  alone_departs s (c ∷ cs) is a h = (
    1,
    sym h,
    subst (λ l. Departs (b ∷ l) 1) (sym is) (record {
      more = [];
      begins = inr (a, refl);
      within = omega arith;
      departs = λ l rest s. ⊎_elim (λ n. alone_apart b a n.0 n.1) (λ x. cc) s;
      wrong = λ s. ⊎_elim (λ n. alone_apart b a n.0 n.1) (λ x. cc) s;
    }),
  )

  -- a first byte that is no letter of a word
  none_departs : ((f : Family) → b ≡ letter f → ⊥) → (Alone b → ⊥) → Good (refused 13 at part.Word)
  none_departs no_step no_alone h = (
    0,
    sym h ∙ ap (λ m. refused 13 m part.Word) (sym (add-zero at)),
    record {
      more = 68 ∷ 49 ∷ [];
      begins = inl (Dilation, refl, ((λ y. omega arith), (omega arith, omega arith, tt)));
      within = omega arith;
      departs = λ l rest s. ⊎_elim (λ n. no_step n.0 n.1) (λ a. no_alone a.0) s;
      wrong = λ s. ⊎_elim (λ n. no_step n.0 n.1) (λ a. no_alone a.0) s;
    },
  )

  first_departs : Good (first_shape at b bs)
  first_departs =
      pick b 68 _ _ Good (step_departs Dilation) (λ no_d.
      pick b 69 _ _ Good (step_departs Erosion) (λ no_e.
      pick b 79 _ _ Good (step_departs Opening) (λ no_o.
      pick b 67 _ _ Good (step_departs Closing) (λ no_c.
      pick b 65 _ _ Good (step_departs Alternate) (λ no_a.
      pick b 72 _ _ Good (λ i. alone_departs (hold (b ∷ bs) at) bs refl (inl i)) (λ no_h.
      pick b 74 _ _ Good (λ i. alone_departs (join (b ∷ bs) at) bs refl (inr (inl i))) (λ no_j.
      pick b 77 _ _ Good (λ i. alone_departs (meet (b ∷ bs) at) bs refl (inr (inr (inl i)))) (λ no_m.
      pick b 70 _ _ Good (λ i. alone_departs (forget (b ∷ bs) at) bs refl (inr (inr (inr i)))) (λ no_f.
      none_departs (by_letter no_d no_e no_o no_c no_a) (λ a. ⊎_elim no_h (λ a. ⊎_elim no_j (λ a. ⊎_elim no_m no_f a) a) a))))))))))

pub shape_departs : (at : ℕ) (bytes : List ℕ) (n place : ℕ) (p : Part) → shape_of at bytes ≡ refused n place p → At at bytes n place p
shape_departs at [] n place p h = (
  0,
  sym h ∙ ap (λ m. refused 13 m part.Word) (sym (add-zero at)),
  record {
    more = 68 ∷ 49 ∷ [];
    begins = inl (Dilation, refl, ((λ y. omega arith), (omega arith, omega arith, tt)));
    within = omega arith;
    departs = λ l rest s. omega arith;
    wrong = λ s. s;
  },
)
shape_departs at (b ∷ bs) n place p h = first_departs at b bs n place p h
