-- A text with a word at fault is refused for that word.
use Rattle.std.proofs.Common.{◌≡◌, ℕ, suc, ◌+◌, ◌<◌, Bool, true, false, ◌||◌, eqb, ltb, leb, List, [], ◌∷◌, ◌++◌, length, take, drop, sym, refl, ap, ◌∙◌, subst, inl, inr, ⊎_elim, append_assoc, add-zero, arith, take-append-drop}
use Rattle.std.proofs.lemmas.List.{take-take}
use Rattle.std.proofs.lemmas.Bool.{cases_Bool, cases_order, cond-true, cond-false, eq-eqb, ne_eqb, le-leb, lt-leb, lt-ltb, le-ltb, or_from, or_left, or_right, not_from_true, not_from_false, cases_eq, cases_lt}
use Rattle.refusal.specs.Reports.{Answer, accepted, refused}
use Rattle.refusal.specs.declared.Part.{Part}
use Rattle.refusal.specs.declared.Part.TheVariants as part
use Rattle.recipe.specs.declared.turns.Turn.TheVariants.{Free, Held}
use Rattle.recipe.specs.declared.words.Word.TheVariants.{Hold, Join, Meet, Forget}
use Rattle.recipe.specs.Departs.{Shaped, Departs}
use Rattle.recipe.specs.Judging.{in_word, opens, Run, before, runs, Progress, start, admitted_word, turned_to, read_run, read_runs, judge}
use Rattle.recipe.specs.Refused.{NoSpace, Separated, SizeOutside, Fault, wrong_shape, wrong_size, too_many, out_of_turn, FirstFault, Refused, too_long, at_word, still_held}
use Rattle.recipe.specs.Shapes.{numeral, number_run, Parsed, step, hold, join, meet, forget, shape_of, sized_shape, word_of}
use Rattle.recipe.proofs.Departing.{shape_departs}
use Rattle.recipe.proofs.Meaning.{means_read}
use Rattle.recipe.proofs.Running.{Inside, run_next, refused_stays, judged}
use Rattle.recipe.proofs.Accepting.{ends_opens, runs_word, spells_means}
use Rattle.recipe.proofs.Spelling.{word_spells, spells_word, shape_step, letter_shape, number_run_whole, number_some}

-- the runs before a word and from it on
before_append : (at b : ℕ) (x y : Bool) (r : Run) (rs ts : List Run) → before at b x y ((r ∷ rs) ++ ts) ≡ before at b x y (r ∷ rs) ++ ts
before_append at b false y r rs ts = refl
before_append at b true false r rs ts = refl
before_append at b true true r rs ts = refl

before_shut : (at b : ℕ) (x : Bool) (rs ts : List Run) → before at b x false (rs ++ ts) ≡ before at b x false rs ++ ts
before_shut at b false rs ts = refl
before_shut at b true rs ts = refl

runs_separated : (front tail : List ℕ) (at : ℕ) → Separated front → runs at (front ++ tail) ≡ runs at front ++ runs (at + length front) tail
runs_separated [] tail at h = ap (λ n. runs n tail) (sym (add-zero at))
runs_separated (b ∷ []) tail at h =
    let shut : in_word b ≡ false = not_from_true _ (eq-eqb b 32 h) in
    ap (λ x. before at b x (opens tail) (runs (at + 1) tail)) shut ∙ ap (λ x. before at b x false [] ++ runs (at + 1) tail) (sym shut)
runs_separated (b ∷ c ∷ cs) tail at h =
    let later = runs_separated (c ∷ cs) tail (at + 1) h in
    let far : List Run = runs (at + 1 + length (c ∷ cs)) tail in
    ap (before at b (in_word b) (in_word c)) later
    ∙ ⊎_elim
    (λ e.
    let first = run_next (at + 1) (c ∷ cs) e in
    ap (λ l. before at b (in_word b) (in_word c) (l ++ far)) first
    ∙ before_append at b (in_word b) (in_word c) _ _ far
    ∙ ap (λ l. before at b (in_word b) (in_word c) l ++ far) (sym first))
    (λ e.
    ap (λ x. before at b (in_word b) x (runs (at + 1) (c ∷ cs) ++ far)) e
    ∙ before_shut at b (in_word b) (runs (at + 1) (c ∷ cs)) far
    ∙ ap (λ x. before at b (in_word b) x (runs (at + 1) (c ∷ cs)) ++ far) (sym e))
    (cases_Bool (in_word c))
    ∙ ap (λ n. runs at (b ∷ c ∷ cs) ++ runs n tail) (omega arith)

read_append : (q : Answer Progress) (xs ys : List Run) → read_runs q (xs ++ ys) ≡ read_runs (read_runs q xs) ys
read_append q [] ys = refl
read_append q (x ∷ xs) ys = read_append (read_run q x) xs ys

no_space_inside : (bs : List ℕ) → NoSpace bs → Inside bs
no_space_inside [] h = tt
no_space_inside (b ∷ bs) h = (not_from_false _ (ne_eqb b 32 h.0), no_space_inside bs h.1)

-- a word departs at one place only
once_below : (bytes : List ℕ) (j k : ℕ) → Departs bytes j → Departs bytes k → j < k → ⊥
once_below bytes j k d e less =
    d.departs (omega (arith, e.within)) (drop (suc j) (take k bytes) ++ e.more)
    (subst Shaped
    (ap (λ l. l ++ e.more) (sym (take-append-drop (suc j) (take k bytes)) ∙ ap (λ l. l ++ drop (suc j) (take k bytes)) (take-take (suc j) k bytes (omega arith)))
    ∙ append_assoc (take (suc j) bytes) (drop (suc j) (take k bytes)) e.more)
    e.begins)

departs_once : (bytes : List ℕ) (j k : ℕ) → Departs bytes j → Departs bytes k → j ≡ k
departs_once bytes j k d e =
    ⊎_elim (λ h. h) (λ h. ⊎_elim (λ l. absurd (once_below bytes j k d e l)) (λ l. absurd (once_below bytes k j e d l)) h) (cases_order j k)

ok_shaped : (at : ℕ) (bytes : List ℕ) (s : Parsed) → shape_of at bytes ≡ accepted s → Shaped bytes
ok_shaped at bytes (step f ds at') h = let s = shape_step at bytes f ds at' h in subst Shaped (sym s.0) (inl (f, refl, s.1))
ok_shaped at bytes (hold bs at') h = subst Shaped (sym (word_spells at bytes Hold (ap sized_shape h))) (inr (inl refl, refl))
ok_shaped at bytes (join bs at') h = subst Shaped (sym (word_spells at bytes Join (ap sized_shape h))) (inr (inr (inl refl), refl))
ok_shaped at bytes (meet bs at') h = subst Shaped (sym (word_spells at bytes Meet (ap sized_shape h))) (inr (inr (inr (inl refl)), refl))
ok_shaped at bytes (forget bs at') h = subst Shaped (sym (word_spells at bytes Forget (ap sized_shape h))) (inr (inr (inr (inr refl)), refl))

departs_shape : (at : ℕ) (bytes : List ℕ) (k : ℕ) (r : Answer Parsed) → Departs bytes k → shape_of at bytes ≡ r → sized_shape r ≡ refused 13 (at + k) part.Word
departs_shape at bytes k (accepted s) d h = absurd (d.wrong (ok_shaped at bytes s h))
departs_shape at bytes k (refused n place q) d h =
    let a = shape_departs at bytes n place q h in
    ap sized_shape a.1 ∙ ap (λ m. refused 13 (at + m) part.Word) (departs_once bytes a.0 k a.2 d)

outside_word : (at : ℕ) (bytes : List ℕ) → SizeOutside bytes → word_of at bytes ≡ refused 11 at part.Word
outside_word at bytes s =
    let ds = s.digits in
    let run = number_run_whole ds s.number in
    let some = number_some ds s.number in
    let wrong : (eqb (numeral 0 ds) 0 || ltb 200 (numeral 0 ds)) ≡ true = ⊎_elim
    (λ z. or_left _ _ (eq-eqb (numeral 0 ds) 0 z))
    (λ z. or_right _ _ (lt-ltb 200 (numeral 0 ds) (⊎_elim (λ l. l) (λ l. absurd (s.size (⊎_elim (λ y. y) (λ y. absurd (z (omega arith))) (cases_lt 0 (numeral 0 ds))) l)) (cases_lt 200 (numeral 0 ds)))))
    (cases_eq (numeral 0 ds) 0) in
    ap (word_of at) s.is
    ∙ ap sized_shape (letter_shape at s.family ds)
    ∙ ap sized_shape (cond-false (eqb (number_run ds) 0 || ltb (number_run ds) (length ds)) _ _ (or_from _ _ (ne_eqb (number_run ds) 0 (λ z. omega arith)) (le-ltb (number_run ds) (length ds) (omega arith))))
    ∙ cond-true (eqb (numeral 0 ds) 0 || ltb 200 (numeral 0 ds)) _ _ wrong

-- a word at fault is refused
fault_read : (p : Progress) (at : ℕ) (bytes : List ℕ) (n place : ℕ) (q : Part) → Fault p.words p.turn at bytes n place q → read_run (accepted p) (record { place = at; bytes = bytes }) ≡ refused n place q
fault_read p at bytes n place q (wrong_shape k d) = ap (λ v. admitted_word at v p) (departs_shape at bytes k (shape_of at bytes) d refl)
fault_read p at bytes n place q (wrong_size s) = ap (λ v. admitted_word at v p) (outside_word at bytes s)
fault_read p at bytes n place q (too_many w spells full) =
    ap (λ v. admitted_word at v p) (spells_word at w bytes spells)
    ∙ cond-true (leb 96 (length p.words)) _ _ (le-leb 96 _ (omega (arith, full)))
fault_read p at bytes n place q (out_of_turn w spells room none) =
    ap (λ v. admitted_word at v p) (spells_word at w bytes spells)
    ∙ cond-false (leb 96 (length p.words)) _ _ (lt-leb 96 _ room)
    ∙ ap (turned_to at w p) none

first_read : (text : List ℕ) (n place : ℕ) (q : Part) → FirstFault 0 [] Free text n place q → read_runs (accepted start) (runs 0 text) ≡ refused n place q
first_read text n place q h =
    let p : Progress = record { words = h.words; turn = h.then } in
    let at : ℕ = 0 + length h.front in
    let far : List Run = runs (at + length h.bytes) h.rest in
    ap (λ l. read_runs (accepted start) (runs 0 l)) h.is
    ∙ ap (read_runs (accepted start)) (runs_separated h.front (h.bytes ++ h.rest) 0 h.separated)
    ∙ read_append (accepted start) (runs 0 h.front) (runs at (h.bytes ++ h.rest))
    ∙ ap (λ q. read_runs q (runs at (h.bytes ++ h.rest))) (means_read (runs 0 h.front) h.words start h.then (spells_means h.words h.front 0 h.spells) h.leads (omega (arith, h.few)))
    ∙ ap (read_runs (accepted p)) (runs_word h.bytes h.rest at (no_space_inside h.bytes h.no_space, h.nonempty) (ends_opens h.rest h.ends))
    ∙ ap (λ q. read_runs q far) (fault_read p at h.bytes n place q h.fault)
    ∙ refused_stays n place q far

pub refused_judge : (text : List ℕ) (n place : ℕ) (q : Part) → Refused text n place q → judge text ≡ refused n place q
refused_judge text n place q (too_long h) = cond-true (ltb 4096 (length text)) _ _ (lt-ltb 4096 _ h)
refused_judge text n place q (at_word short h) = sym (judged text (refused n place q) short (first_read text n place q h))
refused_judge text n place q (still_held short u) =
    sym (judged text (accepted (record { words = u.words; turn = Held })) short
    (means_read (runs 0 text) u.words start Held (spells_means u.words text 0 u.spells) u.leads (omega (arith, u.few))))
