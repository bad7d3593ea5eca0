-- A text as its parts between the spaces, and what is read of them.
use Rattle.std.proofs.Common.{◌≡◌, ℕ, suc, ◌+◌, ◌<◌, ◌≤◌, Bool, true, false, eqb, List, [], ◌∷◌, ◌++◌, length, get_or, drop, not, sym, refl, ap, ◌∙◌, subst, arith}
use Rattle.std.specs.List.{slice_split, onto_first}
use Rattle.std.proofs.lemmas.List.{drop_more, at_drop_all}
use Rattle.std.proofs.lemmas.List.Splits.{length-slice_split}
use Rattle.std.proofs.lemmas.Bool.{cond_both}
use Rattle.refusal.specs.Reports.{accepted}
use Rattle.recipe.specs.Judging.{in_word, opens, Run, before, runs, Progress, start, admitted_word, read_runs}
use Rattle.recipe.specs.Shapes.{word_of}

abbrev pub is_space : ℕ → Bool
is_space b = eqb b 32

abbrev pub parts : List ℕ → List (List ℕ)
parts text = slice_split is_space text

-- the run that a part is, if it has bytes
abbrev part_run : ℕ → List ℕ → List Run
part_run at [] = []
part_run at (b ∷ bs) = record { place = at; bytes = b ∷ bs } ∷ []

-- the runs of parts, the first of which begins at a place
abbrev pub part_runs : ℕ → List (List ℕ) → List Run
part_runs at [] = []
part_runs at (x ∷ xs) = part_run at x ++ part_runs (at + length x + 1) xs

-- how many bytes the parts have, with a space after each
abbrev pub span : List (List ℕ) → ℕ
span [] = 0
span (x ∷ xs) = length x + 1 + span xs

abbrev first_some : List (List ℕ) → Bool
first_some [] = false
first_some ([] ∷ xs) = false
first_some ((b ∷ bs) ∷ xs) = true

onto_some : (b : ℕ) (xs : List (List ℕ)) → first_some (onto_first b xs) ≡ true
onto_some b [] = refl
onto_some b (x ∷ xs) = refl

parts_open : (bs : List ℕ) → opens bs ≡ first_some (parts bs)
parts_open [] = refl
parts_open (c ∷ cs) =
    cond_both (is_space c) ([] ∷ parts cs) (onto_first c (parts cs)) (λ l. in_word c ≡ first_some l)
    (λ e. ap not e)
    (λ e. ap not e ∙ sym (onto_some c (parts cs)))

onto_runs : (at b : ℕ) (xs : List (List ℕ)) → before at b true (first_some xs) (part_runs (at + 1) xs) ≡ part_runs at (onto_first b xs)
onto_runs at b [] = refl
onto_runs at b ([] ∷ xs) = ap (λ n. record { place = at; bytes = b ∷ [] } ∷ part_runs n xs) (omega arith)
onto_runs at b ((c ∷ cs) ∷ xs) = ap (λ n. record { place = at; bytes = b ∷ c ∷ cs } ∷ part_runs n xs) (omega arith)

pub runs_parts : (text : List ℕ) (at : ℕ) → runs at text ≡ part_runs at (parts text)
runs_parts [] at = refl
runs_parts (b ∷ bs) at =
    cond_both (is_space b) ([] ∷ parts bs) (onto_first b (parts bs)) (λ l. runs at (b ∷ bs) ≡ part_runs at l)
    (λ e. ap (λ x. before at b x (opens bs) (runs (at + 1) bs)) (ap not e) ∙ runs_parts bs (at + 1) ∙ ap (λ n. part_runs n (parts bs)) (omega arith))
    (λ e.
    ap (λ x. before at b x (opens bs) (runs (at + 1) bs)) (ap not e)
    ∙ (λ i. before at b true (parts_open bs i) (runs_parts bs (at + 1) i))
    ∙ onto_runs at b (parts bs))

onto_span : (b : ℕ) (xs : List (List ℕ)) → 0 < length xs → span (onto_first b xs) ≡ span xs + 1
onto_span b [] some = absurd (omega arith)
onto_span b (x ∷ xs) some = omega arith

pub span_parts : (text : List ℕ) → span (parts text) ≡ length text + 1
span_parts [] = refl
span_parts (b ∷ bs) =
    cond_both (is_space b) ([] ∷ parts bs) (onto_first b (parts bs)) (λ l. span l ≡ suc (length bs) + 1)
    (λ e. omega (arith, span_parts bs))
    (λ e. omega (arith, span_parts bs, onto_span b (parts bs) (omega (arith, length-slice_split is_space bs))))

-- what is left to read of a text from its part n on, which begins at a place
pub record Left (text : List ℕ) (p : Progress) (at n : ℕ) : Type 0 where
  pub spans : at + span (drop n (parts text)) ≡ length text + 1
  pub reads : read_runs (accepted p) (part_runs at (drop n (parts text))) ≡ read_runs (accepted start) (runs 0 text)

pub moved : {text : List ℕ} {p q : Progress} {at at' n n' : ℕ} → Left text p at n → p ≡ q → at ≡ at' → n ≡ n' → Left text q at' n'
moved {text} {p} {q} {at} {at'} {n} {n'} l e f g = subst (λ x. Left text q at' x) g (subst (λ x. Left text q x n) f (subst (λ x. Left text x at n) e l))

pub all_left : (text : List ℕ) → Left text start 0 0
all_left text = record {
  spans = omega (arith, span_parts text);
  reads = ap (read_runs (accepted start)) (sym (runs_parts text 0));
}

none_read : (p : Progress) (at : ℕ) (w : List ℕ) (later : List Run) → length w ≡ 0 → read_runs (accepted p) (part_run at w ++ later) ≡ read_runs (accepted p) later
none_read p at [] later e = refl
none_read p at (b ∷ bs) later e = absurd (omega arith)

word_read : (p : Progress) (at : ℕ) (w : List ℕ) (later : List Run) → 0 < length w → read_runs (accepted p) (part_run at w ++ later) ≡ read_runs (admitted_word at (word_of at w) p) later
word_read p at [] later some = absurd (omega arith)
word_read p at (b ∷ bs) later some = refl

-- one part
module _ {text : List ℕ} {p : Progress} {at n : ℕ} (left : Left text p at n) (w : List ℕ) (here : n < length (parts text)) (is : w ≡ get_or (parts text) n w) where
  first_left : drop n (parts text) ≡ w ∷ drop (n + 1) (parts text)
  first_left = drop_more (parts text) n w here ∙ ap (λ x. x ∷ drop (n + 1) (parts text)) (sym is)

  abbrev pub later : List Run
  later = part_runs (at + length w + 1) (drop (n + 1) (parts text))

  pub within : at + length w ≤ length text
  within = omega (arith, left.spans, ap span first_left)

  spans_later : at + length w + 1 + span (drop (n + 1) (parts text)) ≡ length text + 1
  spans_later = omega (arith, left.spans, ap span first_left)

  read_here : read_runs (accepted p) (part_run at w ++ later) ≡ read_runs (accepted start) (runs 0 text)
  read_here = ap (λ l. read_runs (accepted p) (part_runs at l)) (sym first_left) ∙ left.reads

  pub over_none : length w ≡ 0 → Left text p (at + length w + 1) (n + 1)
  over_none e = record { spans = spans_later; reads = sym (none_read p at w later e) ∙ read_here }

  pub over_word : 0 < length w → read_runs (admitted_word at (word_of at w) p) later ≡ read_runs (accepted start) (runs 0 text)
  over_word some = sym (word_read p at w later some) ∙ read_here

  pub after_word : (q : Progress) → 0 < length w → accepted q ≡ admitted_word at (word_of at w) p → Left text q (at + length w + 1) (n + 1)
  after_word q some e = record { spans = spans_later; reads = ap (λ a. read_runs a later) e ∙ over_word some }

-- no part is left
pub none_left : {text : List ℕ} {p : Progress} {at n : ℕ} → Left text p at n → length (parts text) ≤ n → read_runs (accepted start) (runs 0 text) ≡ accepted p
none_left {text} {p} {at} {n} left h = sym left.reads ∙ at_drop_all (λ l. read_runs (accepted p) (part_runs at l)) (parts text) n h
