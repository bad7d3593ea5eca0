-- A text is accepted exactly where it belongs to the grammar, as its words.
use Rattle.std.proofs.Common.{◌≡◌, ℕ, zero, suc, ◌+◌, ◌<◌, ◌≤◌, true, false, ltb, List, [], ◌∷◌, ◌++◌, length, take, drop, sym, refl, ap, ◌∙◌, subst, ⊎_elim, append-nil, add-zero, arith, length-drop, take-append-drop}
use Rattle.std.proofs.lemmas.Bool.{cases_Bool, cond_both, cond-true, eq-eqb, eqb-true, ne_eqb, not_from_true, not_from_false, not-false, ltb-false}
use Rattle.refusal.specs.Reports.{Answer, accepted, refused}
use Rattle.refusal.specs.declared.Part.TheVariants as part
use Rattle.recipe.specs.declared.turns.Turn.{Turn}
use Rattle.recipe.specs.declared.turns.Turn.TheVariants.{Free, Held}
use Rattle.filters.specs.declared.families.Family.{Family}
use Rattle.filters.specs.declared.families.Family.TheVariants.{Dilation, Erosion, Opening, Closing, Alternate}
use Rattle.recipe.specs.declared.words.Word.{Word}
use Rattle.recipe.specs.declared.words.Word.TheVariants.{Step, Hold, Join, Meet, Forget}
use Rattle.recipe.specs.Grammar.{Digits, Number, letter, Spells, Spaces, Ends, SpellsAll, Text}
use Rattle.recipe.specs.Judging.{in_word, opens, word_run, before, runs, Progress, start, read_runs, ended, finished, judge}
use Rattle.recipe.specs.Legal.{Leads}
use Rattle.recipe.proofs.Answering.{not_accepted, same_value}
use Rattle.recipe.proofs.Meaning.{Means, read_means, means_read, leads_fits, fits_leads}
use Rattle.recipe.proofs.Running.{Inside, front_ends, run_word, run_next, judged}
use Rattle.recipe.proofs.Spelling.{word_spells, spells_word}

space : (b : ℕ) → b ≡ 32 → in_word b ≡ false
space b e = not_from_true _ (eq-eqb b 32 e)

digits_inside : (ds : List ℕ) → Digits ds → Inside ds
digits_inside [] h = tt
digits_inside (d ∷ ds) h = (not_from_false _ (ne_eqb d 32 (λ e. omega (arith, h.0))), digits_inside ds h.2)

number_inside : (ds : List ℕ) → Number ds → Inside ds
number_inside [] h = absurd h
number_inside (d ∷ ds) h = digits_inside (d ∷ ds) h.1

letter_inside : (f : Family) → in_word (letter f) ≡ true
letter_inside Dilation = refl
letter_inside Erosion = refl
letter_inside Opening = refl
letter_inside Closing = refl
letter_inside Alternate = refl

-- a word has bytes, and no space among them
abbrev pub WordBytes : List ℕ → Type 0
WordBytes bs = Inside bs × (0 < length bs)

spells_bytes : (w : Word) (bs : List ℕ) → Spells w bs → WordBytes bs
spells_bytes (Step f) bs s = subst WordBytes (sym s.is) ((letter_inside f.family, number_inside s.digits s.number), omega arith)
spells_bytes Hold bs s = subst WordBytes (sym s) ((refl, tt), omega arith)
spells_bytes Join bs s = subst WordBytes (sym s) ((refl, tt), omega arith)
spells_bytes Meet bs s = subst WordBytes (sym s) ((refl, tt), omega arith)
spells_bytes Forget bs s = subst WordBytes (sym s) ((refl, tt), omega arith)

pub ends_opens : (t : List ℕ) → Ends t → opens t ≡ false
ends_opens [] h = refl
ends_opens (b ∷ bs) h = space b h

pub opens_ends : (t : List ℕ) → opens t ≡ false → Ends t
opens_ends [] h = tt
opens_ends (b ∷ bs) h = eqb-true b 32 (not-false _ h)

runs_gap : (gap t : List ℕ) (at : ℕ) → Spaces gap → runs at (gap ++ t) ≡ runs (at + length gap) t
runs_gap [] t at h = ap (λ n. runs n t) (sym (add-zero at))
runs_gap (b ∷ gap) t at h =
    ap (λ x. before at b x (opens (gap ++ t)) (runs (at + 1) (gap ++ t))) (space b h.0)
    ∙ runs_gap gap t (at + 1) h.1
    ∙ ap (λ n. runs n t) (omega arith)

pub runs_word : (bs t : List ℕ) (at : ℕ) → WordBytes bs → opens t ≡ false → runs at (bs ++ t) ≡ record { place = at; bytes = bs } ∷ runs (at + length bs) t
runs_word [] t at h e = absurd (omega arith)
runs_word (b ∷ bs) t at h e = run_word at b bs t h.0 e

-- what a text spells is what its runs mean
pub spells_means : (ws : List Word) (text : List ℕ) (at : ℕ) → SpellsAll text ws → Means (runs at text) ws
spells_means [] text at h = subst (λ rs. Means rs []) (sym (ap (runs at) (sym (append-nil text)) ∙ runs_gap text [] at h)) tt
spells_means (w ∷ ws) text at h =
    let from = at + length h.gap in
    subst (λ rs. Means rs (w ∷ ws))
    (sym (ap (runs at) h.is ∙ runs_gap h.gap (h.bytes ++ h.rest) at h.spaces ∙ runs_word h.bytes h.rest from (spells_bytes w h.bytes h.spells) (ends_opens h.rest h.ends)))
    (spells_word from w h.bytes h.spells, spells_means ws h.rest (from + length h.bytes) h.left)

pub after_space : (b : ℕ) (text : List ℕ) (ws : List Word) → b ≡ 32 → SpellsAll text ws → SpellsAll (b ∷ text) ws
after_space b text [] e h = (e, h)
after_space b text (w ∷ ws) e h = record {
  gap = b ∷ h.gap;
  bytes = h.bytes;
  rest = h.rest;
  is = ap (λ t. b ∷ t) h.is;
  spaces = (e, h.spaces);
  spells = h.spells;
  ends = h.ends;
  left = h.left;
}

-- the first run is the first word
first_spells : (text : List ℕ) (at : ℕ) (ws : List Word) → opens text ≡ true → ((vs : List Word) → Means (runs (at + word_run text) (drop (word_run text) text)) vs → SpellsAll (drop (word_run text) text) vs) → Means (runs at text) ws → SpellsAll text ws
first_spells text at [] e later m = absurd (subst (λ rs. Means rs []) (run_next at text e) m)
first_spells text at (w ∷ ws) e later m =
    let m' = subst (λ rs. Means rs (w ∷ ws)) (run_next at text e) m in
    record {
      gap = [];
      bytes = take (word_run text) text;
      rest = drop (word_run text) text;
      is = sym (take-append-drop (word_run text) text);
      spaces = tt;
      spells = word_spells at (take (word_run text) text) w m'.0;
      ends = opens_ends _ (front_ends text);
      left = later ws m'.1;
    }

pub some_run : (b : ℕ) (bs : List ℕ) → in_word b ≡ true → 0 < word_run (b ∷ bs)
some_run b bs e = subst (λ n. 0 < n) (sym (cond-true (in_word b) (suc (word_run bs)) 0 e)) (omega arith)

means_spells_in : (n : ℕ) (text : List ℕ) (at : ℕ) (ws : List Word) → length text ≤ n → Means (runs at text) ws → SpellsAll text ws
means_spells_in n [] at [] short m = tt
means_spells_in n [] at (w ∷ ws) short m = absurd m
means_spells_in zero (b ∷ bs) at ws short m = absurd (omega arith)
means_spells_in (suc n) (b ∷ bs) at ws short m =
    ⊎_elim
    (λ e. first_spells (b ∷ bs) at ws e (λ vs. means_spells_in n (drop (word_run (b ∷ bs)) (b ∷ bs)) (at + word_run (b ∷ bs)) vs (omega (arith, some_run b bs e, length-drop (word_run (b ∷ bs)) (b ∷ bs)))) m)
    (λ e.
    after_space b bs ws (eqb-true b 32 (not-false _ e))
    (means_spells_in n bs (at + 1) ws (omega arith) (subst (λ rs. Means rs ws) (ap (λ x. before at b x (opens bs) (runs (at + 1) bs)) e) m)))
    (cases_Bool (in_word b))

pub means_spells : (text : List ℕ) (at : ℕ) (ws : List Word) → Means (runs at text) ws → SpellsAll text ws
means_spells text at ws m = means_spells_in (length text) text at ws (omega arith) m

module _ (text : List ℕ) (ws : List Word) (short : length text ≤ 4096) where
  on_turn : (p : Progress) (t : Turn) → p.turn ≡ t → read_runs (accepted start) (runs 0 text) ≡ accepted p → ended (length text) p.words t ≡ accepted ws → Text text ws
  on_turn p Held is h e = not_accepted e
  on_turn p Free is h e =
      let same : p.words ≡ ws = same_value e in
      let a = read_means (runs 0 text) start p (omega arith) h in
      subst (Text text) (sym a.adds ∙ same) (record {
        short = short;
        few = subst (λ l. length l ≤ 96) a.adds a.few;
        fit = leads_fits Free a.words (subst (Leads Free a.words) is a.leads);
        spells = means_spells text 0 a.words a.means;
      })

  on_read : (r : Answer Progress) → read_runs (accepted start) (runs 0 text) ≡ r → finished (length text) r ≡ accepted ws → Text text ws
  on_read (refused n at q) h e = not_accepted e
  on_read (accepted p) h e = on_turn p p.turn refl h e

pub accepted_text : (text : List ℕ) (ws : List Word) → judge text ≡ accepted ws → Text text ws
accepted_text text ws h =
    cond_both (ltb 4096 (length text)) (refused 12 0 part.Recipe) (finished (length text) (read_runs (accepted start) (runs 0 text))) (λ r. r ≡ accepted ws → Text text ws)
    (λ b e. not_accepted e)
    (λ b e. on_read text ws (ltb-false 4096 _ b) (read_runs (accepted start) (runs 0 text)) refl e)
    h

pub text_accepted : (text : List ℕ) (ws : List Word) → Text text ws → judge text ≡ accepted ws
text_accepted text ws t =
    sym (judged text (accepted (record { words = ws; turn = Free })) t.short
    (means_read (runs 0 text) ws start Free (spells_means ws text 0 t.spells) (fits_leads Free ws t.fit) (omega (arith, t.few))))
