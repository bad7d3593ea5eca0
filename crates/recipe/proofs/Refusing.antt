-- A refused text has a word at fault.
use Rattle.std.proofs.Common.{◌≡◌, ℕ, zero, suc, ◌+◌, ◌<◌, ◌≤◌, true, false, ◌||◌, eqb, ltb, leb, List, [], ◌∷◌, ◌++◌, length, take, drop, Some, None, Option, sym, refl, ap, ◌∙◌, subst, ⊎_elim, append_assoc, append-nil, add-zero, arith, length-append, length-drop, take-append-drop}
use Rattle.std.proofs.lemmas.List.{length_push, length-take-le}
use Rattle.std.proofs.lemmas.Bool.{cases_Bool, cond_both, eqb-true, leb-true, leb-false, ltb-true, ltb-false, or_cases, not-false, not-true, eq-eqb, both_ways}
use Rattle.refusal.specs.Reports.{Answer, accepted, refused}
use Rattle.refusal.specs.declared.Part.{Part}
use Rattle.refusal.specs.declared.Part.TheVariants as part
use Rattle.recipe.specs.declared.turns.Turn.{Turn}
use Rattle.recipe.specs.declared.turns.Turn.TheVariants.{Free, Held}
use Rattle.recipe.specs.declared.words.Word.{Word}
use Rattle.recipe.specs.Grammar.{Spells, Ends}
use Rattle.recipe.specs.Judging.{in_word, opens, word_run, Run, before, runs, Progress, start, admitted_word, turned_to, read_runs, ended, finished, judge}
use Rattle.recipe.specs.Legal.{Leads}
use Rattle.recipe.specs.Refused.{NoSpace, Separated, Fault, wrong_shape, wrong_size, too_many, out_of_turn, FirstFault, Refused, too_long, at_word, still_held}
use Rattle.recipe.specs.Shapes.{numeral, Parsed, step, hold, join, meet, forget, shape_of, sized, sized_shape, word_of, step_of}
use Rattle.recipe.specs.Turns.{turned}
use Rattle.recipe.proofs.Answering.{same_refusal, not_refused}
use Rattle.recipe.proofs.Departing.{shape_departs}
use Rattle.recipe.proofs.Meaning.{read_means}
use Rattle.recipe.proofs.Running.{Inside, front_ends, front_inside, run_next, refused_stays}
use Rattle.recipe.proofs.Accepting.{after_space, some_run, opens_ends, means_spells}
use Rattle.recipe.proofs.Shaping.{front_within}
use Rattle.recipe.proofs.Spelling.{word_spells, shape_step}

inside_no_space : (bs : List ℕ) → Inside bs → NoSpace bs
inside_no_space [] h = tt
inside_no_space (b ∷ bs) h = ((λ e. both_ways _ (not-true _ h.0) (eq-eqb b 32 e)), inside_no_space bs h.1)

-- a word that is refused by itself
size_fault : (ws : List Word) (t : Turn) (at : ℕ) (bytes : List ℕ) (s : Parsed) (n place : ℕ) (q : Part) → shape_of at bytes ≡ accepted s → sized s ≡ refused n place q → Fault ws t at bytes n place q
size_fault ws t at bytes (step f ds at') n place q is h =
    let shape = shape_step at bytes f ds at' is in
    cond_both (eqb (numeral 0 ds) 0 || ltb 200 (numeral 0 ds)) (refused 11 at' part.Word) (accepted (step_of f (numeral 0 ds))) (λ r. r ≡ refused n place q → Fault ws t at bytes n place q)
    (λ z g.
    same_refusal (Fault ws t at bytes) g (subst (λ m. Fault ws t at bytes 11 m part.Word) (sym shape.2) (wrong_size (record {
      family = f;
      digits = ds;
      is = shape.0;
      number = shape.1;
      size = λ low high. ⊎_elim (λ x. let y = eqb-true _ 0 x in omega arith) (λ x. let y = ltb-true 200 _ x in omega arith) (or_cases (eqb (numeral 0 ds) 0) (ltb 200 (numeral 0 ds)) z);
    }))))
    (λ z g. not_refused g)
    h
size_fault ws t at bytes (hold bs at') n place q is h = not_refused h
size_fault ws t at bytes (join bs at') n place q is h = not_refused h
size_fault ws t at bytes (meet bs at') n place q is h = not_refused h
size_fault ws t at bytes (forget bs at') n place q is h = not_refused h

word_fault : (ws : List Word) (t : Turn) (at : ℕ) (bytes : List ℕ) (r : Answer Parsed) (n place : ℕ) (q : Part) → shape_of at bytes ≡ r → sized_shape r ≡ refused n place q → Fault ws t at bytes n place q
word_fault ws t at bytes (accepted s) n place q is h = size_fault ws t at bytes s n place q is h
word_fault ws t at bytes (refused m p r) n place q is h =
    let d = shape_departs at bytes m p r is in
    same_refusal (Fault ws t at bytes) h (same_refusal (Fault ws t at bytes) (sym d.1) (wrong_shape d.0 d.2))

moved : (ws ws' : List Word) (t : Turn) (at at' : ℕ) (bytes : List ℕ) (n place : ℕ) (q : Part) → ws ≡ ws' → at ≡ at' → Fault ws t at bytes n place q → Fault ws' t at' bytes n place q
moved ws ws' t at at' bytes n place q same here f = subst (λ m. Fault ws' t m bytes n place q) here (subst (λ l. Fault l t at bytes n place q) same f)

separated_space : (b : ℕ) (front : List ℕ) → b ≡ 32 → Separated front → Separated (b ∷ front)
separated_space b [] e h = e
separated_space b (c ∷ cs) e h = h

separated_append : (xs ys : List ℕ) → 0 < length ys → Separated ys → Separated (xs ++ ys)
separated_append [] ys some h = h
separated_append (x ∷ []) [] some h = absurd (omega arith)
separated_append (x ∷ []) (y ∷ ys) some h = h
separated_append (x ∷ z ∷ xs) ys some h = separated_append (z ∷ xs) ys some h

-- what stands between a word and the next begins with a space
front_space : (front bytes rest text : List ℕ) → text ≡ front ++ (bytes ++ rest) → opens text ≡ false → 0 < length bytes → NoSpace bytes → (0 < length front) × Ends front
front_space [] [] rest text is shut some solid = absurd (omega arith)
front_space [] (b ∷ bs) rest text is shut some solid = absurd (solid.0 (eqb-true b 32 (not-false _ (sym (ap opens is) ∙ shut))))
front_space (c ∷ cs) bytes rest text is shut some solid = (omega arith, eqb-true c 32 (not-false _ (sym (ap opens is) ∙ shut)))

skip_space : (b : ℕ) (text : List ℕ) (at : ℕ) (p : Progress) (n place : ℕ) (q : Part) → b ≡ 32 → FirstFault (at + 1) p.words p.turn text n place q → FirstFault at p.words p.turn (b ∷ text) n place q
skip_space b text at p n place q is h = record {
  front = b ∷ h.front;
  bytes = h.bytes;
  rest = h.rest;
  is = ap (λ l. b ∷ l) h.is;
  separated = separated_space b h.front is h.separated;
  nonempty = h.nonempty;
  no_space = h.no_space;
  ends = h.ends;
  words = h.words;
  few = h.few;
  spells = after_space b h.front h.words is h.spells;
  then = h.then;
  leads = h.leads;
  fault = moved _ _ _ _ _ h.bytes n place q refl (omega arith) h.fault;
}

-- over the first word of a text
module _ (b : ℕ) (bs : List ℕ) (at : ℕ) (p : Progress) (n place : ℕ) (q : Part) (starts : in_word b ≡ true) where
  abbrev text : List ℕ
  text = b ∷ bs

  abbrev word : List ℕ
  word = take (word_run text) text

  abbrev left : List ℕ
  left = drop (word_run text) text

  long : length word ≡ word_run text
  long = length-take-le (word_run text) text (front_within in_word text)

  here : length p.words ≤ 96 → Fault p.words p.turn at word n place q → FirstFault at p.words p.turn text n place q
  here few f = record {
    front = [];
    bytes = word;
    rest = left;
    is = sym (take-append-drop (word_run text) text);
    separated = tt;
    nonempty = omega (arith, long, some_run b bs starts);
    no_space = inside_no_space word (front_inside text);
    ends = opens_ends left (front_ends text);
    words = [];
    few = omega (arith, length-append {A = Word} p.words []);
    spells = tt;
    then = p.turn;
    leads = refl;
    fault = moved _ _ _ _ _ word n place q (sym (append-nil p.words)) (sym (add-zero at)) f;
  }

  skip_word : (w : Word) (t : Turn) → Spells w word → turned p.turn w ≡ Some t → FirstFault (at + word_run text) (p.words ++ w ∷ []) t left n place q → FirstFault at p.words p.turn text n place q
  skip_word w t spells turns h =
      let gap = front_space h.front h.bytes h.rest left h.is (front_ends text) h.nonempty h.no_space in
      record {
        front = word ++ h.front;
        bytes = h.bytes;
        rest = h.rest;
        is = sym (take-append-drop (word_run text) text) ∙ ap (λ l. word ++ l) h.is ∙ sym (append_assoc word h.front (h.bytes ++ h.rest));
        separated = separated_append word h.front gap.0 h.separated;
        nonempty = h.nonempty;
        no_space = h.no_space;
        ends = h.ends;
        words = w ∷ h.words;
        few = subst (λ l. length l ≤ 96) (append_assoc p.words (w ∷ []) h.words) h.few;
        spells = record { gap = []; bytes = word; rest = h.front; is = refl; spaces = tt; spells = spells; ends = gap.1; left = h.spells };
        then = h.then;
        leads = (t, turns, h.leads);
        fault = moved _ _ _ _ _ h.bytes n place q (append_assoc p.words (w ∷ []) h.words) (omega (arith, long, length-append word h.front)) h.fault;
      }

  module _ (few : length p.words ≤ 96) (later : (p' : Progress) → length p'.words ≤ 96 → read_runs (accepted p') (runs (at + word_run text) left) ≡ refused n place q → FirstFault (at + word_run text) p'.words p'.turn left n place q) where
    abbrev others : List Run
    others = runs (at + word_run text) left

    on_turn : (w : Word) (o : Option Turn) → Spells w word → length p.words < 96 → turned p.turn w ≡ o → read_runs (turned_to at w p o) others ≡ refused n place q → FirstFault at p.words p.turn text n place q
    on_turn w None spells room is h =
        here few (same_refusal (Fault p.words p.turn at word) (sym (refused_stays 15 at part.Recipe others) ∙ h) (out_of_turn w spells room is))
    on_turn w (Some t) spells room is h = skip_word w t spells is (later (record { words = p.words ++ w ∷ []; turn = t }) (omega (arith, length_push p.words w)) h)

    on_word : (v : Answer Word) → word_of at word ≡ v → read_runs (admitted_word at v p) others ≡ refused n place q → FirstFault at p.words p.turn text n place q
    on_word (refused m at' r) is h =
        here few (same_refusal (Fault p.words p.turn at word) (sym (refused_stays m at' r others) ∙ h) (word_fault p.words p.turn at word (shape_of at word) m at' r refl is))
    on_word (accepted w) is h =
        let spells = word_spells at word w is in
        cond_both (leb 96 (length p.words)) (refused 14 at part.Recipe) (turned_to at w p (turned p.turn w)) (λ a. read_runs a others ≡ refused n place q → FirstFault at p.words p.turn text n place q)
        (λ c g.
        here few (same_refusal (Fault p.words p.turn at word) (sym (refused_stays 14 at part.Recipe others) ∙ g) (too_many w spells (omega (arith, leb-true 96 _ c)))))
        (λ c g. on_turn w (turned p.turn w) spells (leb-false 96 _ c) refl g)
        h

fault_in : (fuel : ℕ) (text : List ℕ) (at : ℕ) (p : Progress) (n place : ℕ) (q : Part) → length text ≤ fuel → length p.words ≤ 96 → read_runs (accepted p) (runs at text) ≡ refused n place q → FirstFault at p.words p.turn text n place q
fault_in fuel [] at p n place q short few h = not_refused h
fault_in zero (b ∷ bs) at p n place q short few h = absurd (omega arith)
fault_in (suc fuel) (b ∷ bs) at p n place q short few h =
    ⊎_elim
    (λ starts.
    on_word b bs at p n place q starts few
    (λ p' few'. fault_in fuel (drop (word_run (b ∷ bs)) (b ∷ bs)) (at + word_run (b ∷ bs)) p' n place q (omega (arith, some_run b bs starts, length-drop (word_run (b ∷ bs)) (b ∷ bs))) few')
    (word_of at (take (word_run (b ∷ bs)) (b ∷ bs))) refl
    (sym (ap (read_runs (accepted p)) (run_next at (b ∷ bs) starts)) ∙ h))
    (λ space.
    skip_space b bs at p n place q (eqb-true b 32 (not-false _ space))
    (fault_in fuel bs (at + 1) p n place q (omega arith) few (sym (ap (λ x. read_runs (accepted p) (before at b x (opens bs) (runs (at + 1) bs))) space) ∙ h)))
    (cases_Bool (in_word b))

module _ (text : List ℕ) (n place : ℕ) (q : Part) (short : length text ≤ 4096) where
  at_end : (p : Progress) (t : Turn) → p.turn ≡ t → read_runs (accepted start) (runs 0 text) ≡ accepted p → ended (length text) p.words t ≡ refused n place q → Refused text n place q
  at_end p Free is h g = not_refused g
  at_end p Held is h g =
      let a = read_means (runs 0 text) start p (omega arith) h in
      same_refusal (Refused text) g (still_held short (record {
        words = a.words;
        spells = means_spells text 0 a.words a.means;
        few = subst (λ l. length l ≤ 96) a.adds a.few;
        leads = subst (Leads Free a.words) is a.leads;
      }))

  by_answer : (r : Answer Progress) → read_runs (accepted start) (runs 0 text) ≡ r → finished (length text) r ≡ refused n place q → Refused text n place q
  by_answer (refused m at r) h g = same_refusal (Refused text) g (at_word short (fault_in (length text) text 0 start m at r (omega arith) (omega arith) h))
  by_answer (accepted p) h g = at_end p p.turn refl h g

pub refused_why : (text : List ℕ) (n place : ℕ) (q : Part) → judge text ≡ refused n place q → Refused text n place q
refused_why text n place q h =
    cond_both (ltb 4096 (length text)) (refused 12 0 part.Recipe) (finished (length text) (read_runs (accepted start) (runs 0 text))) (λ r. r ≡ refused n place q → Refused text n place q)
    (λ c g. same_refusal (Refused text) g (too_long (ltb-true 4096 _ c)))
    (λ c g. by_answer text n place q (ltb-false 4096 _ c) (read_runs (accepted start) (runs 0 text)) refl g)
    h
