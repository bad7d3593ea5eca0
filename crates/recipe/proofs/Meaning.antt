-- What a run of the reader means.
use Rattle.std.proofs.Common.{◌≡◌, ◌+◌, ◌<◌, ◌≤◌, true, ◌||◌, eqb, ltb, leb, List, [], ◌∷◌, ◌++◌, length, Some, None, Option, sym, refl, ap, ◌∙◌, subst, append_assoc, append-nil, arith}
use Rattle.std.proofs.lemmas.List.{length_push}
use Rattle.std.proofs.lemmas.Bool.{cond_both, leb-false, cond-false, lt-leb, and_from}
use Rattle.std.proofs.lemmas.Bool.Decides.{nat_tests}
use Rattle.refusal.specs.Reports.{Answer, accepted, refused}
use Rattle.refusal.specs.declared.Part.TheVariants as part
use Rattle.recipe.specs.declared.turns.Turn.{Turn}
use Rattle.recipe.specs.declared.turns.Turn.TheVariants.{Free, Held}
use Rattle.recipe.specs.declared.words.Word.{Word}
use Rattle.recipe.specs.Legal.{is_free, if_turn, fits, size_fits, sizes_fit, Leads, Legal}
use Rattle.recipe.specs.Judging.{Run, Progress, start, admitted_word, turned_to, read_runs}
use Rattle.recipe.specs.Shapes.{Parsed, step, hold, join, meet, forget, shape_of, word_of, sized_shape, sized, numeral, step_of}
use Rattle.recipe.specs.Turns.{turned}
use Rattle.recipe.proofs.Answering.{not_accepted, same_value}
use Rattle.recipe.proofs.Running.{refused_stays}

-- the runs are these words
abbrev pub Means : List Run → List Word → Type 0
Means [] [] = Unit {0}
Means [] (w ∷ ws) = ⊥
Means (r ∷ rs) [] = ⊥
Means (r ∷ rs) (w ∷ ws) = (word_of r.place r.bytes ≡ accepted w) × Means rs ws

pub record Added (p : Progress) (rs : List Run) (q : Progress) : Type 0 where
  pub words : List Word
  pub means : Means rs words
  pub adds : q.words ≡ p.words ++ words
  pub leads : Leads p.turn words q.turn
  pub few : length q.words ≤ 96

-- the ways that a run can be taken, over what the later runs mean
module _ (p q : Progress) (r : Run) (rs : List Run) (later : (p' : Progress) → length p'.words ≤ 96 → read_runs (accepted p') rs ≡ accepted q → Added p' rs q) where
  on_turn : (w : Word) (o : Option Turn) → word_of r.place r.bytes ≡ accepted w → length p.words < 96 → turned p.turn w ≡ o → read_runs (turned_to r.place w p o) rs ≡ accepted q → Added p (r ∷ rs) q
  on_turn w None is room e h = not_accepted (sym (refused_stays 15 r.place part.Recipe rs) ∙ h)
  on_turn w (Some t) is room e h =
      let a = later (record { words = p.words ++ w ∷ []; turn = t }) (omega (arith, length_push p.words w)) h in
      record {
        words = w ∷ a.words;
        means = (is, a.means);
        adds = a.adds ∙ append_assoc p.words (w ∷ []) a.words;
        leads = (t, e, a.leads);
        few = a.few;
      }

  on_word : (v : Answer Word) → word_of r.place r.bytes ≡ v → read_runs (admitted_word r.place v p) rs ≡ accepted q → Added p (r ∷ rs) q
  on_word (refused n at e) is h = not_accepted (sym (refused_stays n at e rs) ∙ h)
  on_word (accepted w) is h =
      cond_both (leb 96 (length p.words)) (refused 14 r.place part.Recipe) (turned_to r.place w p (turned p.turn w)) (λ a. read_runs a rs ≡ accepted q → Added p (r ∷ rs) q)
      (λ b h'. not_accepted (sym (refused_stays 14 r.place part.Recipe rs) ∙ h'))
      (λ b h'. on_turn w (turned p.turn w) is (leb-false 96 _ b) refl h')
      h

pub read_means : (rs : List Run) (p q : Progress) → length p.words ≤ 96 → read_runs (accepted p) rs ≡ accepted q → Added p rs q
read_means [] p q few h =
    let same : p ≡ q = same_value h in
    record {
      words = [];
      means = tt;
      adds = ap (λ x. x.words) (sym same) ∙ sym (append-nil p.words);
      leads = ap (λ x. x.turn) same;
      few = subst (λ x. length x.words ≤ 96) same few;
    }
read_means (r ∷ rs) p q few h = on_word p q r rs (λ p'. read_means rs p' q) (word_of r.place r.bytes) refl h

pub means_read : (rs : List Run) (ws : List Word) (p : Progress) (u : Turn) → Means rs ws → Leads p.turn ws u → length p.words + length ws ≤ 96 → read_runs (accepted p) rs ≡ accepted (record { words = p.words ++ ws; turn = u })
means_read [] [] p u m l few = λ i. accepted (record { words = sym (append-nil p.words) i; turn = l i })
means_read [] (w ∷ ws) p u m l few = absurd m
means_read (r ∷ rs) [] p u m l few = absurd m
means_read (r ∷ rs) (w ∷ ws) p u m l few =
    ap (λ v. read_runs (admitted_word r.place v p) rs) m.0
    ∙ ap (λ a. read_runs a rs) (cond-false (leb 96 (length p.words)) (refused 14 r.place part.Recipe) (turned_to r.place w p (turned p.turn w)) (lt-leb 96 _ (omega arith)))
    ∙ ap (λ o. read_runs (turned_to r.place w p o) rs) l.1
    ∙ means_read rs ws (record { words = p.words ++ w ∷ []; turn = l.0 }) u m.1 l.2 (omega (arith, length_push p.words w))
    ∙ ap (λ ws'. accepted (record { words = ws'; turn = u })) (append_assoc p.words (w ∷ []) ws)

pub leads_fits : (t : Turn) (ws : List Word) → Leads t ws Free → fits t ws ≡ true
leads_fits t [] l = ap is_free l
leads_fits t (w ∷ ws) l = ap (λ o. if_turn o (λ next. fits next ws)) l.1 ∙ leads_fits l.0 ws l.2

free_only : (t : Turn) → is_free t ≡ true → t ≡ Free
free_only Free e = refl
free_only Held e = absurd (cc)

fits_leads_by : (t : Turn) (w : Word) (ws : List Word) (o : Option Turn) → ((next : Turn) → fits next ws ≡ true → Leads next ws Free) → turned t w ≡ o → if_turn o (λ next. fits next ws) ≡ true → Leads t (w ∷ ws) Free
fits_leads_by t w ws None later is h = absurd (cc)
fits_leads_by t w ws (Some next) later is h = (next, is, later next h)

pub fits_leads : (t : Turn) (ws : List Word) → fits t ws ≡ true → Leads t ws Free
fits_leads t [] e = free_only t e
fits_leads t (w ∷ ws) e = fits_leads_by t w ws (turned t w) (λ next. fits_leads next ws) refl e

sized_fits : (s : Parsed) (w : Word) → sized s ≡ accepted w → size_fits w ≡ true
sized_fits (step f ds at) w e =
    cond_both (eqb (numeral 0 ds) 0 || ltb 200 (numeral 0 ds)) (refused 11 at part.Word) (accepted (step_of f (numeral 0 ds))) (λ r. r ≡ accepted w → size_fits w ≡ true)
    (λ b h. not_accepted h)
    (λ b h. let same : step_of f (numeral 0 ds) ≡ w = same_value h in ap size_fits (sym same) ∙ grind (arith, nat_tests))
    e
sized_fits (hold bs at) w e = ap size_fits (sym (same_value e))
sized_fits (join bs at) w e = ap size_fits (sym (same_value e))
sized_fits (meet bs at) w e = ap size_fits (sym (same_value e))
sized_fits (forget bs at) w e = ap size_fits (sym (same_value e))

word_fits : (r : Answer Parsed) (w : Word) → sized_shape r ≡ accepted w → size_fits w ≡ true
word_fits (accepted s) w e = sized_fits s w e
word_fits (refused n at p) w e = not_accepted e

pub means_sizes : (rs : List Run) (ws : List Word) → Means rs ws → sizes_fit ws ≡ true
means_sizes [] [] m = refl
means_sizes [] (w ∷ ws) m = absurd m
means_sizes (r ∷ rs) [] m = absurd m
means_sizes (r ∷ rs) (w ∷ ws) m = and_from _ _ (word_fits (shape_of r.place r.bytes) w m.0) (means_sizes rs ws m.1)

-- what is read to the end with nothing held makes a recipe
pub sound : (rs : List Run) (p : Progress) → read_runs (accepted start) rs ≡ accepted p → p.turn ≡ Free → Legal p.words
sound rs p h free =
    let a = read_means rs start p (omega arith) h in
    record {
      few = a.few;
      sizes = ap sizes_fit a.adds ∙ means_sizes rs a.words a.means;
      fit = ap (fits Free) a.adds ∙ leads_fits Free a.words (subst (Leads Free a.words) free a.leads);
    }
