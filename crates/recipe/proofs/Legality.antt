-- The words of every recipe, and of every text that is accepted, are legal.
use Rattle.std.proofs.Common.{◌≡◌, ℕ, zero, suc, ◌<◌, true, List, [], ◌∷◌, length, get_or, arith}
use Rattle.std.proofs.lemmas.Bool.{and_parts}
use Rattle.refusal.specs.Reports.{accepted}
use Rattle.recipe.specs.declared.recipes.Recipe.{Recipe}
use Rattle.recipe.specs.declared.turns.Turn.TheVariants.{Free}
use Rattle.recipe.specs.declared.words.Word.{Word}
use Rattle.recipe.specs.Contents.{recipe_words}
use Rattle.recipe.specs.Judging.{judge, runs}
use Rattle.recipe.specs.Legal.{Leads, size_fits, sizes_fit, Legal}
use Rattle.recipe.proofs.Meaning.{means_sizes, fits_leads}
use Rattle.recipe.proofs.Accepting.{accepted_text, spells_means}

pub judge_legal : (text : List ℕ) (ws : List Word) → judge text ≡ accepted ws → Legal ws
judge_legal text ws h =
    let t = accepted_text text ws h in
    record {
      few = t.few;
      sizes = means_sizes (runs 0 text) ws (spells_means ws text 0 t.spells);
      fit = t.fit;
    }

pub recipe_legal : (recipe : Recipe) → Legal (recipe_words recipe)
recipe_legal recipe = recipe.legal

-- legal words lead from a free turn to a free one
pub legal_leads : (ws : List Word) → Legal ws → Leads Free ws Free
legal_leads ws legal = fits_leads Free ws legal.fit

sizes_at : (ws : List Word) (i : ℕ) (d : Word) → i < length ws → sizes_fit ws ≡ true → size_fits (get_or ws i d) ≡ true
sizes_at [] i d h e = absurd (omega arith)
sizes_at (w ∷ ws) zero d h e = (and_parts (size_fits w) (sizes_fit ws) e).0
sizes_at (w ∷ ws) (suc i) d h e = sizes_at ws i d (omega arith) (and_parts (size_fits w) (sizes_fit ws) e).1

-- each size among legal words is 1 to 200
pub legal_size : (ws : List Word) (i : ℕ) (d : Word) → Legal ws → i < length ws → size_fits (get_or ws i d) ≡ true
legal_size ws i d legal h = sizes_at ws i d h legal.sizes
