-- The words of a recipe come to the same with a held buffer, whatever it holds as they begin. Assumes nothing.
use Rattle.std.proofs.Common.{◌≡◌, ℕ, ◌≤◌, true, List, [], ◌∷◌, length, drop, sym, refl, ap, ◌∙◌}
use Rattle.std.proofs.lemmas.List.{drop_all}
use mathlib.Core.Bool.{false≢true}
use Rattle.lattice.specs.Lattices.{Operations}
use Rattle.graph.specs.Shapes.{Shape}
use Rattle.filters.specs.Weightings.{Weighting, blank, filtered}
use Rattle.recipe.specs.Legal.{fits, Legal}
use Rattle.recipe.specs.declared.turns.Turn.{Turn}
use Rattle.recipe.specs.declared.turns.Turn.TheVariants.{Free, Held}
use Rattle.recipe.specs.declared.words.Word.{Word}
use Rattle.recipe.specs.declared.words.Word.TheVariants.{Step, Hold, Join, Meet, Forget}
use Rattle.stories.specs.Words.{Pair, combined, nothing, done, pair, words_done}
use Rattle.stories.proofs.Running.{held_in}

module _ {K : Type 0} (k : Operations K) (g : Shape) where
  buffer_done : (t : Turn) (ws : List Word) (w h : Weighting K) → fits t ws ≡ true → (words_done k g ws (pair w h)).weights ≡ done k g ws w (held_in t h)
  buffer_done t [] w h f = refl
  buffer_done Free (Step x ∷ ws) w h f = buffer_done Free ws (filtered k g x w) h f
  buffer_done Free (Hold ∷ ws) w h f = buffer_done Held ws w w f
  buffer_done Free (Join ∷ ws) w h f = absurd (false≢true f)
  buffer_done Free (Meet ∷ ws) w h f = absurd (false≢true f)
  buffer_done Free (Forget ∷ ws) w h f = absurd (false≢true f)
  buffer_done Held (Step x ∷ ws) w h f = buffer_done Held ws (filtered k g x w) h f
  buffer_done Held (Hold ∷ ws) w h f = absurd (false≢true f)
  buffer_done Held (Join ∷ ws) w h f = buffer_done Free ws (combined k.join w h) (blank k h) f
  buffer_done Held (Meet ∷ ws) w h f = buffer_done Free ws (combined k.meet w h) (blank k h) f
  buffer_done Held (Forget ∷ ws) w h f = buffer_done Free ws w (blank k h) f

  -- no word of a recipe is left
  pub recipe_done : (ws : List Word) (i : ℕ) (now start : Pair K) → Legal ws → length ws ≤ i → words_done k g (drop i ws) now ≡ words_done k g ws start
      → now.weights ≡ done k g ws start.weights nothing
  recipe_done ws i now start legal past left =
      ap (λ p. p.weights) (sym (ap (λ vs. words_done k g vs now) (drop_all i ws past)) ∙ left) ∙ buffer_done Free ws start.weights start.held legal.fit
