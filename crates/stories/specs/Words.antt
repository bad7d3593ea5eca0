-- What the words of a recipe make of the weights of a graph. Assumes nothing.
use Rattle.std.specs.Prelude.{List, [], ◌∷◌}
use Rattle.lattice.specs.Lattices.{Operations}
use Rattle.graph.specs.Shapes.{Shape}
use Rattle.filters.specs.Weightings.{Weighting, weighting, filtered, blank}
use Rattle.recipe.specs.declared.words.Word.{Word}
use Rattle.recipe.specs.declared.words.Word.TheVariants.{Step, Hold, Join, Meet, Forget}

-- op at each place of two lists
abbrev pub each : {K : Type 0} → (K → K → K) → List K → List K → List K
each op [] ys = []
each op (x ∷ xs) [] = []
each op (x ∷ xs) (y ∷ ys) = op x y ∷ each op xs ys

-- at each place the join, or the meet, of its weight and the held one
abbrev pub combined : {K : Type 0} → (K → K → K) → Weighting K → Weighting K → Weighting K
combined op w h = weighting (each op w.vertices h.vertices) (each op w.edges h.edges)

-- what is held
pub data Held (K : Type 0) : Type 0 where
  nothing : Held K
  something : Weighting K → Held K

-- in a recipe a join or a meet never comes with nothing held
abbrev pub combined_held : {K : Type 0} → (K → K → K) → Weighting K → Held K → Weighting K
combined_held op w nothing = w
combined_held op w (something h) = combined op w h

-- the weights after words are done in order, with what is held as they begin
abbrev pub done : {K : Type 0} → Operations K → Shape → List Word → Weighting K → Held K → Weighting K
done k g [] w h = w
done k g (Step f ∷ ws) w h = done k g ws (filtered k g f w) h
done k g (Hold ∷ ws) w h = done k g ws w (something w)
done k g (Join ∷ ws) w h = done k g ws (combined_held k.join w h) nothing
done k g (Meet ∷ ws) w h = done k g ws (combined_held k.meet w h) nothing
done k g (Forget ∷ ws) w h = done k g ws w nothing

-- the weights, and what a held buffer holds beside them
pub record Pair (K : Type 0) : Type 0 where
  pub weights : Weighting K
  pub held : Weighting K

abbrev pub pair : {K : Type 0} → Weighting K → Weighting K → Pair K
pair w h = record { weights = w; held = h }

-- one word with a held buffer: a hold copies the weights over what stands there, whatever that is
abbrev pub word_done : {K : Type 0} → Operations K → Shape → Word → Pair K → Pair K
word_done k g (Step f) p = pair (filtered k g f p.weights) p.held
word_done k g Hold p = pair p.weights p.weights
word_done k g Join p = pair (combined k.join p.weights p.held) (blank k p.held)
word_done k g Meet p = pair (combined k.meet p.weights p.held) (blank k p.held)
word_done k g Forget p = pair p.weights (blank k p.held)

-- words in order with a held buffer, which is all lowest where nothing is held at the end
abbrev pub words_done : {K : Type 0} → Operations K → Shape → List Word → Pair K → Pair K
words_done k g [] p = p
words_done k g (w ∷ ws) p = words_done k g ws (word_done k g w p)
