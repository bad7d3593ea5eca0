-- What holds of every story, on every graph that is accepted. Assumes nothing.
use Rattle.std.specs.Prelude.{◌≡◌, ℕ, ◌≤◌, ◌↔◌, List, ◌∷◌, map}
use Rattle.refusal.specs.Reports.{accepted, refused, Verdict}
use Rattle.refusal.specs.declared.Part.{Part}
use Rattle.lattice.specs.Lattices.{Operations}
use Rattle.graph.specs.Shapes.{Shape, Accepted}
use Rattle.filters.specs.Relations.{filter, Below, read_by}
use Rattle.filters.specs.Calls.{outcome, filter_call}
use Rattle.algebra.specs.Laws.{largest, last_of, NeverFalls}
use Rattle.filters.specs.Weightings.{Weighting, Fits, blank, filtered}
use Rattle.filters.specs.declared.families.Family.{Family}
use Rattle.filters.specs.declared.families.Family.TheVariants.{Dilation, Erosion, Opening, Closing, Alternate}
use Rattle.recipe.specs.declared.words.Word.{Word}
use Rattle.stories.specs.Stories.{State, clear, Lengths, Call, run, Transition, Trace, Takes, Fitting, weights_of, place_of, read_state, call_of, accepted_words, Only, sizes_of}

-- Each call that the state takes is answered, with buffers of whatever lengths, and leaves what fits: a story can always go on.
abbrev pub CallsAnswered : {K : Type 0} → Operations K → Type 0
CallsAnswered {K} k = (g : Shape) → Accepted g → (x : State K) (c : Call) → Fitting g x → Takes x c → (a : Verdict) × ((y : State K) × (Transition k g x c a y × Fitting g y))

-- A refused call leaves the sheet as it was.
abbrev pub RefusalsChangeNothing : {K : Type 0} → Operations K → Type 0
RefusalsChangeNothing {K} k = (g : Shape) → Accepted g → (x y : State K) (c : Call) (number place : ℕ) (part : Part) → Transition k g x c (refused number place part) y → y ≡ x

-- A recipe runs as its words in order: the weights that an accepted run leaves are those that a call for each word that it puts
-- into the recipe place leaves, one after the other, every one accepted.
abbrev pub RunsGoWordByWord : {K : Type 0} → Operations K → Type 0
RunsGoWordByWord {K} k = (g : Shape) → Accepted g → (w : Weighting K) (r : List Word) (text : List ℕ) (p q t : Lengths) (y : State K) → Fits g w →
    Transition k g (clear w r) (run text p q t) (accepted tt) y →
    Trace k g (clear w r) (map (call_of g) (place_of y)) (map (λ _. accepted tt) (place_of y)) (clear (weights_of y) r)

-- (a) Two sheets on one graph begin with the same recipe in their places, and the second with the readings of the first's
-- weights. A story of the first is a story of the second, with the same answers, and leaves the second as the reading of the
-- first; and whatever its calls are passed as scratch, it has these answers and leaves that.
abbrev pub StoriesCommute : {K L : Type 0} → Operations K → Operations L → (K → L) → Type 0
StoriesCommute {K} {L} k l read = (g : Shape) → Accepted g → (w : Weighting K) (r : List Word) (story : List Call) (answers : List Verdict) (x : State K) →
    Fits g w → Trace k g (clear w r) story answers x →
    Trace l g (clear (read_by read w) r) story answers (read_state read x)
    × ((others : List Verdict) (y : State L) → Trace l g (clear (read_by read w) r) story others y → (others ≡ answers) × (y ≡ read_state read x))

-- some story leaves these weights
pub record Reached {K : Type 0} (k : Operations K) (g : Shape) (w : Weighting K) : Type 0 where
  pub start : Weighting K
  pub fits : Fits g start
  pub place : List Word
  pub story : List Call
  pub answers : List Verdict
  pub last : State K
  pub trace : Trace k g (clear start place) story answers last
  pub leaves : weights_of last ≡ w

-- (b) Of two weightings that stories left on one graph, the first dilated n times is below the second exactly where the
-- first is below the second eroded n times.
abbrev pub StoriesAdjoint : {K : Type 0} → (K → K → Type 0) → Operations K → Type 0
StoriesAdjoint {K} below k = (g : Shape) → Accepted g → (w u : Weighting K) → Reached k g w → Reached k g u → (n : ℕ) → 1 ≤ n → n ≤ 200 →
    Below below g (filtered k g (filter Dilation n) w) u ↔ Below below g w (filtered k g (filter Erosion n) u)

-- the filters that a story accepted, in steps and runs, are one or more, all of the family l, and of these sizes in order;
-- and it accepted no join or meet, alone or in a run
pub record AcceptsOnly (l : Family) (story : List Call) (answers : List Verdict) (first : ℕ) (later : List ℕ) : Type 0 where
  pub only : Only l (accepted_words story answers)
  pub sizes : sizes_of (accepted_words story answers) ≡ first ∷ later

-- one step of the family and the size is accepted, and makes v of w
abbrev pub StepMakes : {K : Type 0} → Operations K → Shape → Family → ℕ → Weighting K → Weighting K → Type 0
StepMakes {K} k g l n w v = (s : Weighting K) → Fits g s → filter_call k g (filter l n) w s ≡ outcome (accepted tt) v (blank k s)

-- (c) Where a story accepts openings alone, or closings alone, it leaves what one step of the largest makes of the starting
-- weights, and of alternate filters whose sizes never fall what one step of the last makes.
abbrev pub StoriesAbsorb : {K : Type 0} → Operations K → Type 0
StoriesAbsorb {K} k = (g : Shape) → Accepted g → (w : Weighting K) (r : List Word) (story : List Call) (answers : List Verdict) (x : State K) (first : ℕ) (later : List ℕ) →
    Fits g w → Trace k g (clear w r) story answers x →
    (AcceptsOnly Opening story answers first later → StepMakes k g Opening (largest first later) w (weights_of x))
    × (AcceptsOnly Closing story answers first later → StepMakes k g Closing (largest first later) w (weights_of x))
    × (AcceptsOnly Alternate story answers first later → NeverFalls first later → StepMakes k g Alternate (last_of first later) w (weights_of x))
