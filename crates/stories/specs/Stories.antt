-- Stories: calls in order on one sheet, what they answer and what they leave. Assumes nothing.
use Rattle.std.specs.Prelude.{◌≡◌, ℕ, Bool, true, cond, ◌&&◌, List, [], ◌∷◌, ◌++◌, length, ◌==◌}
use Rattle.refusal.specs.Reports.{Answer, accepted, refused, Verdict, by_verdict}
use Rattle.lattice.specs.Lattices.{Operations}
use Rattle.graph.specs.Shapes.{Shape}
use Rattle.filters.specs.Relations.{read_by}
use Rattle.filters.specs.Calls.{Outcome, filter_call}
use Rattle.filters.specs.Weightings.{Weighting, weighting, Fits}
use Rattle.filters.specs.declared.families.Family.{Family}
use Rattle.filters.specs.declared.families.Filter.{Filter}
use Rattle.recipe.specs.Judging.{judge}
use Rattle.recipe.specs.declared.words.Word.{Word}
use Rattle.recipe.specs.declared.words.Word.TheVariants.{Step, Hold, Join, Meet, Forget}
use Rattle.stories.specs.Calls.{hold_call, join_call, meet_call, forget_call, Ran, run_call}

-- a sheet in its state: the weights, while holding the held ones, and the words in the recipe place
pub data State (K : Type 0) : Type 0 where
  clear : Weighting K → List Word → State K
  holding : Weighting K → Weighting K → List Word → State K

-- the lengths of two buffers, one of vertex weights and one of edge weights
pub record Lengths : Type 0 where
  pub vertices : ℕ
  pub edges : ℕ

abbrev pub lengths : ℕ → ℕ → Lengths
lengths v e = record { vertices = v; edges = e }

abbrev pub lengths_of : {K : Type 0} → Weighting K → Lengths
lengths_of w = lengths (length w.vertices) (length w.edges)

-- as long as the graph asks
abbrev pub vertices_suit : Shape → Lengths → Bool
vertices_suit g p = p.vertices == g.order

abbrev pub edges_suit : Shape → Lengths → Bool
edges_suit g p = p.edges == length g.edges

abbrev pub suit : Shape → Lengths → Bool
suit g p = vertices_suit g p && edges_suit g p

-- the lengths that the graph asks
abbrev pub asked : Shape → Lengths
asked g = lengths g.order (length g.edges)

-- A call, with the lengths of the buffers that it works on: the weights, and then scratch or held buffers, and for a run both.
-- It names no kind of weight, so that the same call can be made on sheets of two kinds.
pub data Call : Type 0 where
  step : Filter → Lengths → Lengths → Call
  hold : Lengths → Lengths → Call
  join : Lengths → Lengths → Call
  meet : Lengths → Lengths → Call
  forget : Lengths → Lengths → Call
  run : List ℕ → Lengths → Lengths → Lengths → Call

-- b is passed for w, with the lengths p: each of its two buffers is that of w unless its length is wrong
pub record PassedFor {K : Type 0} (g : Shape) (w : Weighting K) (p : Lengths) (b : Weighting K) : Type 0 where
  pub long : lengths_of b ≡ p
  pub same_vertices : vertices_suit g p ≡ true → b.vertices ≡ w.vertices
  pub same_edges : edges_suit g p ≡ true → b.edges ≡ w.edges

-- The weights after a call that was passed buffers of the lengths p for w and left v in them: a buffer of wrong length was not
-- that of w, which is then as it was.
abbrev pub restored : {K : Type 0} → Shape → Lengths → Weighting K → Weighting K → Weighting K
restored g p w v = weighting (cond (vertices_suit g p) v.vertices w.vertices) (cond (edges_suit g p) v.edges w.edges)

-- the sheet after each call, by what the call answers and leaves in its buffers
abbrev pub after_step : {K : Type 0} → Shape → (Weighting K → State K) → Lengths → Weighting K → Outcome Verdict K → State K
after_step g state p w o = state (restored g p w o.weights)

abbrev pub after_hold : {K : Type 0} → Shape → List Word → Lengths → Weighting K → Outcome Verdict K → State K
after_hold g r p w o = by_verdict o.answer (holding (restored g p w o.weights) o.beside r) (clear (restored g p w o.weights) r)

-- join, meet or forget
abbrev pub after_release : {K : Type 0} → Shape → List Word → Lengths → Lengths → Weighting K → Weighting K → Outcome Verdict K → State K
after_release g r p q w h o = by_verdict o.answer (clear (restored g p w o.weights) r) (holding (restored g p w o.weights) (restored g q h o.beside) r)

abbrev pub after_run : {K : Type 0} → Shape → Lengths → Weighting K → Ran K → State K
after_run g p w o = clear (restored g p w o.weights) o.place

-- One call on a sheet: its answer, and the sheet after it. Scratch, and held buffers while clear, may hold anything.
pub data Transition {K : Type 0} (k : Operations K) (g : Shape) : State K → Call → Verdict → State K → Type 0 where
  clear_step : (f : Filter) (p q : Lengths) (w b s : Weighting K) (r : List Word) → PassedFor g w p b → lengths_of s ≡ q
      → (o : Outcome Verdict K) → o ≡ filter_call k g f b s → Transition k g (clear w r) (step f p q) o.answer (after_step g (λ v. clear v r) p w o)
  holding_step : (f : Filter) (p q : Lengths) (w h b s : Weighting K) (r : List Word) → PassedFor g w p b → lengths_of s ≡ q
      → (o : Outcome Verdict K) → o ≡ filter_call k g f b s → Transition k g (holding w h r) (step f p q) o.answer (after_step g (λ v. holding v h r) p w o)
  clear_hold : (p q : Lengths) (w b s : Weighting K) (r : List Word) → PassedFor g w p b → lengths_of s ≡ q
      → (o : Outcome Verdict K) → o ≡ hold_call g b s → Transition k g (clear w r) (hold p q) o.answer (after_hold g r p w o)
  holding_join : (p q : Lengths) (w h b c : Weighting K) (r : List Word) → PassedFor g w p b → PassedFor g h q c
      → (o : Outcome Verdict K) → o ≡ join_call k g b c → Transition k g (holding w h r) (join p q) o.answer (after_release g r p q w h o)
  holding_meet : (p q : Lengths) (w h b c : Weighting K) (r : List Word) → PassedFor g w p b → PassedFor g h q c
      → (o : Outcome Verdict K) → o ≡ meet_call k g b c → Transition k g (holding w h r) (meet p q) o.answer (after_release g r p q w h o)
  holding_forget : (p q : Lengths) (w h b c : Weighting K) (r : List Word) → PassedFor g w p b → PassedFor g h q c
      → (o : Outcome Verdict K) → o ≡ forget_call k g b c → Transition k g (holding w h r) (forget p q) o.answer (after_release g r p q w h o)
  clear_run : (text : List ℕ) (p q t : Lengths) (w b s c : Weighting K) (r : List Word) → PassedFor g w p b → lengths_of s ≡ q → lengths_of c ≡ t
      → (o : Ran K) → o ≡ run_call k g text b s c r → Transition k g (clear w r) (run text p q t) o.answer (after_run g p w o)

-- a story from one sheet to another, with its answers
pub data Trace {K : Type 0} (k : Operations K) (g : Shape) : State K → List Call → List Verdict → State K → Type 0 where
  end : (x : State K) → Trace k g x [] [] x
  then : {x y z : State K} {c : Call} {cs : List Call} {a : Verdict} {answers : List Verdict} → Transition k g x c a y → Trace k g y cs answers z → Trace k g x (c ∷ cs) (a ∷ answers) z

-- the calls that a state takes
abbrev pub Takes : {K : Type 0} → State K → Call → Type 0
Takes (clear w r) (step f p q) = Unit {0}
Takes (clear w r) (hold p q) = Unit {0}
Takes (clear w r) (join p q) = ⊥
Takes (clear w r) (meet p q) = ⊥
Takes (clear w r) (forget p q) = ⊥
Takes (clear w r) (run text p q t) = Unit {0}
Takes (holding w h r) (step f p q) = Unit {0}
Takes (holding w h r) (hold p q) = ⊥
Takes (holding w h r) (join p q) = Unit {0}
Takes (holding w h r) (meet p q) = Unit {0}
Takes (holding w h r) (forget p q) = Unit {0}
Takes (holding w h r) (run text p q t) = ⊥

-- the weights, and while holding the held ones, are as many as the graph asks
abbrev pub Fitting : {K : Type 0} → Shape → State K → Type 0
Fitting g (clear w r) = Fits g w
Fitting g (holding w h r) = Fits g w × Fits g h

abbrev pub weights_of : {K : Type 0} → State K → Weighting K
weights_of (clear w r) = w
weights_of (holding w h r) = w

-- the words in the recipe place
abbrev pub place_of : {K : Type 0} → State K → List Word
place_of (clear w r) = r
place_of (holding w h r) = r

-- the same state with the same recipe in its place, and the reading of each weight and each held one
abbrev pub read_state : {K L : Type 0} → (K → L) → State K → State L
read_state read (clear w r) = clear (read_by read w) r
read_state read (holding w h r) = holding (read_by read w) (read_by read h) r

-- the words of a text that is accepted
abbrev pub words_of_text : Answer (List Word) → List Word
words_of_text (accepted ws) = ws
words_of_text (refused number place part) = []

-- a word as a call of its own, with buffers as long as the graph asks
abbrev pub call_of : Shape → Word → Call
call_of g (Step f) = step f (asked g) (asked g)
call_of g Hold = hold (asked g) (asked g)
call_of g Join = join (asked g) (asked g)
call_of g Meet = meet (asked g) (asked g)
call_of g Forget = forget (asked g) (asked g)

-- a call as the words that it does where it is accepted
abbrev pub words_of_call : Call → List Word
words_of_call (step f p q) = Step f ∷ []
words_of_call (hold p q) = Hold ∷ []
words_of_call (join p q) = Join ∷ []
words_of_call (meet p q) = Meet ∷ []
words_of_call (forget p q) = Forget ∷ []
words_of_call (run text p q t) = words_of_text (judge text)

-- the same by its answer: a refused call does none
abbrev pub words_if : Verdict → Call → List Word
words_if (accepted u) c = words_of_call c
words_if (refused number place part) c = []

-- the words that the accepted calls of a story did, in order
abbrev pub accepted_words : List Call → List Verdict → List Word
accepted_words [] answers = []
accepted_words (c ∷ cs) [] = []
accepted_words (c ∷ cs) (a ∷ answers) = words_if a c ++ accepted_words cs answers

-- every filter among the words is of this family, and no word is a join or a meet
abbrev pub Only : Family → List Word → Type 0
Only l [] = Unit {0}
Only l (Step f ∷ ws) = (f.family ≡ l) × Only l ws
Only l (Hold ∷ ws) = Only l ws
Only l (Join ∷ ws) = ⊥
Only l (Meet ∷ ws) = ⊥
Only l (Forget ∷ ws) = Only l ws

-- the sizes of the filters among the words, in order
abbrev pub sizes_of : List Word → List ℕ
sizes_of [] = []
sizes_of (Step f ∷ ws) = f.size ∷ sizes_of ws
sizes_of (Hold ∷ ws) = sizes_of ws
sizes_of (Join ∷ ws) = sizes_of ws
sizes_of (Meet ∷ ws) = sizes_of ws
sizes_of (Forget ∷ ws) = sizes_of ws
