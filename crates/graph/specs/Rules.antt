-- Which answer is right for an edge table or a graph file, said with no order of judging. Assumes nothing.
use Rattle.std.specs.Prelude.{◌≡◌, ℕ, ◌+◌, ◌%◌, ◌<◌, ◌≤◌, true, ◌⊎◌, ◌↔◌, List, length, get_or, ◌≢◌, slice_index_or}
use Rattle.refusal.specs.Reports.{accepted, refused, Verdict}
use Rattle.refusal.specs.declared.Part.TheVariants as part
use Rattle.graph.specs.Files.{file_records}
use Rattle.graph.specs.Graphs.{Sound, before}
use Rattle.graph.specs.declared.edges.Edge.{Edge}

-- the rules for a single record
pub data Rule : Type 0 where
  ends_rise : Rule
  end_in_range : Rule
  above_last : Rule

-- the number under which a rule is refused
abbrev pub number : Rule → ℕ
number ends_rise = 4
number end_in_range = 5
number above_last = 6

-- record k keeps the rule; the default d plays no part
abbrev pub Keeps : ℕ → List Edge → ℕ → Rule → Type 0
Keeps n es k ends_rise = (d : Edge) → (get_or es k d).first < (get_or es k d).second
Keeps n es k end_in_range = (d : Edge) → (get_or es k d).second < n
Keeps n es k above_last = (i : ℕ) (d : Edge) → i + 1 ≡ k → before (slice_index_or es i d) (slice_index_or es k d) ≡ true

-- record k is the first that breaks a rule, and this is the first rule that it breaks
pub record Faulty (n : ℕ) (es : List Edge) (k : ℕ) (rule : Rule) : Type 0 where
  pub present : k < length es
  pub records_before : (i : ℕ) (r : Rule) → i < k → Keeps n es i r
  pub rules_before : (r : Rule) → number r < number rule → Keeps n es k r
  pub broken : Keeps n es k rule → ⊥

-- there are not too many vertices, nor too many edges
abbrev pub CountsFit : ℕ → ℕ → Type 0
CountsFit n m = (n ≤ 1000000) × (m ≤ 4000000)

-- there are too many vertices, or too many edges
abbrev pub TooLarge : ℕ → ℕ → Type 0
TooLarge n m = (1000000 < n) ⊎ (4000000 < m)

-- a is the right answer to an edge table es for n vertices
pub record Judged (n : ℕ) (es : List Edge) (a : Verdict) : Type 0 where
  pub accepts : (a ≡ accepted tt) ↔ (Sound n es)
  pub counts : (a ≡ refused 2 0 part.Graph) ↔ (TooLarge n (length es))
  pub records : (k : ℕ) (rule : Rule) → (a ≡ refused (number rule) k part.Graph) ↔ (CountsFit n (length es) × Faulty n es k rule)

-- the bytes are whole records
abbrev pub Whole : List ℕ → Type 0
Whole bytes = length bytes % 8 ≡ 0

-- a is the right answer to a graph file for n vertices, whose edges are to go to a table of room rows
pub record FileJudged (n : ℕ) (bytes : List ℕ) (room : ℕ) (a : Verdict) : Type 0 where
  pub accepts : (a ≡ accepted tt) ↔ (Whole bytes × (room ≡ length (file_records bytes)) × Sound n (file_records bytes))
  pub partial : (a ≡ refused 1 0 part.Graph) ↔ (Whole bytes → ⊥)
  pub counts : (a ≡ refused 2 0 part.Graph) ↔ (Whole bytes × TooLarge n (length (file_records bytes)))
  pub table : (a ≡ refused 3 0 part.Graph) ↔ (Whole bytes × CountsFit n (length (file_records bytes)) × (room ≢ length (file_records bytes)))
  pub records : (k : ℕ) (rule : Rule) → (a ≡ refused (number rule) k part.Graph) ↔ (Whole bytes × CountsFit n (length (file_records bytes)) × (room ≡ length (file_records bytes)) × Faulty n (file_records bytes) k rule)
