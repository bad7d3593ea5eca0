-- The path sheet: five vertices in a path with Levels, two smaller sheets, and what filters and readings make of them.
-- Every result computes. Assumes nothing.
use Rattle.std.specs.Prelude.{◌≡◌, ℕ, List, [], ◌∷◌, map, None, codes}
use Rattle.refusal.specs.Reports.{accepted}
use Rattle.lattice.specs.ClassSets.{classes_of, classes_number, classes_operations}
use Rattle.lattice.specs.Lattices.{Operations}
use Rattle.lattice.specs.Levels.{level, level_number, level_leq, level_operations}
use Rattle.lattice.specs.Records.{parsed_level}
use Rattle.lattice.specs.Presences.{presence_number, presence_operations}
use Rattle.lattice.specs.declared.levels.Level.{Level}
use Rattle.readings.specs.Cuts.{cut_at}
use Rattle.graph.specs.Shapes.{Shape, shape}
use Rattle.graph.specs.declared.edges.Edge.{Edge}
use Rattle.filters.specs.Relations.{filter, read_by}
use Rattle.filters.specs.Passes.{meets, pass_to_edges}
use Rattle.filters.specs.Weightings.{Weighting, weighting, filtered}
use Rattle.filters.specs.declared.families.Family.{Family}
use Rattle.filters.specs.declared.families.Family.TheVariants.{Dilation, Erosion, Opening, Closing, Alternate}
use Rattle.records.specs.Calls.{loaded, load_call}
use Rattle.records.specs.Formats.{format}
use Rattle.stories.specs.Calls.{run_call}

abbrev pub edge : ℕ → ℕ → Edge
edge v w = record { first = v; second = w }

abbrev pub path_edges : List Edge
path_edges = edge 0 1 ∷ edge 1 2 ∷ edge 2 3 ∷ edge 3 4 ∷ []

abbrev pub path : Shape
path = shape 5 path_edges

-- the Levels 5 2 7 7 1 as records
abbrev pub path_records : List ℕ
path_records = 5 ∷ 0 ∷ 2 ∷ 0 ∷ 7 ∷ 0 ∷ 7 ∷ 0 ∷ 1 ∷ 0 ∷ []

-- vertex weights, and edge weights that are absent: the meet to edges
abbrev pub induced : {K : Type 0} → Operations K → Shape → List K → Weighting K
induced k g vs = weighting vs (pass_to_edges (meets k) g vs)

abbrev pub start : Weighting Level
start = induced level_operations path (map level (5 ∷ 2 ∷ 7 ∷ 7 ∷ 1 ∷ []))

abbrev numbers : Weighting Level → Weighting ℕ
numbers w = read_by level_number w

abbrev row : ℕ → ℕ → ℕ → ℕ → ℕ → ℕ → ℕ → ℕ → ℕ → Weighting ℕ
row a b c d e p q r s = weighting (a ∷ b ∷ c ∷ d ∷ e ∷ []) (p ∷ q ∷ r ∷ s ∷ [])

abbrev filtered_path : Family → ℕ → Weighting Level
filtered_path f n = filtered level_operations path (filter f n) start

-- what a recipe text makes of the path sheet
abbrev run_path : List ℕ → Weighting Level
run_path text = (run_call level_operations path text start start start []).weights

-- vertices 0 to 2 with the edge 0-1 alone, and two vertices with one edge
abbrev isolated : Shape
isolated = shape 3 (edge 0 1 ∷ [])

abbrev lone : Shape
lone = shape 2 (edge 0 1 ∷ [])

abbrev filtered_isolated : Family → Weighting ℕ
filtered_isolated f = numbers (filtered level_operations isolated (filter f 1) (induced level_operations isolated (map level (4 ∷ 6 ∷ 9 ∷ []))))

-- the records open to the starting weights in buffers that held what D1 leaves; and then the twelve results, in order
pub record Results : Type 0 where
  pub opens : load_call level_operations level_leq (format 2 parsed_level) path path_records None (filtered_path Dilation 1) ≡ loaded (accepted tt) start
  pub begins : numbers start ≡ row 5 2 7 7 1 2 2 7 1
  pub one : numbers (filtered_path Dilation 1) ≡ row 5 7 7 7 7 2 7 7 7
  pub two : numbers (filtered_path Erosion 1) ≡ row 2 2 2 1 1 2 2 1 1
  pub three : numbers (filtered_path Opening 1) ≡ row 2 2 7 7 1 2 2 2 1
  pub four : numbers (filtered_path Opening 2) ≡ row 2 2 2 2 1 2 2 2 1
  pub five : numbers (filtered_path Closing 1) ≡ row 5 5 7 7 7 2 2 7 1
  pub six : numbers (filtered_path Closing 2) ≡ row 5 5 7 7 7 2 2 7 7
  pub seven : numbers (filtered_path Alternate 1) ≡ row 5 5 7 7 7 2 2 2 1
  pub eight : numbers (filtered level_operations path (filter Alternate 2) (filtered_path Alternate 1)) ≡ row 5 5 7 7 7 2 2 2 2
  pub eight_alone : numbers (filtered_path Alternate 2) ≡ row 5 5 7 7 7 2 2 2 2
  pub nine : run_path (codes "D1 H E1 M") ≡ filtered_path Closing 2
  pub ten_before : read_by presence_number (filtered presence_operations path (filter Opening 1) (read_by (cut_at level_leq (level 5)) start)) ≡ row 0 0 1 1 0 0 0 0 0
  pub ten_after : read_by presence_number (read_by (cut_at level_leq (level 5)) (filtered_path Opening 1)) ≡ row 0 0 1 1 0 0 0 0 0
  pub eleven_dilated : filtered_isolated Dilation ≡ weighting (6 ∷ 6 ∷ 0 ∷ []) (4 ∷ [])
  pub eleven_closed : filtered_isolated Closing ≡ weighting (6 ∷ 6 ∷ 65535 ∷ []) (4 ∷ [])
  pub twelve : read_by classes_number (filtered classes_operations lone (filter Dilation 1) (induced classes_operations lone (map classes_of (3 ∷ 6 ∷ [])))) ≡ weighting (7 ∷ 7 ∷ []) (2 ∷ [])
