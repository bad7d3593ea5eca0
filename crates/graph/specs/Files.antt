-- The records of a graph file: two numbers of four bytes each, low byte first. Assumes nothing.
use Rattle.std.specs.Prelude.{ℕ, ◌+◌, ◌*◌, ◌/◌, ◌%◌, List, [], ◌∷◌, ◌++◌, map, length, slice_index}
use Rattle.std.specs.List.{range_with_len}
use Rattle.graph.specs.declared.edges.Edge.{Edge}

-- the number whose four bytes begin at place i
abbrev pub number_at : List ℕ → ℕ → ℕ
number_at bs i = slice_index bs i + slice_index bs (i + 1) * 256 + slice_index bs (i + 2) * 65536 + slice_index bs (i + 3) * 16777216

-- record k: its two numbers are the ends of an edge
abbrev pub record_at : List ℕ → ℕ → Edge
record_at bs k = record { first = number_at bs (8 * k); second = number_at bs (8 * k + 4) }

-- every whole record of a file, in order
abbrev pub file_records : List ℕ → List Edge
file_records bs = map (record_at bs) (range_with_len 0 (length bs / 8))

-- a number as four bytes, and an edge as a record
abbrev pub number_bytes : ℕ → List ℕ
number_bytes x = x % 256 ∷ x / 256 % 256 ∷ x / 65536 % 256 ∷ x / 16777216 ∷ []

abbrev pub record_bytes : Edge → List ℕ
record_bytes e = number_bytes e.first ++ number_bytes e.second

-- the file of these edges
abbrev pub file_bytes : List Edge → List ℕ
file_bytes [] = []
file_bytes (e ∷ es) = record_bytes e ++ file_bytes es
