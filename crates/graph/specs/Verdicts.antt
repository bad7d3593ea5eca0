-- What is answered to an edge table and to a graph file: the first refusal in the order of judging. Assumes nothing.
use Rattle.std.specs.Prelude.{ℕ, ◌+◌, ◌%◌, Bool, true, cond, ◌||◌, List, [], ◌∷◌, length, Some, None, Option, ◌==◌, nat_le, nat_lt}
use Rattle.refusal.specs.Reports.{accepted, refused, Verdict}
use Rattle.refusal.specs.declared.Part.TheVariants as part
use Rattle.graph.specs.Files.{file_records}
use Rattle.graph.specs.Graphs.{before}
use Rattle.graph.specs.declared.edges.Edge.{Edge}

-- e comes after the record before it, if there is one
abbrev pub above : Option Edge → Edge → Bool
above None e = true
above (Some b) e = before b e

-- what is answered to record k alone
abbrev pub record_verdict : ℕ → ℕ → Option Edge → Edge → Verdict
record_verdict n k last e =
    cond (nat_le e.second e.first) (refused 4 k part.Graph)
    (cond (nat_le n e.second) (refused 5 k part.Graph)
    (cond (above last e) (accepted tt) (refused 6 k part.Graph)))

-- the first of two answers that refuses
abbrev pub then : Verdict → Verdict → Verdict
then (accepted u) b = b
then (refused number k p) b = refused number k p

-- what is answered to the records from place k on
abbrev pub records_verdict : ℕ → ℕ → Option Edge → List Edge → Verdict
records_verdict n k last [] = accepted tt
records_verdict n k last (e ∷ es) = then (record_verdict n k last e) (records_verdict n (k + 1) (Some e) es)

-- too many vertices, or too many edges
abbrev pub large : ℕ → ℕ → Bool
large n m = nat_lt 1000000 n || nat_lt 4000000 m

-- what is answered to an edge table
abbrev pub verdict : ℕ → List Edge → Verdict
verdict n es = cond (large n (length es)) (refused 2 0 part.Graph) (records_verdict n 0 None es)

-- what is answered to the bytes of a graph file, whose edges are to go to a table of room rows
abbrev pub file_verdict : ℕ → List ℕ → ℕ → Verdict
file_verdict n bytes room =
    let es = file_records bytes in
    cond (length bytes % 8 == 0)
    (cond (large n (length es)) (refused 2 0 part.Graph)
    (cond (room == length es) (records_verdict n 0 None es) (refused 3 0 part.Graph)))
    (refused 1 0 part.Graph)
