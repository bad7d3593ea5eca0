-- A sheet's graph, and the answers of its calls as the code gives them. Assumes nothing.
use Rattle.std.specs.Prelude.{◌≡◌, Ok, Err, Result}
use Rattle.std.specs.Borrow.{Bor}
use Rattle.refusal.specs.Reports.{accepted, refusal_answer, Verdict}
use Rattle.refusal.specs.declared.Refusal.{Refusal}
use Rattle.graph.specs.Shapes.{Shape, shape_of}
use Rattle.graph.specs.declared.graphs.Graph.{Graph}
use Rattle.sheet.specs.declared.refused.Refused.{Refused}
use Rattle.sheet.specs.declared.states.Sheet.{Sheet}

abbrev pub sheet_shape : {K S : Type 0} → Sheet K S → Shape
sheet_shape s = shape_of s.graph.now

-- what a call that moves the sheet says
abbrev pub moved : {K S T : Type 0} → Result (Sheet K T) (Refused (Sheet K S)) → Verdict
moved (Ok s) = accepted tt
moved (Err e) = refusal_answer e.why

-- the graph of the sheet that is handed over or handed back
abbrev pub graph_after : {K S T : Type 0} → Result (Sheet K T) (Refused (Sheet K S)) → Bor Graph
graph_after (Ok s) = s.graph
graph_after (Err e) = e.sheet.graph

-- what opening a sheet says
abbrev pub opened : {K S : Type 0} → Result (Sheet K S) Refusal → Verdict
opened (Ok s) = accepted tt
opened (Err e) = refusal_answer e

-- a sheet that is opened keeps the graph
abbrev pub KeepsGraph : {K S : Type 0} → Bor Graph → Result (Sheet K S) Refusal → Type 0
KeepsGraph g (Ok s) = s.graph ≡ g
KeepsGraph g (Err e) = Unit {0}

-- what closing a sheet says
abbrev pub closed : {K S : Type 0} → Result (Unit {0}) (Refused (Sheet K S)) → Verdict
closed (Ok u) = accepted tt
closed (Err e) = refusal_answer e.why

-- a refused close hands the sheet back
abbrev pub HandsBack : {K S : Type 0} → Bor Graph → Result (Unit {0}) (Refused (Sheet K S)) → Type 0
HandsBack g (Ok u) = Unit {0}
HandsBack g (Err e) = e.sheet.graph ≡ g
