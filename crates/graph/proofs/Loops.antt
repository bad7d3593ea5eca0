-- Judging the records of an edge table, first to last. Assumes nothing.
use Rattle.std.proofs.Common.{◌≡◌, ℕ, ◌+◌, ◌<◌, List, [], ◌∷◌, ◌++◌, length, get_or, set, take, drop, map, Some, Option, sym, ap, ◌∙◌, arith}
use Rattle.std.proofs.lemmas.List.{drop_more, take_more, take_more_set, length-map, get_or-map}
use Rattle.refusal.specs.Reports.{Verdict}
use Rattle.graph.specs.Verdicts.{then, record_verdict, records_verdict}
use Rattle.graph.specs.declared.edges.Edge.{Edge}

-- one record more
pub records_more : (n k : ℕ) (last : Option Edge) (es : List Edge) (e : Edge) (a whole : Verdict) → k < length es → e ≡ get_or es k e → a ≡ record_verdict n k last e → records_verdict n k last (drop k es) ≡ whole → then a (records_verdict n (k + 1) (Some e) (drop (k + 1) es)) ≡ whole
records_more n k last es e a whole within read said left =
    let next = drop_more es k e within ∙ ap (λ x. x ∷ drop (k + 1) es) (sym read) in
    let rest = records_verdict n (k + 1) (Some e) (drop (k + 1) es) in
    ap (λ v. then v rest) said ∙ sym (ap (records_verdict n k last) next) ∙ left

-- one row more, where e is the edge that f reads from the row r
pub row_more : {R : Type 0} (f : R → Edge) (n k : ℕ) (last : Option Edge) (rows : List R) (r : R) (e : Edge) (a whole : Verdict) → k < length rows → r ≡ get_or rows k r → e ≡ f r → a ≡ record_verdict n k last e → records_verdict n k last (drop k (map f rows)) ≡ whole
    → then a (records_verdict n (k + 1) (Some e) (drop (k + 1) (map f rows))) ≡ whole
row_more f n k last rows r e a whole within at read said left =
    records_more n k last (map f rows) e a whole (omega (arith, length-map rows f)) (read ∙ ap f at ∙ sym (get_or-map f rows k r e within)) said left

-- one row more is written, with the edge e that f reads from the row r
pub row_written : {R : Type 0} (f : R → Edge) (k : ℕ) (rows : List R) (table : List Edge) (r : R) (e : Edge) → k < length rows → k < length table → r ≡ get_or rows k r → e ≡ f r → take k table ≡ take k (map f rows)
    → take (k + 1) (set table k e) ≡ take (k + 1) (map f rows)
row_written f k rows table r e within room at read before =
    let es = map f rows in
    let here : e ≡ get_or es k e = read ∙ ap f at ∙ sym (get_or-map f rows k r e within) in
    take_more_set table k e room ∙ ap (λ l. l ++ e ∷ []) before ∙ ap (λ x. take k es ++ x ∷ []) here ∙ sym (take_more es k e (omega (arith, length-map rows f)))
