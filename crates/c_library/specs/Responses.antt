-- What C gets to know of an answer: a status, and a refusal as three numbers. Assumes nothing.
use Rattle.std.specs.Prelude.{◌≡◌, ℕ, ◌⊎◌}
use Rattle.refusal.specs.Reports.{Answer, accepted, refused}
use Rattle.refusal.specs.declared.Part.{Part}
use Rattle.refusal.specs.declared.Part.TheVariants.{Graph, Sheet, Word, Recipe, Reading}
use Rattle.c_library.specs.declared.refusal_records.RefusalRecord.{RefusalRecord}

-- the parts are numbered
abbrev pub number_of_part : Part → ℕ
number_of_part Graph = 1
number_of_part Sheet = 2
number_of_part Word = 3
number_of_part Recipe = 4
number_of_part Reading = 5

abbrev pub three_numbers : ℕ → ℕ → ℕ → RefusalRecord
three_numbers n at p = record { number = n; place = at; part = p }

-- nothing is refused
abbrev pub no_refusal : RefusalRecord
no_refusal = three_numbers 0 0 0

-- the number that a call answers, and what stands in the place for its refusal after it
pub record Response : Type 0 where
  pub status : ℕ
  pub refusal : RefusalRecord

abbrev pub response : ℕ → RefusalRecord → Response
response status refusal = record { status = status; refusal = refusal }

-- the response to an answer
abbrev pub answered : {A : Type 0} → Answer A → Response
answered (accepted x) = response 0 no_refusal
answered (refused number place part) = response 1 (three_numbers number place (number_of_part part))

-- the response where no kind has the number
abbrev pub no_kind : Response
no_kind = response 2 no_refusal

-- the response where there is not enough memory
abbrev pub no_memory : Response
no_memory = response 3 no_refusal

-- the response is the one to the answer a, unless there is not enough memory
abbrev pub Responds : {A : Type 0} → Answer A → Response → Type 0
Responds a r = (r ≡ answered a) ⊎ (r ≡ no_memory)
