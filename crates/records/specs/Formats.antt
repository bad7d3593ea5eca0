-- Values stored as records of bytes, one after the other. Assumes nothing.
use Rattle.std.specs.Prelude.{ℕ, ◌+◌, ◌*◌, List, ◌++◌, map, take, drop, Some, None, Option}
use Rattle.std.specs.Borrow.{Bor}
use Rattle.std.specs.List.{range_with_len}

-- how many bytes a record has, and the value that bytes stand for, where they stand for one
pub record Format (K : Type 0) : Type 0 where
  pub width : ℕ
  pub parsed : List ℕ → Option K

abbrev pub format : {K : Type 0} → ℕ → (List ℕ → Option K) → Format K
format w p = record { width = w; parsed = p }

-- record i of records of the width w
abbrev pub record_at : ℕ → List ℕ → ℕ → List ℕ
record_at w bytes i = take w (drop (i * w) bytes)

-- the value that record i stands for, where it stands for one
abbrev pub value_at : {K : Type 0} → Format K → List ℕ → ℕ → Option K
value_at f bytes i = f.parsed (record_at f.width bytes i)

-- a value where there is one, and d where there is none
abbrev pub value_or : {K : Type 0} → K → Option K → K
value_or d None = d
value_or d (Some x) = x

-- the values of the first n records; where each stands for a value, d plays no part
abbrev pub values : {K : Type 0} → Format K → K → ℕ → List ℕ → List K
values f d n bytes = map (λ i. value_or d (value_at f bytes i)) (range_with_len 0 n)

-- the bytes in a buffer that may be absent
abbrev pub bytes_in : Option (Bor (List ℕ)) → Option (List ℕ)
bytes_in None = None
bytes_in (Some buffer) = Some buffer.now

-- bytes with record i of the width w put in the place of what stood there
abbrev pub with_record : ℕ → List ℕ → ℕ → List ℕ → List ℕ
with_record w bytes i new = take (i * w) bytes ++ (new ++ drop (i * w + w) bytes)
