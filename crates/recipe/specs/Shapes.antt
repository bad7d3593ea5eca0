-- One word as it is judged: its shape, and then its size.
use Rattle.std.specs.Prelude.{ℕ, suc, ◌+◌, ◌-◌, ◌*◌, Bool, cond, ◌&&◌, ◌||◌, List, [], ◌∷◌, length, Ok, Err, Result, ◌==◌, nat_le, nat_lt}
use Rattle.refusal.specs.declared.Part.TheVariants as part
use Rattle.refusal.specs.declared.Refusal.{Refusal}
use Rattle.refusal.specs.Reports.{Answer, accepted, refused, refusal_answer}
use Rattle.filters.specs.declared.families.Family.{Family}
use Rattle.filters.specs.declared.families.Family.TheVariants.{Dilation, Erosion, Opening, Closing, Alternate}
use Rattle.recipe.specs.declared.words.Word.{Word}
use Rattle.recipe.specs.declared.words.Word.TheVariants.{Step, Hold, Join, Meet, Forget}
use Rattle.recipe.specs.declared.tokens.Token.{Token}
use Rattle.recipe.specs.declared.tokens.Token.TheVariants as token

-- whether a byte is a decimal digit
abbrev pub is_digit : ℕ → Bool
is_digit b = nat_le 48 b && nat_le b 57

-- how many bytes at the front pass a test
abbrev pub front : (ℕ → Bool) → List ℕ → ℕ
front p [] = 0
front p (b ∷ bs) = cond (p b) (suc (front p bs)) 0

-- how many digits stand at the front
abbrev pub digit_run : List ℕ → ℕ
digit_run bs = front is_digit bs

-- how many bytes at the front belong to a number whose first digit is not 0
abbrev pub number_run : List ℕ → ℕ
number_run [] = 0
number_run (b ∷ bs) = cond (b == 48) 0 (digit_run (b ∷ bs))

-- the number that digits write after the number n
abbrev pub numeral : ℕ → List ℕ → ℕ
numeral n [] = n
numeral n (b ∷ bs) = numeral (n * 10 + (b - 48)) bs

-- a word of a right shape, with its digits or its bytes and its place
pub data Parsed : Type 0 where
  step : Family → List ℕ → ℕ → Parsed
  hold : List ℕ → ℕ → Parsed
  join : List ℕ → ℕ → Parsed
  meet : List ℕ → ℕ → Parsed
  forget : List ℕ → ℕ → Parsed

-- what a token borrows
abbrev pub parsed : Token → Parsed
parsed (token.Step f digits at) = step f digits.now at
parsed (token.Hold bytes at) = hold bytes.now at
parsed (token.Join bytes at) = join bytes.now at
parsed (token.Meet bytes at) = meet bytes.now at
parsed (token.Forget bytes at) = forget bytes.now at

-- a result as an answer, a token by what it borrows
abbrev pub token_answer : Result Token Refusal → Answer Parsed
token_answer (Ok t) = accepted (parsed t)
token_answer (Err e) = refusal_answer e

-- a letter that takes a size, with what follows it in the word
abbrev pub step_shape : ℕ → Family → List ℕ → Answer Parsed
step_shape at f ds = cond (number_run ds == 0 || nat_lt (number_run ds) (length ds)) (refused 13 (at + 1 + number_run ds) part.Word) (accepted (step f ds at))

-- a letter that stands alone, with what follows it in the word
abbrev pub alone_shape : ℕ → Parsed → List ℕ → Answer Parsed
alone_shape at s [] = accepted s
alone_shape at s (b ∷ bs) = refused 13 (at + 1) part.Word

-- what the first byte says, with what follows it in the word
abbrev pub first_shape : ℕ → ℕ → List ℕ → Answer Parsed
first_shape at b bs =
    cond (b == 68) (step_shape at Dilation bs)
    (cond (b == 69) (step_shape at Erosion bs)
    (cond (b == 79) (step_shape at Opening bs)
    (cond (b == 67) (step_shape at Closing bs)
    (cond (b == 65) (step_shape at Alternate bs)
    (cond (b == 72) (alone_shape at (hold (b ∷ bs) at) bs)
    (cond (b == 74) (alone_shape at (join (b ∷ bs) at) bs)
    (cond (b == 77) (alone_shape at (meet (b ∷ bs) at) bs)
    (cond (b == 70) (alone_shape at (forget (b ∷ bs) at) bs)
    (refused 13 at part.Word)))))))))

-- the shape of a word at a place
abbrev pub shape_of : ℕ → List ℕ → Answer Parsed
shape_of at [] = refused 13 at part.Word
shape_of at (b ∷ bs) = first_shape at b bs

-- a step of a family and a size
abbrev pub step_of : Family → ℕ → Word
step_of f n = Step (record { family = f; size = n })

-- a word of a right shape by its size
abbrev pub sized : Parsed → Answer Word
sized (step f ds at) = cond (numeral 0 ds == 0 || nat_lt 200 (numeral 0 ds)) (refused 11 at part.Word) (accepted (step_of f (numeral 0 ds)))
sized (hold bs at) = accepted Hold
sized (join bs at) = accepted Join
sized (meet bs at) = accepted Meet
sized (forget bs at) = accepted Forget

-- a shape, and then its size
abbrev pub sized_shape : Answer Parsed → Answer Word
sized_shape (accepted s) = sized s
sized_shape (refused number place p) = refused number place p

-- what a word at a place means, or why it is refused
abbrev pub word_of : ℕ → List ℕ → Answer Word
word_of at bs = sized_shape (shape_of at bs)
