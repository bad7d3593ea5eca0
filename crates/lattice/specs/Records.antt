-- The records of the kinds, the low byte first. Assumes nothing.
use Rattle.std.specs.Prelude.{ℕ, zero, suc, ◌+◌, ◌*◌, ◌/◌, ◌%◌, cond, List, [], ◌∷◌, length, Some, None, Option, ◌==◌}
use Rattle.lattice.specs.ClassSets.{classes_of, classes_number}
use Rattle.lattice.specs.Levels.{level, level_number}
use Rattle.lattice.specs.Presences.{presence_number}
use Rattle.lattice.specs.Reversals.{reversal}
use Rattle.lattice.specs.declared.class_sets.Classes.{Classes}
use Rattle.lattice.specs.declared.levels.Level.{Level}
use Rattle.lattice.specs.declared.presences.Presence.{Presence}
use Rattle.lattice.specs.declared.presences.Presence.TheVariants.{Absent, Present}
use Rattle.lattice.specs.declared.reversal.Reversed.{Reversed}

-- the number that bytes stand for
abbrev pub little_endian : List ℕ → ℕ
little_endian [] = 0
little_endian (b ∷ bs) = b + 256 * little_endian bs

-- the low bytes of a number, as many as the first argument says
abbrev pub bytes_of : ℕ → ℕ → List ℕ
bytes_of zero n = []
bytes_of (suc w) n = n % 256 ∷ bytes_of w (n / 256)

-- bytes of the width w stand for what their number stands for, and bytes of another length for no value
abbrev pub of_width : {K : Type 0} → ℕ → (ℕ → Option K) → List ℕ → Option K
of_width w value bs = cond (length bs == w) (value (little_endian bs)) None

-- 0 is absent, 1 present, and no other number a presence
abbrev pub presence_of : ℕ → Option Presence
presence_of n = cond (n == 0) (Some Absent) (cond (n == 1) (Some Present) None)

abbrev pub parsed_presence : List ℕ → Option Presence
parsed_presence = of_width 1 presence_of

abbrev pub presence_record : Presence → List ℕ
presence_record x = bytes_of 1 (presence_number x)

abbrev pub parsed_level : List ℕ → Option Level
parsed_level = of_width 2 (λ n. Some (level n))

abbrev pub level_record : Level → List ℕ
level_record x = bytes_of 2 (level_number x)

abbrev pub parsed_classes : List ℕ → Option Classes
parsed_classes = of_width 4 (λ n. Some (classes_of n))

abbrev pub classes_record : Classes → List ℕ
classes_record x = bytes_of 4 (classes_number x)

-- a value of the kind that is reversed, where there is one, as a value of the reversal
abbrev pub reversed_option : {K : Type 0} → Option K → Option (Reversed K)
reversed_option None = None
reversed_option (Some x) = Some (reversal x)

-- what a buffer of bytes holds after a record of the width w was written to it: a buffer of another length what it held
abbrev pub recorded : ℕ → List ℕ → List ℕ → List ℕ
recorded w new old = cond (length old == w) new old
