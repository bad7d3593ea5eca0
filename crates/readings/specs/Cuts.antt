-- Cuts and class picks, and when one is made. Assumes nothing.
use Rattle.std.specs.Prelude.{ℕ, Bool, true, false, cond, ◌==◌, nat_lt}
use Rattle.refusal.specs.Reports.{Answer, accepted, refused}
use Rattle.refusal.specs.declared.Part.TheVariants as part
use Rattle.lattice.specs.ClassSets.{has_class}
use Rattle.lattice.specs.Lattices.{Operations}
use Rattle.lattice.specs.Levels.{level_number}
use Rattle.lattice.specs.Presences.{present_if}
use Rattle.lattice.specs.declared.class_sets.Classes.{Classes}
use Rattle.lattice.specs.declared.levels.Level.{Level}
use Rattle.lattice.specs.declared.presences.Presence.{Presence}
use Rattle.lattice.specs.declared.presences.Presence.TheVariants.{Absent, Present}
use Rattle.lattice.specs.declared.reversal.Reversed.{Reversed}

-- the cut at t: present to the values that t is below, by the test of a chain
abbrev pub cut_at : {K : Type 0} → (K → K → Bool) → K → K → Presence
cut_at leq t x = present_if (leq t x)

-- the class pick of c: present to the sets that class c is in
abbrev pub pick_of : ℕ → Classes → Presence
pick_of c x = present_if (has_class c x)

-- t is the lowest value of a chain, by its test: t is below it
abbrev pub lowest_of : {K : Type 0} → (K → K → Bool) → Operations K → K → Bool
lowest_of leq k t = leq t k.lowest

abbrev pub lowest_level : Level → Bool
lowest_level t = level_number t == 0

abbrev pub lowest_reversed_level : Reversed Level → Bool
lowest_reversed_level t = level_number t.inner == 65535

abbrev pub lowest_presence : Presence → Bool
lowest_presence Absent = true
lowest_presence Present = false

-- a cut at t is made, but where t is the lowest value
abbrev pub cut_call : {K : Type 0} → (K → Bool) → K → Answer K
cut_call is_lowest t = cond (is_lowest t) (refused 17 0 part.Reading) (accepted t)

-- a pick of class c is made, but where c is above 31
abbrev pub pick_call : ℕ → Answer ℕ
pick_call c = cond (nat_lt c 32) (accepted c) (refused 17 0 part.Reading)

-- an answer with what is accepted mapped
abbrev pub map_answer : {A B : Type 0} → (A → B) → Answer A → Answer B
map_answer f (accepted x) = accepted (f x)
map_answer f (refused number place p) = refused number place p
