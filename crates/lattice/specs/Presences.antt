-- Presences as a kind: absent below present. Assumes nothing.
use Rattle.std.specs.Prelude.{◌≡◌, ℕ, Bool, true, false}
use Rattle.lattice.specs.Lattices.{Operations}
use Rattle.lattice.specs.declared.presences.Presence.{Presence}
use Rattle.lattice.specs.declared.presences.Presence.TheVariants.{Absent, Present}

-- where the first is present, so is the second
abbrev pub presence_below : Presence → Presence → Type 0
presence_below x y = x ≡ Present → y ≡ Present

-- the same as a test
abbrev pub presence_leq : Presence → Presence → Bool
presence_leq Absent y = true
presence_leq Present Absent = false
presence_leq Present Present = true

-- present where one of the two is
abbrev pub either : Presence → Presence → Presence
either Absent y = y
either Present y = Present

-- present where both are
abbrev pub both : Presence → Presence → Presence
both Absent y = Absent
both Present y = y

abbrev pub presence_operations : Operations Presence
presence_operations = record { lowest = Absent; highest = Present; join = either; meet = both }

-- a test's answer as a presence
abbrev pub present_if : Bool → Presence
present_if true = Present
present_if false = Absent

-- absent as 0, and present as 1
abbrev pub presence_number : Presence → ℕ
presence_number Absent = 0
presence_number Present = 1

-- the kind of presences: absent is the lowest and present the highest, and present is not below absent
pub record PresenceKind (below : Presence → Presence → Type 0) (k : Operations Presence) : Type 0 where
  pub lowest : k.lowest ≡ Absent
  pub highest : k.highest ≡ Present
  pub absent_below_present : below Absent Present
  pub present_not_below_absent : below Present Absent → ⊥
