-- Kinds by their names and numbers, and an evaluation by the name of its kind. Assumes nothing.
use Rattle.std.specs.Prelude.{◌≡◌, ℕ, zero, suc, ◌+◌, ◌<◌, Bool, true, false, cond, not, List, ◌++◌, Some, None, codes, Option}
use Rattle.refusal.specs.Reports.{Answer}
use Rattle.lattice.specs.ClassSets.{classes_leq, classes_operations}
use Rattle.lattice.specs.Levels.{level_leq, level_operations}
use Rattle.lattice.specs.Presences.{presence_leq, presence_operations}
use Rattle.lattice.specs.Records.{parsed_presence, presence_record, parsed_level, level_record, parsed_classes, classes_record, reversed_option}
use Rattle.lattice.specs.Reversals.{reversed_leq, reversed_operations}
use Rattle.lattice.specs.declared.class_sets.Classes as classes
use Rattle.lattice.specs.declared.levels.Level as levels
use Rattle.lattice.specs.declared.presences.Presence as presences
use Rattle.lattice.specs.declared.reversal.Reversed.{Reversed}
use Rattle.evaluation.specs.Evaluations.{StoredKind, stored_kind, Input, Output, evaluated}
use Rattle.evaluation.specs.declared.kinds.BaseKind.{BaseKind}
use Rattle.evaluation.specs.declared.kinds.BaseKind.TheVariants.{Presence, Level, Classes}
use Rattle.evaluation.specs.declared.kinds.KindName.{KindName}

abbrev pub base_name : BaseKind → List ℕ
base_name Presence = codes "presence"
base_name Level = codes "level"
base_name Classes = codes "classes"

-- a name with so many reversals in front
abbrev pub reversals : ℕ → List ℕ → List ℕ
reversals zero text = text
reversals (suc count) text = codes "reversed-" ++ reversals count text

abbrev pub odd : ℕ → Bool
odd zero = false
odd (suc count) = not (odd count)

-- the text is the name of a kind with reversals in front; two reversals undo each other
pub record Names (text : List ℕ) (kind : KindName) : Type 0 where
  pub count : ℕ
  pub spelled : text ≡ reversals count (base_name kind.base)
  pub parity : kind.reversed ≡ odd count

-- the kind that the text names, if it names one
abbrev pub Named : List ℕ → Option KindName → Type 0
Named text None = (kind : KindName) → Names text kind → ⊥
Named text (Some kind) = Names text kind

-- the kinds are numbered, and after them their reversals
abbrev pub base_number : BaseKind → ℕ
base_number Presence = 0
base_number Level = 1
base_number Classes = 2

abbrev pub kind_number : KindName → ℕ
kind_number kind = base_number kind.base + cond kind.reversed 3 0

-- the kind with this number, if there is one
abbrev pub Numbered : ℕ → Option KindName → Type 0
Numbered number None = 5 < number
Numbered number (Some kind) = kind_number kind ≡ number

-- how many bytes a record has; a reversal has the records of its kind
abbrev pub base_width : BaseKind → ℕ
base_width Presence = 1
base_width Level = 2
base_width Classes = 4

abbrev presence : StoredKind presences.Presence
presence = stored_kind presence_operations presence_leq (base_width Presence) parsed_presence presence_record

abbrev level : StoredKind levels.Level
level = stored_kind level_operations level_leq (base_width Level) parsed_level level_record

abbrev class_set : StoredKind classes.Classes
class_set = stored_kind classes_operations classes_leq (base_width Classes) parsed_classes classes_record

abbrev reversed_kind : {K : Type 0} → StoredKind K → StoredKind (Reversed K)
reversed_kind k = stored_kind (reversed_operations k.operations) (reversed_leq k.leq) k.format.width (λ bytes. reversed_option (k.format.parsed bytes)) (λ x. k.written x.inner)

abbrev by_reversal : {K : Type 0} → StoredKind K → Bool → Input → Answer Output
by_reversal k false = evaluated k
by_reversal k true = evaluated (reversed_kind k)

-- an evaluation for the kind or its reversal
abbrev pub evaluated_as : BaseKind → Bool → Input → Answer Output
evaluated_as Presence = by_reversal presence
evaluated_as Level = by_reversal level
evaluated_as Classes = by_reversal class_set
