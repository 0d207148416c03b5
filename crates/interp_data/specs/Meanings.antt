-- What the data on names stand for, and what a table tells of the names of slots.
use Rattle.std.specs.Prelude.{◌≡◌, List, Option, Some, None, Bool, true, false, if◌then◌else◌}
use Rattle.f77_names.specs.declared.facts.Facts.{Facts}
use Rattle.f77_store.specs.declared.storage.Slot.{Slot}
use Rattle.f77_values.specs.Tables.{Name, Told, name_eq, what}
use Rattle.f77_names.specs.Roles.{role}
use Rattle.f77_semantics.specs.Terms as terms
use Rattle.f77_semantics.specs.Terms.{Meant, meant_as}
use Rattle.f77_semantics.specs.Source.{slot_named}
use Rattle.interp_data.specs.declared.meaning.Meaning.{Meaning}
use Rattle.interp_data.specs.declared.meaning.Meaning.TheVariants.{Constant, Variable, Array, Function, Intrinsic, Unknown}

abbrev pub meant_of : Meaning → Meant
meant_of (Constant v) = terms.Constant v
meant_of (Variable ty b) = terms.Variable ty b
meant_of (Array ty a) = terms.AnArray ty a
meant_of Function = terms.Function
meant_of (Intrinsic i) = terms.AnIntrinsic i
meant_of Unknown = terms.Unknown

-- the one meaning that stands for something
abbrev pub meaning_as : Meant → Meaning
meaning_as (terms.Constant v) = Constant v
meaning_as (terms.Variable ty b) = Variable ty b
meaning_as (terms.AnArray ty a) = Array ty a
meaning_as terms.Function = Function
meaning_as (terms.AnIntrinsic i) = Intrinsic i
meaning_as terms.Unknown = Unknown

-- ---- what a table tells

abbrev pub is_told : Option Meaning → Bool
is_told None = false
is_told (Some m) = true

-- what is told of a name, or else what it stands for with this slot
abbrev pub told_or : Facts → Name → Option Meaning → Option Slot → Meaning
told_or f q (Some m) slot = m
told_or f q None slot = meaning_as (meant_as f.constants q (role f q) slot)

abbrev pub slot_before : Name → Slot → Option Slot → Option Slot
slot_before q s others = if name_eq q s.name then Some s else others

-- A table with a slot more tells what the table before told, or else what that slot says, where it has the name.
abbrev pub TellsMore : Facts → Slot → Told Meaning → Told Meaning → Type 0
TellsMore f s old new = (q : Name) (others : Option Slot) → told_or f q (what new q) others ≡ told_or f q (what old q) (slot_before q s others)

abbrev pub Tells : Facts → List Slot → Told Meaning → Type 0
Tells f slots told = (q : Name) → told_or f q (what told q) None ≡ told_or f q None (slot_named slots q)
