-- The slots of a unit in their areas (ANSI X3.9-1978, sections 8.3 and 17.1).
use Rattle.std.specs.Prelude.{◌≡◌, ℕ, ◌+◌, ◌<◌, ◌≤◌, Some, ◌⊎◌, false, unwrap_or, slice_get}
use Rattle.f77_tree.specs.declared.unit.Unit.{Unit as SourceUnit}
use Rattle.f77_values.specs.Tables.{what, most}
use Rattle.f77_store.specs.declared.storage.Area.{Area}
use Rattle.f77_store.specs.declared.storage.Area.TheVariants.{Dummy, Local, Common}
use Rattle.f77_store.specs.declared.storage.Slot.{Slot}
use Rattle.f77_store.specs.Layouts.{slots, local_size, blocks}

-- the local area or a block; a dummy has the storage of its actual
abbrev pub IsStored : Area → Type 0
IsStored (Dummy k) = ⊥
IsStored _ = Unit {0}

-- the number of storage units of an area of a unit
abbrev pub size_in : SourceUnit → Area → ℕ
size_in u (Dummy k) = 0
size_in u Local = local_size u
size_in u (Common block) = unwrap_or (what (blocks u) block) 0

-- The size is exact, and no number that stands for all greater ones.
abbrev pub IsCounted : SourceUnit → Area → Type 0
IsCounted u area = size_in u area < most

-- the i-th slot of a unit has storage in such an area
pub record IsSlot (u : SourceUnit) (i : ℕ) (s : Slot) : Type 0 where
  pub stands : slice_get (slots u) i ≡ Some s
  pub stored : IsStored s.area
  pub counted : IsCounted u s.area

-- The units of a slot lie within its area.
abbrev pub SlotsLieWithin : Type 0
SlotsLieWithin = (u : SourceUnit) (i : ℕ) (s : Slot) → IsSlot u i s → s.from + s.size ≤ size_in u s.area

-- Of two slots in an area one ends where the other begins, or before.
abbrev pub SlotsStandApart : Type 0
SlotsStandApart = (u : SourceUnit) (i j : ℕ) (s t : Slot) → IsSlot u i s → IsSlot u j t → (i ≡ j → ⊥) → s.area ≡ t.area → (s.from + s.size ≤ t.from) ⊎ (t.from + t.size ≤ s.from)

-- What is no array has one storage unit.
abbrev pub ScalarsAreSingle : Type 0
ScalarsAreSingle = (u : SourceUnit) (i : ℕ) (s : Slot) → slice_get (slots u) i ≡ Some s → s.is_array ≡ false → s.size ≡ 1
