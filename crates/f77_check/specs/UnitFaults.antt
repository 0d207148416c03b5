-- The faults of a unit beyond its forms: of names, of labels and nesting, of types, and of constants and DATA. A unit is accepted
-- where none of them shows.
use Rattle.std.specs.Prelude.{◌≡◌, ◌⊎◌}
use Rattle.f77_tree.specs.declared.fault.SourceFault.{SourceFault}
use Rattle.f77_tree.specs.declared.fault.Refused.{Refused}
use Rattle.f77_tree.specs.declared.fault.Refused.TheVariants.{Fault, OutOfMemory}
use Rattle.f77_tree.specs.declared.unit.Unit.{Unit as SourceUnit}
use Rattle.fault_marks.specs.declared.marks.Mark.{Mark}
use Rattle.fault_marks.specs.Marks.{IsFirst}
use Rattle.fault_marks.specs.Refusals.{fault_of}
use Rattle.check_names.specs.NameFaults.{NameFaults}
use Rattle.check_jumps.specs.Faults.{JumpFaults}
use Rattle.check_types.specs.TypeFaults.{TypeFaults}
use Rattle.check_constants.specs.Faults.{ConstantFaults}
use Rattle.check_data.specs.Faults.{DataFaults}

-- those of constants and DATA: 22 and 23
abbrev pub ValueFaults : SourceUnit → Mark → Type 0
ValueFaults u mark = ConstantFaults u mark ⊎ DataFaults u mark

-- A statement of the unit shows the fault.
pub data UnitFaults (u : SourceUnit) (mark : Mark) : Type 0 where
  -- 12, 13, 24, and 37 of an array
  of_names : NameFaults u mark → UnitFaults u mark
  -- 14 to 18
  of_jumps : JumpFaults u.statements mark → UnitFaults u mark
  -- 19, 20, 21, 25 and 26
  of_types : TypeFaults u mark → UnitFaults u mark
  -- 22
  of_constants : ConstantFaults u mark → UnitFaults u mark
  -- 23
  of_data : DataFaults u mark → UnitFaults u mark

-- The unit has no fault.
pub record IsSound (u : SourceUnit) : Type 0 where
  pub none : (mark : Mark) → UnitFaults u mark → ⊥

-- the first fault of the unit, by line and then by number
pub record IsUnitFault (fault : SourceFault) (u : SourceUnit) : Type 0 where
  pub mark : Mark
  pub first : IsFirst (UnitFaults u) mark
  pub told : fault ≡ fault_of u.name mark

-- the cause of a refusal
abbrev pub Explains : Refused → SourceUnit → Type 0
Explains (Fault fault) u = IsUnitFault fault u
Explains OutOfMemory u = Unit {0}
