-- Units taken one after another.
use Rattle.std.specs.Prelude.{◌≤◌, List}
use Rattle.f77_tree.specs.declared.fault.Refused.{Refused}
use Rattle.f77_tree.specs.declared.fault.Refused.TheVariants.{Fault, OutOfMemory as Starved}
use Rattle.f77_tree.specs.declared.unit.Unit.{Unit as SourceUnit}
use Rattle.fixed_form.specs.declared.reader.UnitText.{UnitText}
use Rattle.rn_draft.specs.Accepted.{IsUnitFault, IsFaultAmong}

abbrev pub HasFewTokens : SourceUnit → Type 0
HasFewTokens unit = unit.tokens ≤ 20000

-- the refusal of one unit
abbrev pub ExplainsUnit : Refused → UnitText → Type 0
ExplainsUnit (Fault fault) u = IsUnitFault fault u
ExplainsUnit Starved u = Unit {0}

-- the refusal of the first unit that has a fault
abbrev pub ExplainsAmong : Refused → List UnitText → Type 0
ExplainsAmong (Fault fault) units = IsFaultAmong fault units
ExplainsAmong Starved units = Unit {0}
