-- What a text is as a program: its units, their trees, and the thin program that they are; and the fault of a text that is none.
use Rattle.std.specs.Prelude.{ℕ, List}
use Rattle.f77_tree.specs.declared.fault.SourceFault.{SourceFault}
use Rattle.f77_tree.specs.declared.fault.Refused.{Refused}
use Rattle.f77_tree.specs.declared.fault.Refused.TheVariants.{Fault, OutOfMemory as Starved}
use Rattle.f77_tree.specs.declared.unit.Unit.{Unit as SourceUnit}
use Rattle.fixed_form.specs.declared.reader.UnitText.{UnitText}
use Rattle.fixed_form.specs.Lines.{lines_of}
use Rattle.fixed_form.specs.Reading.{Reads, IsFirstFault as IsReadingFault}
use Rattle.rn_draft.specs.Accepted.{Accepted, IsFirstFault}
use Rattle.rn_draft.specs.Drafts.{drafted}
use Rattle.thin_form.specs.declared.statement.Statement.{Statement}
use Rattle.thin_text.specs.Thin.{IsThin, IsThinFault}

-- The text is this thin program: its units are accepted, where a later one takes the place of one of its name, and they are thin.
pub record IsThinText (bytes : List ℕ) (body : List Statement) : Type 0 where
  pub units : List UnitText
  pub reads : Reads (lines_of bytes) units
  pub trees : List SourceUnit
  pub accepted : Accepted (drafted units) trees
  pub thin : IsThin units body

-- The fault of the reading, else that of the draft, else that of a text that isn't thin.
pub data IsTextFault (fault : SourceFault) (bytes : List ℕ) : Type 0 where
  of_reading : IsReadingFault fault (lines_of bytes) → IsTextFault fault bytes
  of_draft : (units : List UnitText) → Reads (lines_of bytes) units → IsFirstFault fault (drafted units) → IsTextFault fault bytes
  of_form : (units : List UnitText) (trees : List SourceUnit) → Reads (lines_of bytes) units → Accepted (drafted units) trees → IsThinFault fault units → IsTextFault fault bytes

-- the cause of a refusal
abbrev pub Explains : Refused → List ℕ → Type 0
Explains (Fault fault) bytes = IsTextFault fault bytes
Explains Starved bytes = Unit {0}
