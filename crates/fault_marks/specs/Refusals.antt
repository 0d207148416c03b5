-- A fault of a unit as the cause of a refusal.
use Rattle.std.specs.Prelude.{◌≡◌, ℕ, List, Some}
use Rattle.f77_tree.specs.declared.fault.SourceFault.{SourceFault}
use Rattle.f77_tree.specs.declared.fault.Refused.{Refused}
use Rattle.f77_tree.specs.declared.fault.Refused.TheVariants.{Fault, OutOfMemory}
use Rattle.fault_marks.specs.declared.marks.Mark.{Mark}

abbrev pub fault_of : List ℕ → Mark → SourceFault
fault_of name mark = record { number = mark.number; place = record { unit = Some name; line = mark.line }; limit = mark.limit }

abbrev pub RefusesMark : Refused → List ℕ → Mark → Type 0
RefusesMark (Fault fault) name mark = fault ≡ fault_of name mark
RefusesMark OutOfMemory name mark = Unit {0}
