-- Actuals fit dummies in an accepted program.
use Rattle.std.specs.Prelude.{◌≡◌, ℕ, Some, List, slice_get}
use Rattle.f77_tree.specs.declared.unit.Unit.{Unit as SourceUnit}
use Rattle.prog_check.specs.ProgramFaults.{IsAccepted}
use Rattle.f77_semantics.specs.Statements.{statement}
use Rattle.f77_semantics.specs.Source.{routine}
use Rattle.sound_units.specs.Accepted.{AllAreGood, NamesDiffer}
use Rattle.actual_laws.specs.Calls.{InStatement}
use Rattle.actual_laws.specs.Fits.{SiteFits}

-- In an accepted program of units that a text gave, with different names, each call in each statement of a unit's routine passes what fits the callee.
abbrev pub ActualsFitDummies : Type 0
ActualsFitDummies = (units : List SourceUnit) → AllAreGood units → NamesDiffer units → IsAccepted units → (place : ℕ) (u : SourceUnit) → slice_get units place ≡ Some u → (k : ℕ) → InStatement (SiteFits units u) (statement (routine u) k)
