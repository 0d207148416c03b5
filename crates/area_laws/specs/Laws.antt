-- Runs of an accepted program stay in its areas.
use Rattle.std.specs.Prelude.{◌≡◌, ℕ, Some, List, [], ℤ, map, length}
use Rattle.run_model.specs.Storage.{Value, Loc, Cells}
use Rattle.run_model.specs.Acts.{World, Outcome, Fine, Stop}
use Rattle.f77_tree.specs.declared.unit.Unit.{Unit as SourceUnit}
use Rattle.f77_semantics.specs.Units.{Program, meaning, named, fresh_world}
use Rattle.f77_semantics.specs.Source.{main_of, routine}
use Rattle.prog_check.specs.ProgramFaults.{IsAccepted}
use Rattle.sound_units.specs.Accepted.{AllAreGood, NamesDiffer}
use Rattle.area_laws.specs.Areas.{InArea, Inside, locations, OneOf}
use Rattle.area_laws.specs.Touches.{RunTouches}

-- An accepted program of units that a text gave, with its main program.
pub record IsProgram (units : List SourceUnit) (main : SourceUnit) : Type 0 where
  pub good : AllAreGood units
  pub differ : NamesDiffer units
  pub accepted : IsAccepted units
  pub is_main : main_of units ≡ Some main

-- the routines of a program, by their names
abbrev pub program_of : List SourceUnit → SourceUnit → Program
program_of units main = named (map routine units) (routine main)

-- the world that a run begins with
abbrev pub start : List SourceUnit → List ℤ → ℕ → World
start units input n = fresh_world (map routine units) input n

-- On every input and for every number of steps, the run that `Source` tells of touches no location at or past the end of its area, and
-- passes no interval that ends past it.
abbrev pub RunsStayInAreas : Type 0
RunsStayInAreas = (units : List SourceUnit) (main : SourceUnit) → IsProgram units main → (input : List ℤ) (n : ℕ) → RunTouches (InArea units) (Inside units) (program_of units main) (length (map routine units)) main.name [] (start units input n)

-- the world that a run has come to
abbrev pub world_of : {A : Type 0} → Outcome A → World
world_of (Fine a w) = w
world_of (Stop r w) = w

-- the cells after so many steps
abbrev pub cells_after : List SourceUnit → SourceUnit → List ℤ → ℕ → Cells
cells_after units main input n = (world_of (meaning (program_of units main) (length (map routine units)) main.name [] (start units input n))).cells

-- All cells that ever have a value lie before the ends of their areas.
abbrev pub ValuesLieInAreas : Type 0
ValuesLieInAreas = (units : List SourceUnit) (main : SourceUnit) → IsProgram units main → (input : List ℤ) (n : ℕ) (l : Loc) (v : Value) → cells_after units main input n l ≡ Some v → InArea units l

-- These are finitely many.
abbrev pub AreasAreFinite : Type 0
AreasAreFinite = (units : List SourceUnit) (l : Loc) → InArea units l → OneOf (locations units) l
