-- What the data on a unit stand for.
use Rattle.std.specs.Prelude.{◌≡◌, List, Option, Some, None, map, flat_map}
use Rattle.f77_tree.specs.declared.unit.Ty.{Ty}
use Rattle.f77_tree.specs.declared.unit.Unit.{Unit}
use Rattle.f77_values.specs.Tables.{Name}
use Rattle.f77_semantics.specs.Program as program
use Rattle.f77_semantics.specs.Data as given
use Rattle.f77_semantics.specs.Resolve.{statements_from}
use Rattle.f77_semantics.specs.Source as source
use Rattle.f77_semantics.specs.declared.storage.Base.{Base}
use Rattle.interp_data.specs.declared.lookup.Lookup.{Lookup}
use Rattle.interp_lower.specs.declared.piece.Line.{Line}
use Rattle.interp_lower.specs.declared.routine.Routine.{Routine}
use Rattle.interp_data.specs.Meant.{meant}
use Rattle.interp_lower.specs.Lines.{AreLines}
use Rattle.interp_lower.specs.Routines.{dummy_of, dummy_as}
use Rattle.interp_data.specs.Spans.{units_of}

-- The data are those of a unit: its statements line by line, and all else but where control goes.
pub record StandsFor (r : Routine) (u : program.Routine) : Type 0 where
  pub name : r.name ≡ u.name
  pub statements : AreLines r.lines u.statements
  pub callees : r.callees ≡ u.callees
  pub dummy_arrays : map dummy_of r.dummy_arrays ≡ map dummy_as u.dummy_arrays
  pub result : r.result ≡ u.result
  pub kept : r.cells.kept ≡ u.kept
  pub initial : flat_map units_of r.cells.initial ≡ u.initial

-- a unit with its names, and with the callees of its sites
abbrev pub looked_up : Lookup → List Name → Unit → program.Routine
looked_up names callees u = record (source.routine u) {
  statements = statements_from (meant names) names.facts (source.is_main u.kind) u.statements 0 1 u.statements;
  callees = callees;
  dummy_arrays = source.dummy_arrays_from names.facts (meant names) 0 u.dummies;
  result = source.result_of u.kind (meant names u.name);
  kept = given.kept u.statements names.slots;
  initial = given.initial names.facts.constants (meant names) u.statements;
}

abbrev pub Stands : Routine → Lookup → List Name → Unit → Type 0
Stands r names callees u = StandsFor r (looked_up names callees u)

-- all but the lines, which are given
pub record Parts (r : Routine) (names : Lookup) (u : Unit) (lines : List Line) (callees : List Name) : Type 0 where
  pub name : r.name ≡ u.name
  pub lines_ : r.lines ≡ lines
  pub callees_ : r.callees ≡ callees
  pub dummy_arrays : map dummy_of r.dummy_arrays ≡ map dummy_as (source.dummy_arrays_from names.facts (meant names) 0 u.dummies)
  pub result : r.result ≡ source.result_of u.kind (meant names u.name)
  pub kept : r.cells.kept ≡ given.kept u.statements names.slots
  pub initial : flat_map units_of r.cells.initial ≡ given.initial names.facts.constants (meant names) u.statements
