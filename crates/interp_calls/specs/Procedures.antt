-- Procedures, and the units of a program that they are.
use Rattle.std.specs.Prelude.{◌≡◌, ℕ, zero, suc, List, [], ◌∷◌, Some, get_or, slice_get, length, map}
use Rattle.f77_values.specs.Tables.{Name}
use Rattle.f77_flow.specs.Blocks as blocks
use Rattle.interp_cells.specs.Rows.{is_marked}
use Rattle.f77_semantics.specs.Program.{Routine}
use Rattle.f77_semantics.specs.Units.{Program, is_kept, is_array}
use Rattle.interp_turns.specs.Flows.{Follows}
use Rattle.interp_lower.specs.Units.{StandsFor}
use Rattle.interp_calls.specs.declared.procedure.Procedure.{Procedure}

-- The place of the unit that is called at a site. Sites are numbered from 1.
abbrev pub place : (own : ℕ) → List ℕ → (site : ℕ) → ℕ
place own callees zero = own
place own callees (suc k) = get_or callees k own

-- A procedure is this unit, where the unit of a name is found at a place.
pub record IsUnit (find : Name → ℕ) (p : Procedure) (u : Routine) : Type 0 where
  pub stands : StandsFor p.routine u
  pub follows : Follows u p.control.statements.now
  pub first : u.first ≡ blocks.first p.control.statements.now
  pub lines : length u.statements ≡ length p.control.statements.now
  pub kept : (k : ℕ) → is_marked p.kept.items k ≡ is_kept u.kept k
  pub arrays : (j : ℕ) → is_marked p.arrays.items j ≡ is_array u.dummy_arrays j
  pub own : p.own ≡ find u.name
  pub callees : p.callees.items ≡ map find u.callees

-- in whatever unit a procedure is
abbrev pub InEach : Procedure → (Routine → Type 0) → Type 0
InEach p P = (find : Name → ℕ) (u : Routine) → IsUnit find p u → P u

-- procedures and units one by one
abbrev pub AreUnits : (Name → ℕ) → List Procedure → List Routine → Type 0
AreUnits find [] [] = Unit {0}
AreUnits find (p ∷ ps) (u ∷ us) = IsUnit find p u × AreUnits find ps us
AreUnits find _ _ = ⊥

-- The procedures are units of a program, among which each of its names is found.
pub record Represents (ps : List Procedure) (all : List Routine) (units : Program) : Type 0 where
  pub find : Name → ℕ
  pub each : AreUnits find ps all
  pub found : (q : Name) → slice_get all (find q) ≡ Some (units q)

-- a procedure is a unit of the program that these procedures are
pub record IsOf (ps : List Procedure) (p : Procedure) (units : Program) (u : Routine) : Type 0 where
  pub all : List Routine
  pub represents : Represents ps all units
  pub unit : IsUnit represents.find p u
