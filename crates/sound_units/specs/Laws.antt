-- What the checks give: terms of their types, and units as their effects say.
use Rattle.std.specs.Prelude.{◌≡◌, ℕ, ℤ, true, List, take}
use Rattle.f77_tree.specs.declared.expr.Expr.{Expr}
use Rattle.f77_tree.specs.declared.unit.Unit.{Unit as SourceUnit}
use Rattle.f77_values.specs.Constants.{constants}
use Rattle.f77_names.specs.Occurrences.{in_expr}
use Rattle.f77_names.specs.declared.roles.Role.TheVariants as roles
use Rattle.f77_values.specs.Tables.{Name, is_among}
use Rattle.f77_names.specs.Roles.{facts, role}
use Rattle.f77_store.specs.Layouts.{callees, callees_with}
use Rattle.check_types.specs.declared.places.Place.{Place}
use Rattle.f77_check.specs.UnitFaults.{IsSound}
use Rattle.f77_semantics.specs.Terms.{resolved, term_from}
use Rattle.prog_check.specs.ProgramFaults.{IsAccepted}
use Rattle.run_model.specs.Runs.{Wrong}
use Rattle.f77_semantics.specs.Effects.{UnitOk}
use Rattle.f77_semantics.specs.Sites.{FunctionsAgree}
use Rattle.f77_semantics.specs.Source.{routine, Source}
use Rattle.sound_units.specs.Sites.{Each, Part, calls}
use Rattle.sound_units.specs.Checked.{IsUse, Checked, NameFits as NameFitsAs, TermFits}
use Rattle.sound_units.specs.Units.{meant_of, passed, effects}
use Rattle.sound_units.specs.Accepted.{IsTextOf, PassesNoProcedure, NamesFit, AllAreGood, NamesDiffer}

-- Where an expression stands in its unit: its names stand for what their roles say, and from its first site on its callees and what they
-- pass are the unit's.
pub record StandsIn (u : SourceUnit) (site : ℕ) (e : Expr) : Type 0 where
  pub names : Each (NameFitsAs (facts u) (meant_of u) (effects u)) (in_expr e)
  pub callees_are : Part (callees u) site (callees_with (facts u) (in_expr e))
  pub passed_are : Part (passed u) site (calls (term_from site (resolved (meant_of u) e)))

-- In a unit without fault 12 the names with the role of a function are those that are applied as functions.
abbrev pub FunctionsAreApplied : Type 0
FunctionsAreApplied = (u : SourceUnit) → IsSound u → IsTextOf u → FunctionsAgree (facts u) (meant_of u)

-- What stands behind CALL is a subroutine.
abbrev pub CalledAreSubroutines : Type 0
CalledAreSubroutines = (u : SourceUnit) → IsSound u → IsTextOf u → (name : Name) → is_among (facts u).attributes.called name ≡ true → role (facts u) name ≡ roles.Subroutine

-- The names of a unit that passed its checks stand for what their roles say.
abbrev pub NamesStand : Type 0
NamesStand = (u : SourceUnit) → IsSound u → IsTextOf u → PassesNoProcedure u → NamesFit u

-- An expression that passed the checks at its place in statement k is a term with the type that is wanted there, or an actual.
abbrev pub TermsHaveTypes : Type 0
TermsHaveTypes = (u : SourceUnit) → IsSound u → IsTextOf u → PassesNoProcedure u → (k line : ℕ) (p : Place) (site : ℕ) (e : Expr) → IsUse p → Checked (facts u) (constants (take k u.statements)) line p e → StandsIn u site e
    → TermFits (effects u) p (term_from site (resolved (meant_of u) e))

-- A unit that a text gave and that passed the checks of its statements is as its effects say.
abbrev pub UnitsAreSound : Type 0
UnitsAreSound = (u : SourceUnit) → IsSound u → IsTextOf u → PassesNoProcedure u → UnitOk (routine u) (effects u)

-- An accepted program of such units has no run that is wrong.
abbrev pub ProgramsAreNeverStuck : Type 0
ProgramsAreNeverStuck = (units : List SourceUnit) → AllAreGood units → NamesDiffer units → IsAccepted units → (input : List ℤ) (n : ℕ) → Source units input n ≡ Wrong → ⊥
