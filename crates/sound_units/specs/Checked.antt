-- What the checks found of an expression at its place, and where its sites stand in a unit's tables.
use Rattle.std.specs.Prelude.{◌≡◌, ℕ, Bool, true, false, List, Option, Some, flat_map}
use Rattle.std.specs.List.{list_any}
use Rattle.f77_tree.specs.declared.expr.Expr.{Expr, out-Expr}
use Rattle.f77_tree.specs.declared.unit.Ty.{Ty}
use Rattle.f77_tree.specs.declared.unit.Ty.TheVariants as types
use Rattle.f77_tree.specs.declared.unit.Value.{Value}
use Rattle.f77_names.specs.declared.intrinsics.Intrinsic.{Intrinsic}
use Rattle.f77_names.specs.declared.occurrences.Manner.{Manner}
use Rattle.f77_names.specs.declared.occurrences.Manner.TheVariants as manner
use Rattle.f77_names.specs.declared.occurrences.Occurrence.{Occurrence}
use Rattle.f77_names.specs.declared.facts.Facts.{Facts}
use Rattle.f77_names.specs.Intrinsics.{intrinsic_of}
use Rattle.f77_values.specs.Tables.{Name, Told}
use Rattle.f77_names.specs.Roles.{type_of}
use Rattle.check_types.specs.declared.places.Place.{Place}
use Rattle.check_types.specs.declared.places.Place.TheVariants.{Value as Valued, Actual, Named}
use Rattle.f77_names.specs.declared.standings.Standing.{Standing}
use Rattle.f77_names.specs.declared.standings.Standing.TheVariants as standing
use Rattle.f77_names.specs.Standings.{standing_of}
use Rattle.check_types.specs.WrongTypes.{differs, is_mistyped}
use Rattle.check_types.specs.Scalars.{is_misplaced}
use Rattle.check_types.specs.Exponents.{has_wrong_exponent}
use Rattle.f77_semantics.specs.Values.{has_type}
use Rattle.f77_semantics.specs.Program.{Term, End, ◌and◌}
use Rattle.f77_semantics.specs.declared.storage.Base.{Base}
use Rattle.f77_semantics.specs.declared.storage.Array.{Array}
use Rattle.f77_semantics.specs.Terms as names
use Rattle.f77_semantics.specs.Terms.{Meant}
use Rattle.f77_semantics.specs.Effects.{Effects, ScalarOk, ArrayOk, TermOk, ActualsOk}
use Rattle.prog_texts.specs.declared.mentions.Mention.{Mention}
use Rattle.prog_texts.specs.declared.mentions.Mention.TheVariants.{Site, Block, DummyProcedure}
use Rattle.prog_check.specs.Checks.{passes_procedure}
use Rattle.prog_texts.specs.Mentions.{is_procedure, in_expr}
use Rattle.sound_units.specs.Texts.{has_text}

-- a procedure as an argument (fault 35)
abbrev pub passing : Mention → Bool
passing (Site s) = passes_procedure s
passing (Block name line) = false
passing (DummyProcedure line) = true

-- no name of a procedure by itself as an actual
abbrev pub Unpassed : Place → Bool → Type 0
Unpassed Actual procedure = procedure ≡ false
Unpassed _ procedure = Unit {0}

-- a place of an expression that is evaluated or passed
abbrev pub IsUse : Place → Type 0
IsUse Named = ⊥
IsUse _ = Unit {0}

-- An expression at its place has none of the faults 19, 21 and 26, under the named constants that are known there, and passes no
-- procedure.
pub record Checked (f : Facts) (named : Told Value) (line : ℕ) (p : Place) (e : Expr) : Type 0 where
  pub typed : is_mistyped f p e ≡ false
  pub placed : is_misplaced f p e ≡ false
  pub exponents : has_wrong_exponent named e ≡ false
  pub texts : has_text e ≡ false
  pub procedures : list_any passing (in_expr f line e) ≡ false
  pub unpassed : Unpassed p (is_procedure f (out-Expr e))

pub record AllChecked (f : Facts) (named : Told Value) (line : ℕ) (p : Place) (es : List Expr) : Type 0 where
  pub typed : list_any (is_mistyped f p) es ≡ false
  pub placed : list_any (is_misplaced f p) es ≡ false
  pub exponents : list_any (has_wrong_exponent named) es ≡ false
  pub texts : list_any has_text es ≡ false
  pub procedures : list_any passing (flat_map (in_expr f line) es) ≡ false
  pub unpassed : Unpassed p (list_any (λ e. is_procedure f (out-Expr e)) es)

-- what a name stands for, by its role
module _ (f : Facts) (meant : Name → Meant) (S : Effects) where
  pub record StandsForVariable (name : Name) : Type 0 where
    pub ty : Ty
    pub base : Base
    pub meant_is : meant name ≡ names.Variable ty base
    pub type_is : type_of f name ≡ Some ty
    pub fits : ScalarOk S base

  pub record StandsForArray (name : Name) : Type 0 where
    pub ty : Ty
    pub array : Array
    pub meant_is : meant name ≡ names.AnArray ty array
    pub type_is : type_of f name ≡ Some ty
    pub fits : ArrayOk S array

  pub record StandsForConstant (name : Name) : Type 0 where
    pub ty : Ty
    pub value : Value
    pub meant_is : meant name ≡ names.Constant value
    pub type_is : type_of f name ≡ Some ty
    pub fits : has_type ty value ≡ true

  pub record StandsForIntrinsic (name : Name) : Type 0 where
    pub function : Intrinsic
    pub meant_is : meant name ≡ names.AnIntrinsic function
    pub type_is : type_of f name ≡ Some types.Integer
    pub named : intrinsic_of name ≡ Some function

  pub record StandsForFunction (name : Name) : Type 0 where
    pub ty : Ty
    pub meant_is : meant name ≡ names.Function
    pub type_is : type_of f name ≡ Some ty

  abbrev pub StandsFor : Standing → Name → Type 0
  StandsFor standing.Scalar name = StandsForVariable name
  StandsFor standing.Array name = StandsForArray name
  StandsFor standing.Constant name = StandsForConstant name
  StandsFor standing.Intrinsic name = StandsForIntrinsic name
  StandsFor standing.Function name = StandsForFunction name
  StandsFor _ name = Unit {0}

  -- what can have a list
  abbrev pub HasList : Standing → Type 0
  HasList standing.Array = Unit {0}
  HasList standing.Intrinsic = Unit {0}
  HasList standing.Function = Unit {0}
  HasList _ = ⊥

  -- what can stand behind CALL
  abbrev pub IsSubroutine : Standing → Type 0
  IsSubroutine standing.Subroutine = Unit {0}
  IsSubroutine standing.Procedure = Unit {0}
  IsSubroutine _ = ⊥

  abbrev pub ListFits : Manner → Standing → Type 0
  ListFits manner.Listed st = HasList st
  ListFits manner.Called st = IsSubroutine st
  ListFits _ st = Unit {0}

  -- A name in an expression stands for what its role says, and has a list, or stands behind CALL, only
  -- where the role allows it.
  pub record NameFits (o : Occurrence) : Type 0 where
    pub stands : StandsFor (standing_of f o.name) o.name
    pub lists : ListFits o.manner (standing_of f o.name)

-- a term with a type that may stand where this one is wanted
pub record ValueOk (S : Effects) (wanted : Option Ty) (t : Term) : Type 0 where
  pub ty : Ty
  pub fits : TermOk S ty t
  pub wants : differs wanted (Some ty) ≡ false

abbrev pub TermFits : Effects → Place → Term → Type 0
TermFits S (Valued wanted) t = ValueOk S wanted t
TermFits S Actual t = ActualsOk S (t and End)
TermFits S Named t = Unit {0}
