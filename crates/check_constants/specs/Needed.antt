-- Where a constant expression is needed and there is none (ANSI X3.9-1978, sections 5.1, 8.6 and 9): values of PARAMETER, bounds of
-- arrays, and subscripts of DATA.
use Rattle.std.specs.Prelude.{Bool, true, false, not, ◌&&◌, ◌||◌, if◌then◌else◌, Option, Some, None, List, [], ◌∷◌, ◌==◌, length, ℤ, int_lt, is_some}
use Rattle.std.specs.List.{list_any}
use Rattle.f77_tree.specs.declared.expr.Expr.{Expr, out-Expr}
use Rattle.f77_tree.specs.declared.expr.Expr.TheOpen.{Expr-F}
use Rattle.f77_tree.specs.declared.form.DataConst.{DataConst}
use Rattle.f77_tree.specs.declared.form.Declarator.{Declarator}
use Rattle.f77_tree.specs.declared.form.Form.{Form, out-Form}
use Rattle.f77_tree.specs.declared.form.Form.TheOpen.{Form-F}
use Rattle.f77_tree.specs.declared.unit.Stmt.{Stmt}
use Rattle.f77_tree.specs.declared.unit.Ty.{Ty}
use Rattle.f77_tree.specs.declared.unit.Ty.TheVariants.{Integer}
use Rattle.f77_store.specs.declared.areas.Place.{Place}
use Rattle.f77_names.specs.declared.facts.Facts.{Facts}
use Rattle.f77_values.specs.Tables.{Name, Told, is_among, what}
use Rattle.f77_names.specs.Roles.{type_of}
use Rattle.f77_names.specs.Standings.{standing_of, is_scalar}
use Rattle.f77_values.specs.Sizes.{Bounds, lower, upper}
use Rattle.check_constants.specs.declared.defined.Defined.{Defined}
use Rattle.check_constants.specs.Defined.{with_definition}
use Rattle.check_constants.specs.Expressions.{is_made_of, judged}

-- named constants that are defined before, in parentheses and between operators
abbrev pub is_constant : Defined → Expr → Bool
is_constant d e = is_made_of (is_among d.names) e

-- no constant expression, or one with a zero divisor
abbrev pub is_no_constant : Defined → Expr → Bool
is_no_constant d e = not (is_constant d e) || (judged d.values e).zero_divisor

abbrev pub is_integer : Option Ty → Bool
is_integer (Some Integer) = true
is_integer _ = false

-- PARAMETER, definition by definition
abbrev pub lacks_values : Defined → List (Name × Expr) → Bool
lacks_values d [] = false
lacks_values d (definition ∷ others) = is_no_constant d definition.1 || lacks_values (with_definition d definition) others

abbrev pub reversed : Option ℤ → Option ℤ → Bool
reversed (Some low) (Some high) = int_lt high low
reversed _ _ = false

-- an upper bound below its lower bound, where both are constant
abbrev pub is_reversed : Defined → Option Expr × Option Expr → Bool
is_reversed d bound = reversed (lower d.values bound.0) (upper d.values bound.1)

-- the subscripts of an item of DATA
abbrev pub item_lacks : Defined → Expr-F Expr → Bool
item_lacks d (Expr-F.Apply name list) = list_any (is_no_constant d) list
item_lacks d _ = false

abbrev pub run_lacks : Defined → List Expr × List DataConst → Bool
run_lacks d run = list_any (λ e. item_lacks d (out-Expr e)) run.0

module _ (f : Facts) (commons : Told Place) where
  -- a scalar dummy or a scalar in COMMON, of type INTEGER
  abbrev pub is_adjustable : Name → Bool
  is_adjustable name = is_scalar (standing_of f name) && (is_integer (type_of f name) && (is_among f.attributes.dummies name || is_some (what commons name)))

  abbrev pub is_known : List Name → Name → Bool
  is_known constants name = is_among constants name || is_adjustable name

  -- A bound of a dummy may have such scalars; its zero divisors are left to the run.
  abbrev pub is_no_bound : Defined → Bool → Expr → Bool
  is_no_bound d dummy e = if dummy then not (is_made_of (is_known d.names) e) else is_no_constant d e

  abbrev pub lower_lacks : Defined → Bool → Option Expr → Bool
  lower_lacks d dummy None = false
  lower_lacks d dummy (Some e) = is_no_bound d dummy e

  -- `*` stands in a dummy alone, as the last upper bound.
  abbrev pub upper_lacks : Defined → Bool → Bool → Option Expr → Bool
  upper_lacks d dummy last None = not (dummy && last)
  upper_lacks d dummy last (Some e) = is_no_bound d dummy e

  abbrev pub bound_lacks : Defined → Bool → Bool → Option Expr × Option Expr → Bool
  bound_lacks d dummy last bound = lower_lacks d dummy bound.0 || (upper_lacks d dummy last bound.1 || is_reversed d bound)

  abbrev pub bounds_lack : Defined → Bool → Bounds → Bool
  bounds_lack d dummy [] = false
  bounds_lack d dummy (bound ∷ others) = bound_lacks d dummy (length others == 0) bound || bounds_lack d dummy others

  abbrev pub declarator_lacks : Defined → Declarator → Bool
  declarator_lacks d declarator = bounds_lack d (is_among f.attributes.dummies declarator.name) declarator.bounds

  abbrev pub block_lacks : Defined → Name × List Declarator → Bool
  block_lacks d block = list_any (declarator_lacks d) block.1

  abbrev pub form_lacks : Defined → Form-F Form → Bool
  form_lacks d (Form-F.Parameter definitions) = lacks_values d definitions
  form_lacks d (Form-F.Typed ty all) = list_any (declarator_lacks d) all
  form_lacks d (Form-F.Dimension all) = list_any (declarator_lacks d) all
  form_lacks d (Form-F.Common blocks) = list_any (block_lacks d) blocks
  form_lacks d (Form-F.DataRuns runs) = list_any (run_lacks d) runs
  form_lacks d _ = false

  -- a statement, under what is defined before it
  abbrev pub statement_lacks : Defined → Stmt → Bool
  statement_lacks d s = form_lacks d (out-Form s.form)
