-- The bounds of arrays, as far as they are constant where they stand (ANSI X3.9-1978, section 5.1).
use Rattle.std.specs.Prelude.{List, [], ◌∷◌, Option, ℤ, fold, map, if◌then◌else◌, ◌==◌, length, is_some}
use Rattle.f77_tree.specs.declared.expr.Expr.{Expr}
use Rattle.f77_tree.specs.declared.form.Declarator.{Declarator}
use Rattle.f77_tree.specs.declared.form.Form.{Form, out-Form}
use Rattle.f77_tree.specs.declared.form.Form.TheOpen.{Form-F}
use Rattle.f77_tree.specs.declared.unit.Stmt.{Stmt}
use Rattle.f77_tree.specs.declared.unit.Value.{Value}
use Rattle.f77_values.specs.Tables.{Name, Told, what, with_told}
use Rattle.f77_values.specs.Sizes.{lower, upper}
use Rattle.check_constants.specs.declared.defined.Defined.{Defined}
use Rattle.check_data.specs.declared.measures.Measured.{Measured}
use Rattle.check_constants.specs.Defined.{nothing, with_statement}

abbrev pub side : Told Value → Option Expr × Option Expr → Option ℤ × Option ℤ
side named bound = (lower named bound.0, upper named bound.1)

abbrev pub measured : Told Value → List (Option Expr × Option Expr) → Measured
measured named bounds = record { sides = map (side named) bounds }

-- The declarator that stands first counts; a second one is a fault of its own.
abbrev pub with_array : Told Value → Told Measured → Declarator → Told Measured
with_array named known d =
    if length d.bounds == 0 then known
    else (if is_some (what known d.name) then known else with_told known d.name (measured named d.bounds))

abbrev pub with_arrays : Told Value → Told Measured → List Declarator → Told Measured
with_arrays named known all = fold (with_array named) known all

abbrev pub with_block : Told Value → Told Measured → Name × List Declarator → Told Measured
with_block named known block = with_arrays named known block.1

abbrev pub form_measures : Told Value → Told Measured → Form-F Form → Told Measured
form_measures named known (Form-F.Typed ty all) = with_arrays named known all
form_measures named known (Form-F.Dimension all) = with_arrays named known all
form_measures named known (Form-F.Common blocks) = fold (with_block named) known blocks
form_measures named known _ = known

-- each statement's, under the named constants that are defined before it
abbrev pub measures_from : Defined → Told Measured → List Stmt → Told Measured
measures_from d known [] = known
measures_from d known (s ∷ others) = measures_from (with_statement d s) (form_measures d.values known (out-Form s.form)) others

abbrev pub measures : List Stmt → Told Measured
measures statements = measures_from nothing [] statements
