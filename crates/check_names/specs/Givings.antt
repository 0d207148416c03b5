-- What each statement of a unit gives to names (ANSI X3.9-1978, sections 8, 9 and 18.1). What a list makes of a name hangs on the
-- attributes that the whole unit gives it.
use Rattle.std.specs.Prelude.{ℕ, suc, ◌-◌, List, [], ◌∷◌, Option, Some, None, if◌then◌else◌, map, flat_map, is_some}
use Rattle.std.specs.List.{range_with_len}
use Rattle.f77_tree.specs.declared.expr.Expr.{Expr}
use Rattle.f77_tree.specs.declared.expr.Expr.TheViews.{out-Expr}
use Rattle.f77_tree.specs.declared.expr.Expr.TheOpen.{Expr-F}
use Rattle.f77_tree.specs.declared.form.Declarator.{Declarator}
use Rattle.f77_tree.specs.declared.form.DataConst.{DataConst}
use Rattle.f77_tree.specs.declared.form.Form.{Form}
use Rattle.f77_tree.specs.declared.form.Form.TheOpen.{Form-F}
use Rattle.f77_tree.specs.declared.form.TypeWord.{TypeWord}
use Rattle.f77_names.specs.declared.attributes.Attributes.{Attributes}
use Rattle.f77_names.specs.declared.occurrences.Manner.{Manner}
use Rattle.f77_names.specs.declared.occurrences.Manner.TheVariants as manner
use Rattle.f77_names.specs.declared.occurrences.Occurrence.{Occurrence}
use Rattle.f77_values.specs.Tables.{Name}
use Rattle.f77_names.specs.Intrinsics.{intrinsic_of}
use Rattle.f77_names.specs.Roles.{is_applied, is_function}
use Rattle.check_names.specs.declared.attribute.Attribute.{Attribute}
use Rattle.check_names.specs.declared.attribute.Attribute.TheVariants.{ResultVariable, Dummy, Array, Constant, Subroutine, Procedure, Intrinsic, Function, Typed, Common, Item, Letter}
use Rattle.check_names.specs.declared.givings.Giving.{Giving}

abbrev pub Givings : Type 0
Givings = List Giving

abbrev pub gives : Attribute → Name → Giving
gives attribute name = record { name = name; attribute = attribute }

abbrev pub gives_letter : ℕ → Giving
gives_letter letter = gives Letter (letter ∷ [])

-- A range of IMPLICIT names the letters from the first to the last; one whose letters fall names none.
abbrev pub in_range : ℕ × ℕ → Givings
in_range range = map gives_letter (range_with_len range.0 (suc range.1 - range.0))

abbrev pub in_group : TypeWord × List (ℕ × ℕ) → Givings
in_group group = flat_map in_range group.1

-- the type in a function's head
abbrev pub of_word : Option TypeWord → Name → Givings
of_word None name = []
of_word (Some word) name = gives Typed name ∷ []

abbrev pub declared : Attribute → Declarator → Giving
declared attribute d = gives attribute d.name

abbrev pub in_block : Name × List Declarator → Givings
in_block block = map (declared Common) block.1

abbrev pub item_step : Expr-F Expr → Givings
item_step (Expr-F.Scalar name) = gives Item name ∷ []
item_step (Expr-F.Apply name list) = gives Item name ∷ []
item_step _ = []

abbrev pub of_item : Expr → Givings
of_item e = item_step (out-Expr e)

abbrev pub in_run : List Expr × List DataConst → Givings
in_run run = flat_map of_item run.0

-- types and places
abbrev pub by_form : Form-F Form → Givings
by_form (Form-F.Head kind word name dummies) = of_word word name
by_form (Form-F.Implicit groups) = flat_map in_group groups
by_form (Form-F.Typed ty all) = map (declared Typed) all
by_form (Form-F.Common blocks) = flat_map in_block blocks
by_form (Form-F.DataRuns runs) = flat_map in_run runs
by_form _ = []

-- INTRINSIC gives a role to the names of intrinsic functions alone.
abbrev pub by_intrinsic : Name → Option Attribute
by_intrinsic name = if is_some (intrinsic_of name) then Some Intrinsic else None

-- A list makes a name that is neither an array nor a dummy a function, or an intrinsic.
abbrev pub by_list : Attributes → Name → Option Attribute
by_list a name = if is_function a name then Some Function else (if is_applied a name then Some Intrinsic else None)

-- the role that a name gets by how it occurs
abbrev pub by_manner : Attributes → Manner → Name → Option Attribute
by_manner a manner.ResultName name = Some ResultVariable
by_manner a manner.Dummy name = Some Dummy
by_manner a manner.Dimensioned name = Some Array
by_manner a manner.Defined name = Some Constant
by_manner a manner.External name = Some Procedure
by_manner a manner.Intrinsic name = by_intrinsic name
by_manner a manner.Called name = Some Subroutine
by_manner a manner.Listed name = by_list a name
by_manner a manner.Plain name = None

abbrev pub gives_if : Name → Option Attribute → Givings
gives_if name None = []
gives_if name (Some attribute) = gives attribute name ∷ []

abbrev pub by_occurrence : Attributes → Occurrence → Givings
by_occurrence a o = gives_if o.name (by_manner a o.manner o.name)
