-- Units that DATA initialises twice (ANSI X3.9-1978, section 9.1). A unit of storage is an element of a name: no two names of a unit
-- share one.
use Rattle.std.specs.Prelude.{Bool, true, false, ◌&&◌, ◌||◌, Option, Some, None, List, [], ◌∷◌, ◌++◌, flat_map, ℤ}
use Rattle.std.specs.List.{list_any}
use Rattle.std.specs.Ordering.{int_eq}
use Rattle.std.specs.Cmp.Lexicographic.{pointwise}
use Rattle.f77_tree.specs.declared.expr.Expr.{Expr, out-Expr}
use Rattle.f77_tree.specs.declared.expr.Expr.TheOpen.{Expr-F}
use Rattle.f77_tree.specs.declared.form.DataConst.{DataConst}
use Rattle.f77_tree.specs.declared.form.Form.{Form, out-Form}
use Rattle.f77_tree.specs.declared.form.Form.TheOpen.{Form-F}
use Rattle.f77_tree.specs.declared.unit.Stmt.{Stmt}
use Rattle.f77_tree.specs.declared.unit.Value.{Value}
use Rattle.f77_values.specs.Tables.{Name, Told, name_eq}
use Rattle.f77_values.specs.Constants.{value_of}
use Rattle.f77_values.specs.Sizes.{whole}
use Rattle.check_constants.specs.declared.defined.Defined.{Defined}
use Rattle.check_data.specs.declared.given.Given.{Given}
use Rattle.check_constants.specs.Defined.{nothing, with_statement}

-- ---- what an item gives values to

abbrev pub with_subscript : Option ℤ → Option (List ℤ) → Option (List ℤ)
with_subscript (Some n) (Some others) = Some (n ∷ others)
with_subscript _ _ = None

-- the values of subscripts, where all have one
abbrev pub subscripts : Told Value → List Expr → Option (List ℤ)
subscripts named [] = Some []
subscripts named (e ∷ es) = with_subscript (whole (value_of named e)) (subscripts named es)

abbrev pub Item : Type 0
Item = Given

abbrev pub all_of : Name → Given
all_of name = record { name = name; subscripts = None }

abbrev pub element_of : Name → List ℤ → Given
element_of name list = record { name = name; subscripts = Some list }

abbrev pub element : Name → Option (List ℤ) → List Given
element name None = []
element name (Some list) = element_of name list ∷ []

-- all of a name, or one element of it
abbrev pub item_gives : Told Value → Expr-F Expr → List Given
item_gives named (Expr-F.Scalar name) = all_of name ∷ []
item_gives named (Expr-F.Apply name list) = element name (subscripts named list)
item_gives named _ = []

abbrev pub items_give : Told Value → List Expr → List Given
items_give named items = flat_map (λ e. item_gives named (out-Expr e)) items

abbrev pub list_gives : Told Value → List Expr × List DataConst → List Given
list_gives named list = items_give named list.0

abbrev pub form_gives : Told Value → Form-F Form → List Given
form_gives named (Form-F.DataRuns lists) = flat_map (list_gives named) lists
form_gives named _ = []

abbrev pub statement_gives : Defined → Stmt → List Given
statement_gives d s = form_gives d.values (out-Form s.form)

-- ---- twice

-- All of a name has each of its elements, and elements are the same where their subscripts are.
abbrev pub same_part : Option (List ℤ) → Option (List ℤ) → Bool
same_part (Some before) (Some later) = pointwise int_eq before later
same_part _ _ = true

abbrev pub meets : Given → Given → Bool
meets later before = name_eq before.name later.name && same_part before.subscripts later.subscripts

-- one of these has a unit of those before it, or of one that stands before it here
abbrev pub given_twice : List Given → List Given → Bool
given_twice before [] = false
given_twice before (g ∷ others) = list_any (meets g) before || given_twice (before ++ g ∷ []) others

-- ---- statements

-- what the statements before a place define and give
pub record Past : Type 0 where
  pub defined : Defined
  pub given : List Given

abbrev pub beginning : Past
beginning = record { defined = nothing; given = [] }

abbrev pub past_with : Past → Stmt → Past
past_with past s = record { defined = with_statement past.defined s; given = past.given ++ statement_gives past.defined s }

abbrev pub statement_repeats : Past → Stmt → Bool
statement_repeats past s = given_twice past.given (statement_gives past.defined s)
