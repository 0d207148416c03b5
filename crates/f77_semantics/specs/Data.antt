-- What DATA gives, and what SAVE and DATA keep (ANSI X3.9-1978, sections 8.9 and 9).
use Rattle.std.specs.Prelude.{ℕ, ◌+◌, List, [], ◌∷◌, Option, Some, None, Bool, true, false, ◌&&◌, ◌||◌, ◌==◌, pos, ℤ, unwrap_or, if◌then◌else◌, map, flat_map, length}
use Rattle.std.specs.List.{list_any, range_with_len, repeat, zip}
use Rattle.f77_tree.specs.declared.expr.Expr.{Expr, out-Expr}
use Rattle.f77_tree.specs.declared.expr.Expr.TheOpen.{Expr-F}
use Rattle.f77_tree.specs.declared.form.DataConst.{DataConst}
use Rattle.f77_tree.specs.declared.form.Form.{Form, out-Form}
use Rattle.f77_tree.specs.declared.form.Form.TheOpen.{Form-F}
use Rattle.f77_tree.specs.declared.unit.Stmt.{Stmt}
use Rattle.f77_tree.specs.declared.unit.Value.{Value}
use Rattle.f77_store.specs.declared.storage.Area.{Area}
use Rattle.f77_store.specs.declared.storage.Area.TheVariants as area
use Rattle.f77_store.specs.declared.storage.Slot.{Slot}
use Rattle.f77_values.specs.Tables.{Name, Told, is_among}
use Rattle.f77_values.specs.Sizes.{whole}
use Rattle.f77_semantics.specs.Program.{Base, Dummy, Own, Common, Known, AtEntry, Bounds, Kept}
use Rattle.f77_semantics.specs.Expressions.{numbered}
use Rattle.f77_semantics.specs.Statements.{not_below_zero}
use Rattle.f77_semantics.specs.Terms.{constant_in, Meant, Variable, AnArray}

-- the storage unit so many behind another
abbrev pub beyond : Base → ℕ → Base
beyond (Dummy k) n = Dummy k
beyond (Own from) n = Own (from + n)
beyond (Common block from) n = Common block (from + n)

-- a constant that is a number, under the named constants of the unit
abbrev pub number_of : Told Value → Expr → ℤ
number_of named e = unwrap_or (whole (constant_in named e)) (pos 0)

-- an array by its name: all its units, in their order
abbrev pub bare_units : Meant → List Base
bare_units (Variable ty b) = b ∷ []
bare_units (AnArray ty a) = map (beyond a.base) (range_with_len 0 a.length)
bare_units _ = []

abbrev pub unit_at : Base → Option ℕ → List Base
unit_at b None = []
unit_at b (Some k) = beyond b k ∷ []

abbrev pub element_in : Base → Bounds → List ℤ → List Base
element_in b (Known extents) is = unit_at b (numbered extents is)
element_in b (AtEntry k) is = []

-- an element with constant subscripts
abbrev pub element_units : Meant → List ℤ → List Base
element_units (AnArray ty a) is = element_in a.base a.bounds is
element_units _ is = []

module _ (named : Told Value) (meant : Name → Meant) where
  -- the units of an item
  abbrev pub item_units : Expr-F Expr → List Base
  item_units (Expr-F.Scalar name) = bare_units (meant name)
  item_units (Expr-F.Apply name list) = element_units (meant name) (map (number_of named) list)
  item_units _ = []

  abbrev pub times : Option Expr → ℕ
  times None = 1
  times (Some e) = not_below_zero (number_of named e)

  abbrev pub value_list : Option Value → List Value
  value_list None = []
  value_list (Some v) = v ∷ []

  -- a constant, as often as its repeat says
  abbrev pub constants_of : DataConst → List Value
  constants_of c = repeat (times c.repeat) (value_list (constant_in named c.value))

  -- Items and constants go together one by one.
  abbrev pub given_by : List Expr × List DataConst → List (Base × Value)
  given_by run = zip (flat_map (λ e. item_units (out-Expr e)) run.0) (flat_map constants_of run.1)

  abbrev pub form_gives : Form-F Form → List (Base × Value)
  form_gives (Form-F.DataRuns runs) = flat_map given_by runs
  form_gives _ = []

  abbrev pub initial : List Stmt → List (Base × Value)
  initial statements = flat_map (λ s. form_gives (out-Form s.form)) statements

-- the names in SAVE and those among DATA's items
abbrev pub item_names : Expr-F Expr → List Name
item_names (Expr-F.Scalar name) = name ∷ []
item_names (Expr-F.Apply name list) = name ∷ []
item_names _ = []

abbrev pub kept_names : Form-F Form → List Name
kept_names (Form-F.Save names blocks) = names
kept_names (Form-F.DataRuns runs) = flat_map (λ run. flat_map (λ e. item_names (out-Expr e)) run.0) runs
kept_names _ = []

-- SAVE without names keeps all.
abbrev pub keeps_all : Form-F Form → Bool
keeps_all (Form-F.Save names blocks) = length names + length blocks == 0
keeps_all _ = false

abbrev pub is_kept_name : List Stmt → Name → Bool
is_kept_name statements name = list_any (λ s. keeps_all (out-Form s.form)) statements || is_among (flat_map (λ s. kept_names (out-Form s.form)) statements) name

abbrev pub is_own : Area → Bool
is_own area.Local = true
is_own _ = false

abbrev pub kept_slot : List Stmt → Slot → List Kept
kept_slot statements s = if is_own s.area && is_kept_name statements s.name then record { from = s.from; length = s.size } ∷ [] else []

-- the local units of names with SAVE or DATA; of an array all, also where DATA gives one element
abbrev pub kept : List Stmt → List Slot → List Kept
kept statements slots = flat_map (kept_slot statements) slots
