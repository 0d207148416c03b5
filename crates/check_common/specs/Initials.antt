-- What the DATA of a program initialises in COMMON.
use Rattle.std.specs.Prelude.{ℕ, suc, Bool, true, false, List, [], ◌∷◌, ◌++◌, Option, Some, None, flat_map}
use Rattle.std.specs.List.{list_any}
use Rattle.f77_tree.specs.declared.expr.Expr.{Expr, out-Expr}
use Rattle.f77_tree.specs.declared.form.DataConst.{DataConst}
use Rattle.f77_tree.specs.declared.form.Form.{Form, out-Form}
use Rattle.f77_tree.specs.declared.form.Form.TheOpen.{Form-F}
use Rattle.f77_tree.specs.declared.unit.Stmt.{Stmt}
use Rattle.f77_tree.specs.declared.unit.Unit.{Unit}
use Rattle.f77_tree.specs.declared.unit.Value.{Value}
use Rattle.f77_values.specs.Constants.{with_statement}
use Rattle.f77_values.specs.Tables.{Told}
use Rattle.check_common.specs.declared.storage.Storage.{Storage}
use Rattle.check_common.specs.declared.runs.Run.{Run}
use Rattle.check_common.specs.declared.initials.Initial.{Initial}
use Rattle.check_common.specs.Storage.{storage, item_run}

abbrev pub initial_of : ℕ → ℕ → Option Run → List Initial
initial_of place line None = []
initial_of place line (Some run) = record { unit = place; line = line; run = run } ∷ []

abbrev pub item_initials : Storage → ℕ → ℕ → Told Value → Expr → List Initial
item_initials s place line named e = initial_of place line (item_run s named (out-Expr e))

abbrev pub list_initials : Storage → ℕ → ℕ → Told Value → List Expr × List DataConst → List Initial
list_initials s place line named list = flat_map (item_initials s place line named) list.0

abbrev pub form_initials : Storage → ℕ → ℕ → Told Value → Form-F Form → List Initial
form_initials s place line named (Form-F.DataRuns lists) = flat_map (list_initials s place line named) lists
form_initials s place line named _ = []

-- each statement's, under the named constants that are defined before it
abbrev pub statements_from : Storage → ℕ → Told Value → List Stmt → List Initial
statements_from s place named [] = []
statements_from s place named (st ∷ others) = form_initials s place st.line named (out-Form st.form) ++ statements_from s place (with_statement named st) others

abbrev pub unit_initials : ℕ → Unit → List Initial
unit_initials place u = statements_from (storage u) place [] u.statements

abbrev pub initials_from : ℕ → List Unit → List Initial
initials_from place [] = []
initials_from place (u ∷ others) = unit_initials place u ++ initials_from (suc place) others

-- each run with the place of its unit among these and the line of its statement
abbrev pub initials : List Unit → List Initial
initials units = initials_from 0 units

-- ---- units without DATA

abbrev pub is_data : Form-F Form → Bool
is_data (Form-F.DataRuns lists) = true
is_data _ = false

abbrev pub has_data : List Stmt → Bool
has_data statements = list_any (λ s. is_data (out-Form s.form)) statements
