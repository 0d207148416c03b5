-- Units that add nothing, and lists that are put behind each other.
use Rattle.std.proofs.Common.{◌≡◌, ℕ, Bool, true, false, ◌||◌, List, [], ◌∷◌, ◌++◌, None, flat_map, refl, ap, sym, ◌∙◌, append_assoc, append-nil}
use Rattle.std.proofs.lemmas.Bool.{false≢true}
use Rattle.f77_tree.specs.declared.expr.Expr.{Expr, out-Expr}
use Rattle.f77_tree.specs.declared.expr.Expr.TheOpen.{Expr-F}
use Rattle.f77_tree.specs.declared.expr.Expr.TheViews.{outs-Apply}
use Rattle.f77_tree.specs.declared.form.DataConst.{DataConst}
use Rattle.f77_tree.specs.declared.form.Form.{Form, out-Form}
use Rattle.f77_tree.specs.declared.form.Form.TheOpen.{Form-F}
use Rattle.f77_tree.specs.declared.unit.Stmt.{Stmt}
use Rattle.f77_tree.specs.declared.unit.Unit.{Unit as SourceUnit}
use Rattle.f77_tree.specs.declared.unit.Value.{Value}
use Rattle.f77_store.specs.Areas.{commons, size_of}
use Rattle.f77_values.specs.Constants.{with_statement}
use Rattle.f77_names.specs.Declarations.{declarations, shapes}
use Rattle.f77_values.specs.Tables.{Told, what}
use Rattle.check_common.specs.declared.storage.Storage.{Storage}
use Rattle.check_common.specs.declared.initials.Initial.{Initial}
use Rattle.check_common.specs.Places.{starts}
use Rattle.check_common.specs.Storage.{storage, whole_run, element_run, offset_in, item_run}
use Rattle.check_common.specs.Initials.{initial_of, item_initials, list_initials, form_initials, statements_from, unit_initials, is_data, has_data}

pub ruleset joined = (outs-Apply, append_assoc)

-- ---- units without DATA

no_initials : (s : Storage) (place line : ℕ) (named : Told Value) (form : Form-F Form) → is_data form ≡ false → form_initials s place line named form ≡ []
no_initials s place line named (Form-F.DataRuns lists) h = absurd (false≢true (sym h))
no_initials s place line named form h = refl

of_either : (p q : Bool) → (p || q) ≡ false → (p ≡ false) × (q ≡ false)
of_either true q h = absurd (false≢true (sym h))
of_either false q h = (refl, h)

without_data : (s : Storage) (place : ℕ) (named : Told Value) (statements : List Stmt) → has_data statements ≡ false → statements_from s place named statements ≡ []
without_data s place named [] h = refl
without_data s place named (st ∷ others) h =
    let e = of_either (is_data (out-Form st.form)) (has_data others) h in
    ap (λ all. all ++ statements_from s place (with_statement named st) others) (no_initials s place st.line named (out-Form st.form) e.0)
    ∙ without_data s place (with_statement named st) others e.1

pub unit_without_data : (place : ℕ) (u : SourceUnit) (found : List Initial) → has_data u.statements ≡ false → found ≡ found ++ unit_initials place u
unit_without_data place u found h = sym (append-nil found) ∙ ap (λ all. found ++ all) (sym (without_data (storage u) place [] u.statements h))

-- ---- units without COMMON

module _ (s : Storage) (place : ℕ) (none_placed : s.starts ≡ []) where
  no_run : (named : Told Value) (item : Expr-F Expr) → item_run s named item ≡ None
  no_run named (Expr-F.Scalar name) = ap (λ known. whole_run s name (what known name)) none_placed
  no_run named (Expr-F.Apply name list) = ap (λ known. element_run (what known name) (offset_in s named (what s.shapes name) list)) none_placed
  no_run named item = refl

  no_items : (line : ℕ) (named : Told Value) (items : List Expr) → flat_map (item_initials s place line named) items ≡ []
  no_items line named [] = refl
  no_items line named (e ∷ others) = ap (λ run. initial_of place line run ++ flat_map (item_initials s place line named) others) (no_run named (out-Expr e)) ∙ no_items line named others

  no_lists : (line : ℕ) (named : Told Value) (lists : List (List Expr × List DataConst)) → flat_map (list_initials s place line named) lists ≡ []
  no_lists line named [] = refl
  no_lists line named (list ∷ others) = ap (λ all. all ++ flat_map (list_initials s place line named) others) (no_items line named list.0) ∙ no_lists line named others

  no_form : (line : ℕ) (named : Told Value) (form : Form-F Form) → form_initials s place line named form ≡ []
  no_form line named (Form-F.DataRuns lists) = no_lists line named lists
  no_form line named form = refl

  without_common : (named : Told Value) (statements : List Stmt) → statements_from s place named statements ≡ []
  without_common named [] = refl
  without_common named (st ∷ others) =
      ap (λ all. all ++ statements_from s place (with_statement named st) others) (no_form st.line named (out-Form st.form))
      ∙ without_common (with_statement named st) others

pub unit_without_common : (place : ℕ) (u : SourceUnit) (found : List Initial) → commons (declarations u.statements) ≡ [] → found ≡ found ++ unit_initials place u
unit_without_common place u found h =
    sym (append-nil found)
    ∙ ap (λ all. found ++ all) (sym (without_common (storage u) place (ap (starts (size_of (shapes (declarations u.statements)))) h) [] u.statements))
