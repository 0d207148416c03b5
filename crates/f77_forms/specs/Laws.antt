-- What forms are, whatever reads them.
use Rattle.std.specs.Prelude.{◌≡◌}
use Rattle.f77_tree.specs.declared.form.Form.{Form}
use Rattle.f77_expr.specs.Spelling.{Text}
use Rattle.form_kinds.specs.StatementKinds.{IsKind}
use Rattle.form_kinds.specs.declared.statement_kinds.StatementKind.{StatementKind}
use Rattle.f77_forms.specs.Forms.{HasForm}

-- A text has at most one form.
abbrev pub OneForm : Type 0
OneForm = (text : Text) (a b : Form) → HasForm text a → HasForm text b → a ≡ b

-- A text has at most one kind.
abbrev pub OneKind : Type 0
OneKind = (text : Text) (a b : StatementKind) → IsKind text a → IsKind text b → a ≡ b
