-- What a statement of a unit is, by its form.
use Rattle.std.proofs.Common.{◌≡◌, ℕ, Bool, Ok, Err, Some, None, List, subst}
use Rattle.std.specs.Prelude.{IfOk, MatchOption}
use Rattle.std.specs.declared.option.Option.{Option}
use Rattle.std.specs.declared.result.Result.{Result}
use Rattle.f77_tree.specs.declared.form.Form.{Form}
use Rattle.fixed_form.specs.declared.reader.Line.{Line}
use Rattle.f77_parse.specs.Shown.{IsLast, KnowsForm, IsOnlyForm, HasNoForm}
use Rattle.thin_form.specs.declared.statement.Statement.{Statement}
use Rattle.thin_form.specs.Forms.{IsStatementOf}
use Rattle.thin_form.specs.Lacks.{Lacks}
use Rattle.thin_text.specs.Thin.{IsThinLine}
use Rattle.thin_text.specs.Progress.{KnowsLine}

pub no_line : (line : Line) (behind : List Line) → HasNoForm behind line.text → Lacks (IsThinLine (record { line = line; behind = behind }))
no_line line behind none = record { not = λ s t. none.not t.form t.has }

no_statement : (line : Line) (behind : List Line) (form : Form) → IsOnlyForm behind line.text form → Lacks (IsStatementOf form) → Lacks (IsThinLine (record { line = line; behind = behind }))
no_statement line behind form only none = record { not = λ s t. none.not s (subst (λ f. IsStatementOf f s) (only.only t.form t.has) t.thin) }

pub line_found : {E : Type 0} (line : Line) (last : Bool) (form : Form) (found : Result (Option Statement) E) → line.label ≡ 0 → ((behind : List Line) → IsLast last behind → IsOnlyForm behind line.text form) →
    IfOk found (λ x. MatchOption x (Lacks (IsStatementOf form)) (λ s. IsStatementOf form s)) → IfOk found (λ x. (behind : List Line) → IsLast last behind → KnowsLine (record { line = line; behind = behind }) x)
line_found line last form (Ok None) unlabelled only h = λ behind is. no_statement line behind form (only behind is) h
line_found line last form (Ok (Some s)) unlabelled only h = λ behind is. record { unlabelled = unlabelled; form = form; has = (only behind is).is; thin = h }
line_found line last form (Err e) unlabelled only h = tt

-- what is known of a form that was asked for
pub knows_none : (behind : List Line) (t text : List ℕ) (found : Option Form) → found ≡ None → t ≡ text → KnowsForm behind t found → HasNoForm behind text
knows_none behind t text None e same h = subst (HasNoForm behind) same h
knows_none behind t text (Some form) e same h = absurd (cc)

pub knows_some : (behind : List Line) (t text : List ℕ) (found : Option Form) (form : Form) → found ≡ Some form → t ≡ text → KnowsForm behind t found → IsOnlyForm behind text form
knows_some behind t text None form e same h = absurd (cc)
knows_some behind t text (Some other) form e same h = let is : other ≡ form = cc in subst (λ x. IsOnlyForm behind x form) same (subst (IsOnlyForm behind t) is h)
