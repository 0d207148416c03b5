use Rattle.f77_forms.proofs.FormTables.{found_kind}
use Rattle.f77_forms.proofs.form.plain_form.Goals as goal

pub returns : goal.returns
returns c = found_kind c.statement_kind.result c.kind_form.result c.statement_kind.ensures.kind c.kind_form.ensures
