use Rattle.f77_forms.proofs.FormTables.{found_logical, found_plain}
use Rattle.f77_forms.proofs.form.form_of.Goals as goal

pub returns-in-LogicalIf : goal.returns-in-LogicalIf
returns-in-LogicalIf c = record { form = found_logical c.logical_if.result (rw c.in-LogicalIf.is at c.statement_kind-kind.ensures.kind) c.logical_if.ensures }

pub returns-in_default : goal.returns-in_default
returns-in_default c = record { form = found_plain c.statement_kind-kind.result c.kind_form.result c.statement_kind-kind.ensures.kind c.in_default.not-LogicalIf c.kind_form.ensures }
