use Rattle.f77_forms.proofs.OneStatement.{one_form, one_kind}
use Rattle.f77_forms.proofs.laws.forms_law.Goals as goal

pub returns-clause-form : goal.returns-clause-form
returns-clause-form c = one_form (record { settled = c.readings_law.ensures.settled; taken = c.readings_law.ensures.taken })

pub returns-clause-kind : goal.returns-clause-kind
returns-clause-kind c = one_kind
