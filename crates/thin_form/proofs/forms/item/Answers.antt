use Rattle.std.proofs.Common.{sym, ◌∙◌, refl, ap}
use Rattle.thin_form.specs.declared.statement.Item.TheVariants as kind
use Rattle.thin_form.specs.Forms.{value, literal}
use Rattle.thin_form.proofs.Terms.{no_item_literal}
use Rattle.thin_form.proofs.forms.item.Goals as goal

pub returns-in-Text-clause-item : goal.returns-in-Text-clause-item
returns-in-Text-clause-item c = literal c.in-Text.bytes c.in-Text.is (ap kind.Text ((c.in_ok-literal.ensures {u = tt}).copy ∙ c.as_slice.ensures))

pub returns-in_default-2-clause-item : goal.returns-in_default-2-clause-item
returns-in_default-2-clause-item c = no_item_literal c.args.tree.now c.in_default.not-Text (rw c.in_default-2.is at (c.in_ok-term.ensures {u = tt}).term)

pub returns-clause-item : goal.returns-clause-item
returns-clause-item c = value c.in-Some.term (rw c.in-Some.is at (c.in_ok-term.ensures {u = tt}).term) refl

pub returns-clause-plain : goal.returns-clause-plain
returns-clause-plain c = rw c.in-Some.is at (c.in_ok-term.ensures {u = tt}).plain
