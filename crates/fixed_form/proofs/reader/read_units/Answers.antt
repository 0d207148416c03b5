use Rattle.std.proofs.Common.{sym, ◌∙◌}
use Rattle.fixed_form.proofs.Reading.{gone_start, gone_next, gone_open}
use Rattle.fixed_form.proofs.reader.read_units.Goals as goal

pub line-init : goal.line-init
line-init c = rw (c.new.ensures, c.new-2.ensures) (gone_start c.args.text.now)

pub line-preserved : goal.line-preserved
line-preserved c = gone_next c.in-Some.after.now c.line.invariant (c.in-Some.ensures {u = tt}).lines (c.in-Some.ensures {u = tt}).shorter c.in_ok-reader.ensures.ok

pub returns-then-is_some-clause-fault : goal.returns-then-is_some-clause-fault
returns-then-is_some-clause-fault c = gone_open c.refusal.result c.line.invariant (c.in_default.ensures {u = tt}).lines (sym c.is_some.ensures ∙ c.if-is_some.true) c.refusal.ensures
