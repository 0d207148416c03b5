use Rattle.std.proofs.Common.{sym, ◌∙◌, ap, arith, subst, IsTrue}
use Rattle.fixed_form.specs.Reading.{source_of, label_and_text}
use Rattle.std.proofs.Common.{map}
use Rattle.fixed_form.proofs.Sources.{same_at}
use Rattle.fixed_form.proofs.reader.same_source.Goals as goal

pub returns-then-not-same_line : goal.returns-then-not-same_line
unfolding source_of
returns-then-not-same_line c = (
  λ h. absurd cc,
  λ e. subst IsTrue c.if-not-same_line.true (c.same_line.ensures.1
      (same_at c.as_slice-xs.result.now c.as_slice-ys.result.now c.loop-i.i c.index-xs-i.result c.index-ys-i.result c.loop-i-test.true (omega arith) c.index-xs-i.is c.index-ys-i.is
      (ap (map label_and_text) c.as_slice-xs.ensures ∙ (e ∙ sym (ap (map label_and_text) c.as_slice-ys.ensures))))),
)
