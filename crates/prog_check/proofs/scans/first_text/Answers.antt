use Rattle.std.proofs.Common.{sym, ◌∙◌}
use Rattle.prog_check.proofs.Stepping.{text_more}
use Rattle.prog_check.proofs.scans.first_text.Goals as goal

pub loop-place-preserved : goal.loop-place-preserved
loop-place-preserved c =
    sym (text_more c.args.check c.args.units.now c.args.texts.now c.loop-place.place c.index-texts-place.result _ c.loop-place-test.true c.index-texts-place.is (sym c.in_default.is ∙ c.earliest_line-line.ensures))
    ∙ c.loop-place.invariant
