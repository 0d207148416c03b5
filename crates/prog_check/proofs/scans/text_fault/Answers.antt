use Rattle.std.proofs.Common.{subst, sym, ap, map, ◌∙◌}
use Rattle.call_cycles.specs.Marks.{Earliest}
use Rattle.prog_texts.specs.Mentions.{mentions}
use Rattle.prog_check.specs.ProgramFaults.{TextFaults}
use Rattle.prog_check.specs.Scans.{any_text}
use Rattle.prog_check.proofs.Telling.{texts_found}
use Rattle.prog_check.proofs.scans.text_fault.Goals as goal

pub returns : goal.returns
returns c = λ units s t.
    subst (Earliest (TextFaults units))
    (sym (c.any_text.ensures ∙ (ap (any_text c.args.program.now.signatures) (c.as_slice.ensures ∙ t) ∙ ap (λ g. any_text g (map mentions units)) s)))
    (texts_found units)
