use Rattle.std.proofs.Common.{sym, ◌∙◌}
use Rattle.f77_forms.proofs.HeadParts.{found_program, found_subroutine, found_block, found_function}
use Rattle.f77_forms.proofs.head_forms.head_form.Goals as goal

pub returns-then-first-eq80 : goal.returns-then-first-eq80
returns-then-first-eq80 c = found_program c.args.text.now c.program.result (sym c.first_byte-first.ensures ∙ c.if-first-eq80.true) c.program.ensures

pub returns-then-first-eq83 : goal.returns-then-first-eq83
returns-then-first-eq83 c = found_subroutine c.args.text.now c.subroutine.result (sym c.first_byte-first.ensures ∙ c.if-first-eq83.true) c.subroutine.ensures

pub returns-then-first-eq66 : goal.returns-then-first-eq66
returns-then-first-eq66 c = found_block c.args.text.now c.block.result (sym c.first_byte-first.ensures ∙ c.if-first-eq66.true) c.block.ensures

pub returns : goal.returns
returns c = found_function c.args.text.now c.function.result (λ e. c.if-first-eq80.false (c.first_byte-first.ensures ∙ e)) (λ e. c.if-first-eq83.false (c.first_byte-first.ensures ∙ e)) (λ e. c.if-first-eq66.false (c.first_byte-first.ensures ∙ e)) c.function.ensures
