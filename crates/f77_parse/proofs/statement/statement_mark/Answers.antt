use Rattle.std.proofs.Common.{◌≡◌, arith, ℕ, List, ap, sym, subst, ◌∙◌}
use Rattle.fault_marks.specs.Earliest.{first_of, mark_if}
use Rattle.f77_parse.specs.Shown.{KnowsForm, IsOnly, Explained}
use Rattle.f77_parse.proofs.Showing.{statement_first, formed_of}
use Rattle.f77_parse.proofs.statement.statement_mark.Goals as goal

pub returns : goal.returns
returns c = λ before behind knows form passing.
    let line = c.args.line.now in
    let same = c.as_slice.ensures in
    let only = (c.in_ok-number.ensures {u = tt}) behind (formed_of behind c.as_slice.result.now c.args.form.now (subst (λ (t : List ℕ). KnowsForm behind t c.args.form.now) (sym same) form) c.is_some.result c.is_some.ensures) in
    let limit : c.from.result ≡ 20000 = omega arith in
    statement_first c.args.context.kind before line behind c.args.form.now form c.in_ok-number.number (subst (λ (t : List ℕ). IsOnly (Explained behind t) c.in_ok-number.number) same only) c.args.passes passing
    c.mark_at-by_text.result c.optional_form_mark-by_form.result c.mark_if-by_tokens.result c.first_of-2.result c.mark_at-by_text.ensures (c.optional_form_mark-by_form.ensures before knows) (c.mark_if-by_tokens.ensures.mark ∙ ap (mark_if c.args.passes c.args.line.now.line 37) limit)
    (c.first_of-2.ensures.first ∙ ap (first_of c.mark_at-by_text.result) c.first_of.ensures.first)
