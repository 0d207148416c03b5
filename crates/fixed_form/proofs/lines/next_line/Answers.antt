use Rattle.std.proofs.Common.{◌<◌, length, arith, ◌∙◌, ap, drop}
use Rattle.fixed_form.proofs.Splits.{lines_empty, lines_at_last, lines_at_end, filled, emptied, drop_one}
use Rattle.fixed_form.specs.Lines.{stripped}
use Rattle.fixed_form.proofs.lines.next_line.Goals as goal

pub returns-then-is_empty-clause-lines : goal.returns-then-is_empty-clause-lines
returns-then-is_empty-clause-lines c = lines_empty c.args.text.now c.is_empty.ensures c.if-is_empty.true

pub returns-then-is_empty-2-clause-lines : goal.returns-then-is_empty-2-clause-lines
returns-then-is_empty-2-clause-lines c =
    lines_at_last c.args.text.now c.split_at.result.0.now c.split_at.result.1.now c.end_of-n.result (filled c.args.text.now c.is_empty.ensures c.if-is_empty.false)
    c.end_of-n.ensures.none c.split_at.ensures.front c.split_at.ensures.back (emptied c.split_at.result.1.now c.is_empty-2.ensures c.if-is_empty-2.true)

pub returns-clause-lines : goal.returns-clause-lines
returns-clause-lines c =
    let more = filled c.split_at.result.1.now c.is_empty-2.ensures c.if-is_empty-2.false in
    let inside : c.end_of-n.result < length c.args.text.now = omega (arith, c.split_at.ensures.back_len, more) in
    lines_at_end c.args.text.now c.without_return.result.now c.split_at-2.result.1.now c.end_of-n.result inside c.end_of-n.ensures.none (c.end_of-n.ensures.stops inside)
    (c.without_return.ensures ∙ ap stripped c.split_at.ensures.front)
    (c.split_at-2.ensures.back ∙ (ap (drop 1) c.split_at.ensures.back ∙ drop_one c.args.text.now c.end_of-n.result))
