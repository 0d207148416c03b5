use Rattle.std.proofs.Common.{sym, ap, ◌∙◌}
use Rattle.f77_tree.specs.declared.form.Form.TheVariants as f
use Rattle.f77_parse.specs.Progress.{of_head}
use Rattle.f77_parse.proofs.unit.head_of.Goals as goal

pub returns-in_ok-duplicate-in-Head : goal.returns-in_ok-duplicate-in-Head
returns-in_ok-duplicate-in-Head c =
    let head = c.in-Head in
    of_head head.field-1 head.field-2 (head.is ∙ ap (f.Head head.kind head.field-1 head.field-2) (sym (c.in_ok-duplicate-in-Head.ensures {u = tt})))
