use Rattle.std.proofs.Common.{sym, ◌∙◌}
use Rattle.f77_tree.proofs.IsName.{name_here}
use Rattle.f77_tree.proofs.name.is_name.Goals as goal

pub returns-then-word-le31 : goal.returns-then-word-le31
returns-then-word-le31 c =
    name_here c.args.word.now c.in-Some.others.now c.in-Some.first.now c.all_word.result (c.in-Some.ensures {u = tt}).cases.0 (sym c.is_letter.ensures ∙ c.if-word-le31.true.0) c.if-word-le31.true.1 c.all_word.ensures
