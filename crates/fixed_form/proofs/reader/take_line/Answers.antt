use Rattle.std.proofs.Common.{sym, ◌∙◌}
use Rattle.fixed_form.proofs.Steps.{stands_comment, comment_here}
use Rattle.fixed_form.proofs.reader.take_line.Goals as goal

pub returns-then-is_comment_line-clause-ok : goal.returns-then-is_comment_line-clause-ok
returns-then-is_comment_line-clause-ok c = λ seen numbered s.
    rw c.passed.ensures (stands_comment c.args.line.now (comment_here c.args.line.now (sym c.is_comment_line.ensures ∙ c.if-is_comment_line.true)) s)
