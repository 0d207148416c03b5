use Rattle.form_parts.proofs.NextToken.{filled, emptied}
use Rattle.form_specification.proofs.SavedParts.{saves_all, saves_some}
use Rattle.form_specification.proofs.saved_items.save.Goals as goal

pub returns-then-is_empty : goal.returns-then-is_empty
returns-then-is_empty c = rw (c.new.ensures, c.new-then-is_empty.ensures) (saves_all (emptied c.args.tokens.now c.is_empty.ensures c.if-is_empty.true))

pub returns : goal.returns
returns c = saves_some (filled c.args.tokens.now c.is_empty.ensures c.if-is_empty.false) (rw c.in-Some.is at (c.in_ok-all.ensures {u = tt})) (c.in_ok-told_apart.ensures {u = tt})
