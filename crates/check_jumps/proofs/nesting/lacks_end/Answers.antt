use Rattle.std.proofs.Common.{subst, sym}
use Rattle.check_jumps.specs.Nests.{IsDo, IsBlockIf}
use Rattle.check_jumps.proofs.Crossing.{lacks_by_range, lacks_by_block, lacks_no_end}
use Rattle.check_jumps.proofs.nesting.lacks_end.Goals as goal

pub returns-then-is_do : goal.returns-then-is_do
returns-then-is_do c = rw c.has_range.ensures (lacks_by_range c.args.control.now.statements.now c.args.k (subst IsDo c.kind_at-kind.ensures c.if-is_do.ensures))

pub returns-then-is_block_if : goal.returns-then-is_block_if
returns-then-is_block_if c = lacks_by_block _ _ _ (subst IsBlockIf c.kind_at-kind.ensures c.if-is_block_if.ensures) c.is_block.ensures

pub returns : goal.returns
returns c = lacks_no_end _ _ (λ is. c.if-is_do.ensures (subst IsDo (sym c.kind_at-kind.ensures) is)) (λ is. c.if-is_block_if.ensures (subst IsBlockIf (sym c.kind_at-kind.ensures) is))
