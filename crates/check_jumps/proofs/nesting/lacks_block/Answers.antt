use Rattle.std.proofs.Common.{subst, sym}
use Rattle.f77_flow.specs.Spans.{IsElse}
use Rattle.check_jumps.specs.Nests.{IsEndIf}
use Rattle.check_jumps.proofs.Crossing.{lacks_by_part, lacks_by_begin, lacks_no_block}
use Rattle.check_jumps.proofs.nesting.lacks_block.Goals as goal

pub returns-then-is_else : goal.returns-then-is_else
returns-then-is_else c = lacks_by_part _ _ _ (subst IsElse c.kind_at-kind.ensures c.if-is_else.ensures) c.is_part.ensures

pub returns-then-is_end_if : goal.returns-then-is_end_if
returns-then-is_end_if c = lacks_by_begin _ _ _ (subst IsEndIf c.kind_at-kind.ensures c.if-is_end_if.ensures) c.ends_block.ensures

pub returns : goal.returns
returns c = lacks_no_block _ _ (λ is. c.if-is_else.ensures (subst IsElse (sym c.kind_at-kind.ensures) is)) (λ is. c.if-is_end_if.ensures (subst IsEndIf (sym c.kind_at-kind.ensures) is))
