use Rattle.std.proofs.Common.{inl, sym, subst}
use Rattle.f77_flow.specs.Spans.{IsElse}
use Rattle.check_jumps.proofs.Straying.{astray_by}
use Rattle.check_jumps.proofs.jumps.is_astray.Goals as goal

pub returns-then-is_else : goal.returns-then-is_else
returns-then-is_else c = inl (subst IsElse c.kind_at.ensures c.if-is_else.ensures)

pub returns : goal.returns
returns c = astray_by c.args.nests.now.parts.control.statements.now c.args.k c.args.t _ (λ is. c.if-is_else.ensures (subst IsElse (sym c.kind_at.ensures) is)) c.enters.ensures
