use Rattle.std.proofs.Common.{◌<◌, length, arith, subst}
use Rattle.f77_flow.specs.Spans.{IsElse}
use Rattle.check_jumps.proofs.Opening.{part_by}
use Rattle.check_jumps.proofs.parts.Parts.is_part.Goals as goal

pub returns : goal.returns
returns c =
    let within : c.end_if-end.result < length c.args.self.now.control.statements.now = omega arith in
    rw c.as_slice.ensures (part_by _ c.args.h c.end_if-end.result _ (subst IsElse c.kind_at.ensures c.if-not-is_else.ensures) c.end_if-end.ensures within (c.args.self.now.right.each _ within))
