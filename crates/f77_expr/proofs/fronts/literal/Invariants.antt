use Rattle.std.proofs.Common.{take}
use Rattle.f77_expr.proofs.Literals.{Inside}
use Rattle.f77_expr.proofs.fronts.literal.Given as goal

abbrev pub invariant-byte : goal.invariant-byte
invariant-byte l = Inside (take l.i l.text) l.open
