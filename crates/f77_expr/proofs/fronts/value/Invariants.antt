use Rattle.std.proofs.Common.{◌≡◌, take}
use Rattle.f77_expr.specs.Spelling.{value_of}
use Rattle.f77_expr.proofs.fronts.value.Given as goal

abbrev pub invariant-loop-b : goal.invariant-loop-b
invariant-loop-b l = l.value ≡ value_of (take l.b-index l.digits)
