use Rattle.std.proofs.Common.{◌≡◌}
use Rattle.f77_values.specs.Arithmetic.{power}
use Rattle.f77_values.proofs.arithmetic.power.Given as goal

abbrev pub invariant-loop-k : goal.invariant-loop-k
invariant-loop-k l = l.power ≡ power l.x l.k
