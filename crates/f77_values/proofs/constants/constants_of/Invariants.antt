use Rattle.std.proofs.Common.{◌≡◌, take}
use Rattle.f77_values.specs.Constants.{constants}
use Rattle.f77_values.proofs.constants.constants_of.Given as goal

abbrev pub invariant-loop-statement : goal.invariant-loop-statement
invariant-loop-statement l = l.constants ≡ constants (take l.statement-index l.statement-items)
