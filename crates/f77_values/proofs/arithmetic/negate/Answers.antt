use Rattle.std.proofs.Common.{rules}
use Rattle.std.proofs.lemmas.Int.{wraps}
use Rattle.f77_values.proofs.arithmetic.negate.Goals as goal

pub returns-in-Integer : goal.returns-in-Integer
returns-in-Integer c = search (rules, wraps)
