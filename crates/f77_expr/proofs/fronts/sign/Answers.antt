use Rattle.f77_expr.proofs.Beginnings.{begins_power, begins_sign}
use Rattle.f77_expr.proofs.fronts.sign.Goals as goal

pub returns-then-is_power : goal.returns-then-is_power
returns-then-is_power c = begins_power c.args.text.now (c.if-is_power.ensures {u = tt})

pub returns-else-is_power : goal.returns-else-is_power
returns-else-is_power c = begins_sign c.args.text.now c.requires.some c.requires.sign (c.if-is_power.ensures {u = tt})
