use Rattle.std.proofs.Common.{SFits, w64, to_z-of_z, rules, ◌∙◌}
use Rattle.f77_expr.proofs.Beginnings.{begins_integer, begins_large}
use Rattle.f77_expr.proofs.fronts.integer.Goals as goal

pub returns-in-Some : goal.returns-in-Some
returns-in-Some c =
    let is = rw c.split_at.ensures.front at (c.in-Some.ensures {u = tt}) in
    let fits : SFits w64 c.in-Some.value = search rules in
    begins_integer c.args.text.now c.digit_run-run.result _ c.requires.some c.requires.digit c.digit_run-run.ensures (to_z-of_z fits ∙ is.0) is.1

pub returns-in-None : goal.returns-in-None
returns-in-None c = begins_large c.args.text.now c.digit_run-run.result c.requires.some c.requires.digit c.digit_run-run.ensures (rw c.split_at.ensures.front at (c.in-None.ensures {u = tt}))
