use Rattle.std.proofs.Common.{◌∙◌}
use Rattle.std.proofs.lemmas.Result.{IfOk-weaker}
use Rattle.interp_lower.proofs.Whole.{stands}
use Rattle.interp_lower.proofs.routine.routine_of.Goals as goal

pub returns : goal.returns
returns c = IfOk-weaker c.with_names.result _ _
    (λ made h. stands made c.in_ok-names.names c.in_ok-slots.field-0.callees c.args.unit.now c.in_ok-names.ensures.facts (c.in_ok-names.ensures.slots ∙ c.in_ok-slots.ensures.slots) c.in_ok-slots.ensures.callees h)
    c.with_names.ensures
