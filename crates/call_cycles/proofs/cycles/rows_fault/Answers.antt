use Rattle.std.proofs.Common.{ap, subst, ◌∙◌}
use Rattle.call_cycles.specs.Searching.{NoneLeadUp, callers, first_cycle}
use Rattle.prog_texts.proofs.Given.{if_ok}
use Rattle.call_cycles.proofs.Cycling.{cycle_found}
use Rattle.call_cycles.proofs.cycles.rows_fault.Goals as goal

pub returns : goal.returns
returns c = λ units e.
    let ranks = c.in_ok-ranks.ranks.items in
    let falling = subst (λ r. NoneLeadUp r ranks) e (c.in_ok-ranks.ensures {u = tt}) in
    if_ok c.first_cycle.result
    (λ mark i. cycle_found units ranks falling mark (i ∙ (ap (λ back. first_cycle back ranks 0 c.args.rows.now) (c.in_ok-callers.ensures {u = tt}) ∙ ap (λ r. first_cycle (callers r) ranks 0 r) e)))
    c.first_cycle.ensures
