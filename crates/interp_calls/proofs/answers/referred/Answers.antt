use Rattle.std.proofs.Common.{subst, sym, Option, Result, option_map}
use Rattle.run_model.specs.Acts.{Fine, Act, Answer, and_then, play}
use Rattle.f77_tree.specs.declared.unit.Value.{Value}
use Rattle.f77_semantics.specs.Expressions.{resulting}
use Rattle.f77_semantics.specs.Values.{stored}
use Rattle.interp_code.specs.Steps.{Operands, step, push_item}
use Rattle.interp_code.specs.declared.step.Step.TheVariants.{Refer}
use Rattle.interp_steps.specs.Stacks.{stack_of}
use Rattle.interp_steps.proofs.Plays.{moved}
use Rattle.interp_calls.specs.declared.halt.Halt.{Halt}
use Rattle.interp_calls.specs.Calls.{Answers}
use Rattle.interp_calls.specs.Sending.{halting, Sends}
use Rattle.interp_calls.proofs.Appending.{acts_append}
use Rattle.interp_calls.proofs.Reaching.{sends_left, sends_onward, sends_so}
use Rattle.interp_calls.proofs.answers.referred.Goals as goal

pub returns-in-Ok-clause-run : goal.returns-in-Ok-clause-run
returns-in-Ok-clause-run c = λ h all f site old before after then now ans.
    let s = stack_of c.args.stack.now.items in
    let t = stack_of c.push_answer.new.stack.items in
    let go : Answer → Operands → Act Operands = λ r u. and_then (resulting r) (push_item u) in
    let act = go (option_map stored c.in-Ok.value) s in
    subst (λ (r : Result (Unit {0}) Halt). Sends r (λ _. Fine t) before after then now (play h (step f (Refer site) old))) (sym c.halting.ensures)
    (sends_onward before after then now c.in-Ok.value (λ v w. play h (go (option_map stored v) s) w) (play h (step f (Refer site) old)) after now (halting c.push_answer.result) (λ _. Fine t)
    ((subst (λ (r : Result (Option Value) Halt). Answers r h site old s before after then now) c.in-Ok.is ans) go)
    (sends_so after now (play h act) (acts_append h all act) after c.push_answer.result (λ _. t) (moved c.push_answer.result (λ _. t) act c.push_answer.ensures h after)))

pub returns-in-Err-clause-run : goal.returns-in-Err-clause-run
returns-in-Err-clause-run c = λ h all f site old before after then now ans.
    let s = stack_of c.args.stack.now.items in
    let go : Answer → Operands → Act Operands = λ r u. and_then (resulting r) (push_item u) in
    sends_left before after then now c.in-Err.halt (λ v w. play h (go (option_map stored v) s) w) (λ _. Fine s) (play h (step f (Refer site) old)) ((subst (λ (r : Result (Option Value) Halt). Answers r h site old s before after then now) c.in-Err.is ans) go)
