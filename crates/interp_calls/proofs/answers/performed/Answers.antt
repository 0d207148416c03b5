use Rattle.std.proofs.Common.{subst, Option, Result, option_map}
use Rattle.run_model.specs.Acts.{Fine, Act, Answer, Done, play}
use Rattle.f77_tree.specs.declared.unit.Value.{Value}
use Rattle.f77_semantics.specs.Values.{stored}
use Rattle.interp_code.specs.Steps.{Operands, step}
use Rattle.interp_code.specs.declared.step.Step.TheVariants.{Perform}
use Rattle.interp_calls.specs.declared.halt.Halt.{Halt}
use Rattle.interp_calls.specs.Calls.{Answers}
use Rattle.interp_calls.proofs.Reaching.{sends_left}
use Rattle.interp_calls.proofs.answers.performed.Goals as goal

pub returns-in-Ok-clause-run : goal.returns-in-Ok-clause-run
returns-in-Ok-clause-run c = λ h f site old new before after then now ans start sent a.
    let go : Answer → Operands → Act Operands = λ r t. Done t in
    let reached = (subst (λ (r : Result (Option Value) Halt). Answers r h site old new before after then now) c.in-Ok.is ans) go start sent a in
    record { sent = reached.sent; appended = reached.appended; arrives = reached.arrives }

pub returns-in-Err-clause-run : goal.returns-in-Err-clause-run
returns-in-Err-clause-run c = λ h f site old new before after then now ans.
    let go : Answer → Operands → Act Operands = λ r t. Done t in
    sends_left before after then now c.in-Err.halt (λ v w. play h (go (option_map stored v) new) w) (λ _. Fine new) (play h (step f (Perform site) old)) ((subst (λ (r : Result (Option Value) Halt). Answers r h site old new before after then now) c.in-Err.is ans) go)
