use Rattle.std.proofs.Common.{subst, sym, Option}
use Rattle.run_model.specs.Storage.{Interval}
use Rattle.run_model.specs.Acts.{and_then, play}
use Rattle.f77_tree.specs.declared.unit.Value.{Value}
use Rattle.f77_semantics.specs.Expressions.{store, at, fresh}
use Rattle.interp_code.specs.Steps.{Operands, Passed, push, with_some}
use Rattle.interp_steps.specs.Frames.{frame_of}
use Rattle.interp_steps.specs.Stacks.{stack_of}
use Rattle.interp_steps.specs.Stops.{Ends}
use Rattle.interp_steps.specs.Worlds.{world_of}
use Rattle.interp_steps.proofs.stores.hold_step.Goals as goal

pub returns-in-Some-clause-moves : goal.returns-in-Some-clause-moves
returns-in-Some-clause-moves c = λ h.
    let w = world_of c.args.state.now in
    let v = world_of c.hold.new.state in
    let t = stack_of c.hold.new.stack.items in
    subst (λ (o : Option (Value × Operands)). Ends c.hold.result (λ _. t) v (play h (with_some o (λ p. and_then (store (at (fresh (frame_of c.args.frame.now) c.args.site c.args.position) 0) p.0) (λ _. push p.1 (Passed (fresh (frame_of c.args.frame.now) c.args.site c.args.position))))) w)) (sym c.in-Some.ensures)
    (subst (λ (i : Interval). Ends c.hold.result (λ _. t) v (play h (and_then (store (at i 0) c.in-Some.value) (λ _. push (stack_of c.pop_item.new.stack.items) (Passed i))) w)) c.fresh.ensures (c.hold.ensures.moves h))
