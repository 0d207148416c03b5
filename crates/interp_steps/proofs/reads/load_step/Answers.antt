use Rattle.std.proofs.Common.{subst, sym, Option}
use Rattle.run_model.specs.Storage.{Loc}
use Rattle.run_model.specs.Acts.{and_then, play}
use Rattle.f77_semantics.specs.Expressions.{fetch}
use Rattle.interp_cells.specs.Spots.{loc_of}
use Rattle.interp_code.specs.Steps.{Operands, push_item, with_some}
use Rattle.interp_steps.specs.Stacks.{stack_of}
use Rattle.interp_steps.specs.Stops.{Ends}
use Rattle.interp_steps.specs.Worlds.{world_of}
use Rattle.interp_steps.proofs.reads.load_step.Goals as goal

pub returns-in-Some : goal.returns-in-Some
returns-in-Some c = λ f h.
    let w = world_of c.args.state.now in
    subst (λ (o : Option (Loc × Operands)). Ends c.push_value.result (λ _. stack_of c.push_value.new.stack.items) w (play h (with_some o (λ p. and_then (fetch c.args.ty p.0) (push_item p.1))) w)) (sym c.in-Some.ensures)
    (c.push_value.ensures h (fetch c.args.ty (loc_of c.in-Some.spot)) w w (c.fetch.ensures h))
