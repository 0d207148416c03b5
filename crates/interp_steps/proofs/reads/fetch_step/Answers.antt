use Rattle.std.proofs.Common.{subst}
use Rattle.run_model.specs.Storage.{Loc}
use Rattle.run_model.specs.Acts.{and_then, play}
use Rattle.f77_semantics.specs.Expressions.{fetch}
use Rattle.interp_cells.specs.Spots.{loc_of}
use Rattle.interp_code.specs.Steps.{push_item}
use Rattle.interp_steps.specs.Stacks.{stack_of}
use Rattle.interp_steps.specs.Stops.{Ends}
use Rattle.interp_steps.specs.Worlds.{world_of}
use Rattle.interp_steps.proofs.reads.fetch_step.Goals as goal

pub returns : goal.returns
returns c = λ h.
    let w = world_of c.args.state.now in
    let s = stack_of c.args.stack.now.items in
    subst (λ (l : Loc). Ends c.push_value.result (λ _. stack_of c.push_value.new.stack.items) w (play h (and_then (fetch c.args.ty l) (push_item s)) w)) (c.in_ok-spot.ensures {u = tt})
    (c.push_value.ensures h (fetch c.args.ty (loc_of c.in_ok-spot.spot)) w w (c.fetch.ensures h))
