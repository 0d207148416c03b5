use Rattle.std.proofs.Common.{subst, sym, Option}
use Rattle.run_model.specs.Storage.{Loc}
use Rattle.run_model.specs.Acts.{Done, Take, and_then, play}
use Rattle.f77_tree.specs.declared.unit.Value.TheVariants.{Integer}
use Rattle.f77_semantics.specs.Expressions.{store}
use Rattle.interp_code.specs.Steps.{Operands, with_some}
use Rattle.interp_steps.specs.Stacks.{stack_of}
use Rattle.interp_steps.specs.Stops.{Ends}
use Rattle.interp_steps.specs.Worlds.{world_of}
use Rattle.interp_steps.proofs.stores.take_step.Goals as goal

pub returns-in-Some-clause-moves : goal.returns-in-Some-clause-moves
returns-in-Some-clause-moves c = λ f h.
    let t = stack_of c.pop_place.new.stack.items in
    subst (λ (o : Option (Loc × Operands)). Ends c.take_into.result (λ _. t) (world_of c.take_into.new.self) (play h (with_some o (λ p. Take (λ x. and_then (store p.0 (Integer x)) (λ _. Done p.1)))) (world_of c.args.state.now))) (sym c.in-Some.ensures)
    (c.take_into.ensures.moves h t)
