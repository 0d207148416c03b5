use Rattle.std.proofs.Common.{◌≡◌, [], flat_map, sym, ap, ◌∙◌}
use Rattle.run_model.specs.Acts.{Fine, play}
use Rattle.run_model.specs.Turns.{Again}
use Rattle.f77_flow.specs.Graph.{after}
use Rattle.f77_semantics.specs.Statements.{say_record, to}
use Rattle.interp_code.specs.Steps.{operands_onto, said}
use Rattle.interp_steps.specs.Stacks.{stack_of}
use Rattle.interp_steps.specs.Worlds.{world_of}
use Rattle.interp_steps.proofs.Plays.{goes_on}
use Rattle.interp_turns.specs.Places.{here_of}
use Rattle.interp_turns.proofs.Records.{record_says}
use Rattle.interp_turns.proofs.endings.write.Goals as goal

pub returns-clause-turn : goal.returns-clause-turn
returns-clause-turn c = λ h.
    let s = here_of c.args.here.now in
    let w = world_of c.args.state.now in
    let v = world_of c.say_record_from.new.state in
    let says : play h (say_record (flat_map said (operands_onto (stack_of c.args.stack.now) []))) w ≡ Fine tt v =
    record_says h c.args.stack.now w ∙ ap (λ x. Fine tt x) (sym (c.in_ok-say_record_from.ensures {u = tt})) in
    goes_on h (say_record (flat_map said (operands_onto (stack_of c.args.stack.now) []))) (λ _. to (after c.args.control.now.statements.now c.args.k) s) w v tt says
    ∙ ap (λ p. Fine (Again (record s { point = p })) v) (sym c.after-here.ensures.value)
