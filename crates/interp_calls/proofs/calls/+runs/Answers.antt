use Rattle.std.specs.Slice.{IsItemAt}
use Rattle.std.proofs.Common.{◌≡◌, suc, ◌+◌, ◌-◌, List, [], Option, None, Some, Result, Ok, Err, map, drop, slice_get, option_map, refl, subst, sym, ap, ◌∙◌, rules, arith}
use Rattle.run_model.specs.Acts.{World, Outcome, Fine, then_do, Act, Answer, and_then, play}
use Rattle.run_model.specs.Turns.{After, follow, turns, run_from}
use Rattle.run_model.proofs.Order.{play-and_then}
use Rattle.f77_tree.specs.declared.unit.Value.{Value}
use Rattle.f77_semantics.specs.Expressions.{Frame}
use Rattle.f77_semantics.specs.Statements as running
use Rattle.f77_semantics.specs.Statements.{turn, perform, statement, inner}
use Rattle.f77_semantics.specs.Units.{callee, entry, entered, beginning, meaning, run_unit}
use Rattle.f77_semantics.specs.Values.{stored}
use Rattle.interp_code.specs.declared.step.Step.{Step}
use Rattle.interp_code.specs.Endings.{finish}
use Rattle.interp_code.specs.Steps.{Operands, passed_above, step, steps}
use Rattle.interp_steps.specs.declared.operand.Operand.{Operand}
use Rattle.interp_steps.specs.Frames.{frame_of, interval_of}
use Rattle.interp_steps.specs.Stacks.{stack_of}
use Rattle.interp_steps.specs.Stops.{Ends}
use Rattle.interp_steps.specs.declared.stop.Stop.TheVariants.{Spent}
use Rattle.interp_steps.specs.Worlds.{world_of}
use Rattle.interp_steps.proofs.Plays.{moved}
use Rattle.interp_turns.specs.declared.turn.Turn.{Turn}
use Rattle.interp_turns.specs.declared.turn.Turn.TheVariants.{Again, Result as Returns}
use Rattle.interp_turns.specs.Places.{here_of}
use Rattle.interp_turns.specs.Turns.{after_of}
use Rattle.interp_lower.specs.Routines.{dummy_of}
use Rattle.interp_lower.specs.declared.arrays.DummyArray.{DummyArray}
use Rattle.interp_calls.specs.declared.halt.Halt.{Halt}
use Rattle.interp_calls.specs.declared.halt.Halt.TheVariants.{Stop}
use Rattle.interp_calls.specs.Behind.{behind}
use Rattle.interp_calls.specs.Calls.{handler, asking}
use Rattle.interp_calls.specs.Entries.{fixed, entry_by}
use Rattle.interp_calls.specs.Procedures.{place, IsOf}
use Rattle.interp_calls.specs.Sending.{halting, Sends}
use Rattle.interp_calls.proofs.Appending.{acts_append, turns_append, run_appends, unit_appends, handler_appends}
use Rattle.interp_calls.proofs.Calling.{answered, goes_deeper}
use Rattle.interp_calls.proofs.Entering.{enters}
use Rattle.interp_calls.proofs.Finding.{unit_at, no_unit, callee_found}
use Rattle.interp_calls.proofs.Items.{item_there, item_not, from_here, all_gone}
use Rattle.interp_calls.proofs.Reaching.{sends_from, sends_to, sends_then, sends_onward, sends_left, sends_none, sends_so, sends_wanting}
use Rattle.interp_calls.proofs.Rounds.{begun, turn_is, piece_is}
use Rattle.interp_calls.proofs.Stepping.{step_and_rest, array_and_rest, entry_of, steps_done, arrays_done}
use Rattle.interp_calls.proofs.Turning.{stepped, turn_sends}
use Rattle.interp_calls.proofs.calls.+runs.Goals as goal

pub call-returns-in-Some-clause-run : goal.call-returns-in-Some-clause-run
call-returns-in-Some-clause-run g t c = λ all units rep q e.
    let ps = c.args.procedures.now in
    let item : IsItemAt ps c.args.at (Some c.in-Some.procedure) = search rules in
    let of : IsOf ps c.in-Some.procedure.now units (units q) = record { all = all; represents = rep; unit = unit_at rep.find ps all rep.each c.args.at (units q) c.in-Some.procedure.now e (item_there ps c.args.at c.in-Some.procedure item) } in
    let d : c.args.depth ≡ suc (c.args.depth - 1) = omega arith in
    let ds = map interval_of c.args.actuals.now in
    let w = world_of c.args.state.now in
    sends_from w (world_of c.run.new.state) (g.O.Sink.written c.args.out.now) (g.O.Sink.written c.run.new.out) c.run.result (λ v. Fine (option_map stored v)) (run_unit (handler units (c.args.depth - 1) (units q)) (units q) ds) (meaning units c.args.depth q ds) w
    (λ sent. sym (goes_deeper units c.args.depth (c.args.depth - 1) q ds (behind sent w) d)) (c.run.ensures.run units (units q) of)

pub call-returns-in-None-clause-run : goal.call-returns-in-None-clause-run
call-returns-in-None-clause-run g t c = λ all units rep q e.
    let ps = c.args.procedures.now in
    let item : IsItemAt ps c.args.at None = search rules in
    absurd (no_unit rep.find ps all rep.each c.args.at (units q) e (item_not ps c.args.at item))

pub call_at-returns-in-Some-clause-run : goal.call_at-returns-in-Some-clause-run
call_at-returns-in-Some-clause-run g t c = λ units u of.
    let p = c.args.caller.procedure.now in
    let site = c.args.site in
    let h = handler units c.args.caller.depth u in
    let here : c.place-at.result ≡ place p.own p.callees.items site = search rules in
    let found = ap (λ k. slice_get of.all k) here ∙ callee_found c.args.caller.procedures.now p units u of site in
    let same : c.as_slice.result.now ≡ c.in-Some.actuals.items = search rules in
    let ds = map interval_of c.as_slice.result.now in
    let passed : passed_above (stack_of c.args.stack.now.items) [] ≡ Some (map interval_of c.in-Some.actuals.items, stack_of c.pop_passed.new.stack.items) = search rules in
    let taken : passed_above (stack_of c.args.stack.now.items) [] ≡ Some (ds, stack_of c.pop_passed.new.stack.items) = passed ∙ ap (λ l. Some (map interval_of l, stack_of c.pop_passed.new.stack.items)) (sym same) in
    answered h (handler_appends units c.args.caller.depth u) site (stack_of c.args.stack.now.items) (stack_of c.pop_passed.new.stack.items) (world_of c.args.state.now) (world_of c.call.new.state) (g.O.Sink.written c.args.out.now) (g.O.Sink.written c.call.new.out) c.call.result ds taken (c.call.ensures.run of.all units of.represents (callee u site) found)

pub take_step-returns-in-Refer-clause-run : goal.take_step-returns-in-Refer-clause-run
take_step-returns-in-Refer-clause-run g t c = λ units u of.
    let h = handler units c.args.caller.depth u in
    let f = frame_of c.args.frame.now in
    let s = stack_of c.args.stack.now.items in
    let w = world_of c.args.state.now in
    let w1 = world_of c.call_at-answer.new.state in
    let a = g.O.Sink.written c.args.out.now in
    let b = g.O.Sink.written c.call_at-answer.new.out in
    subst (λ (x : Step). Sends c.referred.result (λ _. Fine (stack_of c.referred.new.stack.items)) w w1 a b (play h (step f x s))) (sym c.in-Refer.is)
    (c.referred.ensures.run h (handler_appends units c.args.caller.depth u) f c.in-Refer.site s w w1 a b (c.call_at-answer.ensures.run units u of))

pub take_step-returns-in-Perform-clause-run : goal.take_step-returns-in-Perform-clause-run
take_step-returns-in-Perform-clause-run g t c = λ units u of.
    let h = handler units c.args.caller.depth u in
    let f = frame_of c.args.frame.now in
    let s = stack_of c.args.stack.now.items in
    let w = world_of c.args.state.now in
    let w1 = world_of c.call_at-end.new.state in
    let a = g.O.Sink.written c.args.out.now in
    let b = g.O.Sink.written c.call_at-end.new.out in
    subst (λ (x : Step). Sends c.performed.result (λ _. Fine (stack_of c.call_at-end.new.stack.items)) w w1 a b (play h (step f x s))) (sym c.in-Perform.is)
    (c.performed.ensures.run h f c.in-Perform.site s (stack_of c.call_at-end.new.stack.items) w w1 a b (c.call_at-end.ensures.run units u of))

pub run_steps-loop-one-init : goal.run_steps-loop-one-init
run_steps-loop-one-init g t c = record {
  run = λ units u of. sends_none (world_of c.args.state.now) (g.O.Sink.written c.args.out.now) tt (λ _. play (handler units c.args.caller.depth u) (steps (frame_of c.args.frame.now) c.args.steps.now (stack_of c.args.stack.now.items))) (play (handler units c.args.caller.depth u) (steps (frame_of c.args.frame.now) c.args.steps.now (stack_of c.args.stack.now.items))) (λ sent. refl);
  sent = search rules;
  later = omega arith;
}

pub run_steps-loop-one-preserved : goal.run_steps-loop-one-preserved
run_steps-loop-one-preserved g t c = record {
  run = λ units u of.
      let h = handler units c.args.caller.depth u in
      let f = frame_of c.args.frame.now in
      let cs = c.args.steps.now in
      let i = c.loop-one.one-index in
      let s = stack_of c.loop-one.stack.items in
      let s1 = stack_of c.take_step.new.stack.items in
      let w = world_of c.loop-one.state in
      let w1 = world_of c.take_step.new.state in
      let a = g.O.Sink.written c.args.out.now in
      let b = g.O.Sink.written c.loop-one.out in
      let d = g.O.Sink.written c.take_step.new.out in
      let here = from_here cs i c.one-item.result c.loop-one-test.true c.one-item.is in
      let rest : Operands → World → Outcome Operands = λ x v. play h (steps f (drop (i + 1) cs) x) v in
      sends_onward (world_of c.args.state.now) w a b tt (λ _. play h (steps f (drop i cs) s)) (play h (steps f cs (stack_of c.args.stack.now.items))) w1 d (Ok tt) (λ _. rest s1) (c.loop-one.invariant.run units u of)
      (sends_from w w1 b d (Ok tt) (λ _. rest s1) (λ v. then_do (play h (step f c.one-item.result s) v) rest) (play h (steps f (drop i cs) s)) w (λ sent. step_and_rest h f cs i c.one-item.result s here (behind sent w))
      (sends_then w w1 b d (Ok tt) (λ _. Fine s1) (play h (step f c.one-item.result s)) rest (λ x. acts_append h (handler_appends units c.args.caller.depth u) (steps f (drop (i + 1) cs) x)) (c.in-Ok.ensures.run units u of)));
  sent = search rules;
  later = omega arith;
}

pub run_steps-returns-in-Err-clause-run : goal.run_steps-returns-in-Err-clause-run
run_steps-returns-in-Err-clause-run g t c = λ units u of.
    let h = handler units c.args.caller.depth u in
    let f = frame_of c.args.frame.now in
    let cs = c.args.steps.now in
    let i = c.loop-one.one-index in
    let s = stack_of c.loop-one.stack.items in
    let s1 = stack_of c.take_step.new.stack.items in
    let w = world_of c.loop-one.state in
    let w1 = world_of c.take_step.new.state in
    let a = g.O.Sink.written c.args.out.now in
    let b = g.O.Sink.written c.loop-one.out in
    let d = g.O.Sink.written c.take_step.new.out in
    let here = from_here cs i c.one-item.result c.loop-one-test.true c.one-item.is in
    let rest : Operands → World → Outcome Operands = λ x v. play h (steps f (drop (i + 1) cs) x) v in
    let e = c.in-Err.halt in
    sends_onward (world_of c.args.state.now) w a b tt (λ _. play h (steps f (drop i cs) s)) (play h (steps f cs (stack_of c.args.stack.now.items))) w1 d (Err e) (λ _. Fine s1) (c.loop-one.invariant.run units u of)
    (sends_from w w1 b d (Err e) (λ _. Fine s1) (λ v. then_do (play h (step f c.one-item.result s) v) rest) (play h (steps f (drop i cs) s)) w (λ sent. step_and_rest h f cs i c.one-item.result s here (behind sent w))
    (sends_left w w1 b d e (λ _. rest s1) (λ _. Fine s1) (λ v. then_do (play h (step f c.one-item.result s) v) rest)
    (sends_then w w1 b d (Err e) (λ _. Fine s1) (play h (step f c.one-item.result s)) rest (λ x. acts_append h (handler_appends units c.args.caller.depth u) (steps f (drop (i + 1) cs) x)) (c.in-Err.ensures.run units u of))))

pub run_steps-returns-clause-run : goal.run_steps-returns-clause-run
run_steps-returns-clause-run g t c = λ units u of.
    let h = handler units c.args.caller.depth u in
    let f = frame_of c.args.frame.now in
    let cs = c.args.steps.now in
    let i = c.loop-one.one-index in
    let s = stack_of c.loop-one.stack.items in
    let w = world_of c.loop-one.state in
    sends_to (world_of c.args.state.now) w (g.O.Sink.written c.args.out.now) (g.O.Sink.written c.loop-one.out) tt (λ _. play h (steps f (drop i cs) s)) (λ _. Fine s) (play h (steps f cs (stack_of c.args.stack.now.items)))
    (λ sent. steps_done h f cs i s (behind sent w) (all_gone cs i c.loop-one-test.false)) (c.loop-one.invariant.run units u of)

pub perform-returns-in-Ok-clause-turn : goal.perform-returns-in-Ok-clause-turn
perform-returns-in-Ok-clause-turn g t c = λ x is units u of.
    let h = handler units c.args.caller.depth u in
    let all = handler_appends units c.args.caller.depth u in
    let f = frame_of c.args.frame.now in
    let s = here_of c.args.here.now in
    let k = c.args.numbered.number in
    let p = c.args.numbered.piece.now in
    let w = world_of c.args.state.now in
    let w1 = world_of c.run_steps.new.state in
    let w2 = world_of c.finish.new.state in
    let a = g.O.Sink.written c.args.out.now in
    let b = g.O.Sink.written c.run_steps.new.out in
    let os = stack_of c.run_steps.new.stack.items in
    let code : c.as_slice-steps.result.now ≡ p.steps = search rules in
    let none : c.clear.new.self.items ≡ [] = search rules in
    let left : c.as_slice-operands.result.now ≡ c.run_steps.new.stack.items = search rules in
    let ending : Operands → Act (After running.Here) = finish u f s k p.ending in
    let ran = steps f p.steps [] in
    let ended = c.finish.ensures.turn u of.unit.follows (c.variable-variable.ensures u of.unit.stands) h in
    let end : Ends c.finish.result (λ y. after_of y c.finish.new.here) w2 (play h (ending os) w1) = subst (λ (l : List Operand). Ends c.finish.result (λ y. after_of y c.finish.new.here) w2 (play h (ending (stack_of l)) w1)) left ended in
    let rest : Operands → World → Outcome (After running.Here) = λ z v. play h (ending z) v in
    subst (λ (r : Result Turn Halt). Sends r (λ y. Fine (after_of y c.finish.new.here)) w w2 a b (play h (perform u f s k x))) (sym c.halting.ensures)
    (sends_from w w2 a b (halting c.finish.result) (λ y. Fine (after_of y c.finish.new.here)) (λ v. then_do (play h ran v) rest) (play h (perform u f s k x)) w (λ sent. ap (λ (act : Act (After running.Here)). play h act (behind sent w)) (piece_is u f s k p x is) ∙ play-and_then h ran ending (behind sent w))
    (sends_onward w w1 a b tt (λ _. rest os) (λ v. then_do (play h ran v) rest) w2 b (halting c.finish.result) (λ y. Fine (after_of y c.finish.new.here))
    (sends_then w w1 a b (Ok tt) (λ _. Fine os) (play h ran) rest (λ z. acts_append h all (ending z))
    (sends_from w w1 a b (Ok tt) (λ _. Fine os) (play h (steps f c.as_slice-steps.result.now (stack_of c.clear.new.self.items))) (play h ran) w (λ sent. λ i. play h (steps f (sym code i) (stack_of (sym none i))) (behind sent w)) (c.in-Ok.ensures.run units u of)))
    (sends_so w1 b (rest os) (acts_append h all (ending os)) w2 c.finish.result (λ y. after_of y c.finish.new.here) end)))

pub perform-returns-in-Err-clause-turn : goal.perform-returns-in-Err-clause-turn
perform-returns-in-Err-clause-turn g t c = λ x is units u of.
    let h = handler units c.args.caller.depth u in
    let all = handler_appends units c.args.caller.depth u in
    let f = frame_of c.args.frame.now in
    let s = here_of c.args.here.now in
    let k = c.args.numbered.number in
    let p = c.args.numbered.piece.now in
    let w = world_of c.args.state.now in
    let w1 = world_of c.run_steps.new.state in
    let a = g.O.Sink.written c.args.out.now in
    let b = g.O.Sink.written c.run_steps.new.out in
    let e = c.in-Err.halt in
    let code : c.as_slice-steps.result.now ≡ p.steps = search rules in
    let none : c.clear.new.self.items ≡ [] = search rules in
    let ending : Operands → Act (After running.Here) = finish u f s k p.ending in
    let ran = steps f p.steps [] in
    let rest : Operands → World → Outcome (After running.Here) = λ z v. play h (ending z) v in
    let os = stack_of c.run_steps.new.stack.items in
    sends_from w w1 a b (Err e) (λ y. Fine (after_of y c.args.here.now)) (λ v. then_do (play h ran v) rest) (play h (perform u f s k x)) w (λ sent. ap (λ (act : Act (After running.Here)). play h act (behind sent w)) (piece_is u f s k p x is) ∙ play-and_then h ran ending (behind sent w))
    (sends_left w w1 a b e (λ _. rest os) (λ y. Fine (after_of y c.args.here.now)) (λ v. then_do (play h ran v) rest)
    (sends_then w w1 a b (Err e) (λ _. Fine os) (play h ran) rest (λ z. acts_append h all (ending z))
    (sends_from w w1 a b (Err e) (λ _. Fine os) (play h (steps f c.as_slice-steps.result.now (stack_of c.clear.new.self.items))) (play h ran) w (λ sent. λ i. play h (steps f (sym code i) (stack_of (sym none i))) (behind sent w)) (c.in-Err.ensures.run units u of))))

pub take_turn-returns-in-Some-clause-turn : goal.take_turn-returns-in-Some-clause-turn
take_turn-returns-in-Some-clause-turn g t c = λ units u of.
    let h = handler units c.args.caller.depth u in
    let f = frame_of c.args.frame.now in
    let k = c.in-At.k in
    subst (λ (act : Act (After running.Here)). Sends c.perform.result (λ y. Fine (after_of y c.perform.new.here)) (world_of c.args.state.now) (world_of c.perform.new.state) (g.O.Sink.written c.args.out.now) (g.O.Sink.written c.perform.new.out) (play h act)) (sym (turn_is u f c.args.here.now _ c.in-At.is))
    (c.perform.ensures.turn (statement u k) (c.in-Some.ensures.piece of.represents.find u of.unit) units u of)

pub take_turn-returns-in-Some-inner_piece-clause-turn : goal.take_turn-returns-in-Some-inner_piece-clause-turn
take_turn-returns-in-Some-inner_piece-clause-turn g t c = λ units u of.
    let h = handler units c.args.caller.depth u in
    let f = frame_of c.args.frame.now in
    let k = c.in-Inside.k in
    subst (λ (act : Act (After running.Here)). Sends c.perform-turn.result (λ y. Fine (after_of y c.perform-turn.new.here)) (world_of c.args.state.now) (world_of c.perform-turn.new.state) (g.O.Sink.written c.args.out.now) (g.O.Sink.written c.perform-turn.new.out) (play h act)) (sym (turn_is u f c.args.here.now _ c.in-Inside.is))
    (c.perform-turn.ensures.turn (inner (statement u k)) (c.in-Some-inner_piece.ensures.piece of.represents.find u of.unit) units u of)

pub take_turn-returns-in-Advance-clause-turn : goal.take_turn-returns-in-Advance-clause-turn
take_turn-returns-in-Advance-clause-turn g t c = λ units u of.
    let h = handler units c.args.caller.depth u in
    let f = frame_of c.args.frame.now in
    let s = here_of c.args.here.now in
    let w = world_of c.args.state.now in
    let w1 = world_of c.advance_at.new.state in
    let a = g.O.Sink.written c.args.out.now in
    let view : Turn → After running.Here = λ y. after_of y c.advance_at.new.here in
    let end = subst (λ (act : Act (After running.Here)). Ends c.advance_at.result view w1 (play h act w)) (sym (turn_is u f c.args.here.now _ c.in-Advance.is)) (c.advance_at.ensures.turn of.represents.find u of.unit h) in
    subst (λ (r : Result Turn Halt). Sends r (λ y. Fine (view y)) w w1 a a (play h (turn u f s))) (sym c.halting.ensures)
    (sends_so w a (play h (turn u f s)) (acts_append h (handler_appends units c.args.caller.depth u) (turn u f s)) w1 c.advance_at.result view end)

pub run_turns-returns-in-Err-clause-run : goal.run_turns-returns-in-Err-clause-run
run_turns-returns-in-Err-clause-run g t c = λ units u of.
    let h = handler units c.args.caller.depth u in
    let all = handler_appends units c.args.caller.depth u in
    let f = frame_of c.args.frame.now in
    let s = here_of c.turns.here in
    let w = world_of c.turns.state in
    let w1 = world_of c.tick.new.self in
    let a = g.O.Sink.written c.args.out.now in
    let b = g.O.Sink.written c.turns.out in
    let n = suc c.turns.more in
    let go : World → Outcome Answer = turns h (turn u f) n s in
    sends_onward (world_of c.args.state.now) w a b tt (λ _. go) (run_from h (turn u f) (beginning u)) w1 b (Err _) (λ v. Fine (option_map stored v)) (c.turns.invariant.run units u of)
    (sends_so w b go (turns_append h all (turn u f) n s) w1 (Err c.in-Err.stop) (λ v. option_map stored v) (c.in-Err.ensures.begins (stepped h all (turn u f) c.turns.more s)))

pub run_turns-turns-init : goal.run_turns-turns-init
run_turns-turns-init g t c = record {
  run = λ units u of.
      let h = handler units c.args.caller.depth u in
      let f = frame_of c.args.frame.now in
      let w = world_of c.args.state.now in
      let s = here_of c.in_ok-here.here in
      sends_none w (g.O.Sink.written c.args.out.now) tt (λ _. turns h (turn u f) (suc c.args.state.now.left) s) (run_from h (turn u f) (beginning u)) (λ sent. begun u h f _ s (behind sent w) c.args.state.now.left of.unit.first (search rules) refl);
  stands = search rules;
  sent = search rules;
  later = omega arith;
}

pub run_turns-returns-in-Ok-Result-clause-run : goal.run_turns-returns-in-Ok-Result-clause-run
run_turns-returns-in-Ok-Result-clause-run g t c = λ units u of.
    let h = handler units c.args.caller.depth u in
    let all = handler_appends units c.args.caller.depth u in
    let f = frame_of c.args.frame.now in
    let s = here_of c.turns.here in
    let n = c.turns.more in
    let w = world_of c.turns.state in
    let w1 = world_of c.tick.new.self in
    let w2 = world_of c.send_after.new.state in
    let s2 = here_of c.take_turn-taken.new.here in
    let a = g.O.Sink.written c.args.out.now in
    let b = g.O.Sink.written c.turns.out in
    let d = g.O.Sink.written c.send_after.new.out in
    let view : Turn → After running.Here = λ y. after_of y c.take_turn-taken.new.here in
    let left : Option Value → World → Outcome Answer = λ v. Fine (option_map stored v) in
    let taken = c.send_after.ensures.run view (play h (turn u f s)) w1 b (c.take_turn-taken.ensures.turn units u of) in
    let there = subst (λ (y : Turn). Sends (Ok y) (λ z. Fine (view z)) w1 w2 b d (play h (turn u f s))) c.in-Ok-Result.field-0-is (subst (λ (r : Result Turn Halt). Sends r (λ z. Fine (view z)) w1 w2 b d (play h (turn u f s))) c.in-Ok-Result.is taken) in
    let answer = c.in-Ok-Result.answer in
    let next : Turn → World → Outcome Answer = λ y v. follow (view y) v (turns h (turn u f) n) in
    sends_onward (world_of c.args.state.now) w a b tt (λ _. turns h (turn u f) (suc n) s) (run_from h (turn u f) (beginning u)) w2 d (Ok answer) left (c.turns.invariant.run units u of)
    (sends_onward w w2 b d (Returns answer) next (turns h (turn u f) (suc n) s) w2 d (Ok answer) left (turn_sends h all (turn u f) n s w w1 w2 b d (Ok (Returns answer)) view c.in-Ok.ensures.begins there)
    (sends_none w2 d answer left (next (Returns answer)) (λ sent. refl)))

pub run_turns-returns-in-Err-send_after-clause-run : goal.run_turns-returns-in-Err-send_after-clause-run
run_turns-returns-in-Err-send_after-clause-run g t c = λ units u of.
    let h = handler units c.args.caller.depth u in
    let all = handler_appends units c.args.caller.depth u in
    let f = frame_of c.args.frame.now in
    let s = here_of c.turns.here in
    let n = c.turns.more in
    let w = world_of c.turns.state in
    let w1 = world_of c.tick.new.self in
    let w2 = world_of c.send_after.new.state in
    let s2 = here_of c.take_turn-taken.new.here in
    let a = g.O.Sink.written c.args.out.now in
    let b = g.O.Sink.written c.turns.out in
    let d = g.O.Sink.written c.send_after.new.out in
    let view : Turn → After running.Here = λ y. after_of y c.take_turn-taken.new.here in
    let left : Option Value → World → Outcome Answer = λ v. Fine (option_map stored v) in
    let taken = c.send_after.ensures.run view (play h (turn u f s)) w1 b (c.take_turn-taken.ensures.turn units u of) in
    let there = subst (λ (r : Result Turn Halt). Sends r (λ z. Fine (view z)) w1 w2 b d (play h (turn u f s))) c.in-Err-send_after.is taken in
    let e = c.in-Err-send_after.halt in
    sends_onward (world_of c.args.state.now) w a b tt (λ _. turns h (turn u f) (suc n) s) (run_from h (turn u f) (beginning u)) w2 d (Err e) left (c.turns.invariant.run units u of)
    (sends_left w w2 b d e (λ y v. follow (view y) v (turns h (turn u f) n)) left (turns h (turn u f) (suc n) s)
    (turn_sends h all (turn u f) n s w w1 w2 b d (Err e) view c.in-Ok.ensures.begins there))

pub run_turns-returns-then-more-eq0-clause-run : goal.run_turns-returns-then-more-eq0-clause-run
run_turns-returns-then-more-eq0-clause-run g t c = λ units u of.
    let h = handler units c.args.caller.depth u in
    let all = handler_appends units c.args.caller.depth u in
    let f = frame_of c.args.frame.now in
    let s = here_of c.turns.here in
    let n = c.turns.more in
    let w = world_of c.turns.state in
    let w1 = world_of c.tick.new.self in
    let w2 = world_of c.send_after.new.state in
    let s2 = here_of c.take_turn-taken.new.here in
    let a = g.O.Sink.written c.args.out.now in
    let b = g.O.Sink.written c.turns.out in
    let d = g.O.Sink.written c.send_after.new.out in
    let view : Turn → After running.Here = λ y. after_of y c.take_turn-taken.new.here in
    let left : Option Value → World → Outcome Answer = λ v. Fine (option_map stored v) in
    let taken = c.send_after.ensures.run view (play h (turn u f s)) w1 b (c.take_turn-taken.ensures.turn units u of) in
    let there = subst (λ (y : Turn). Sends (Ok y) (λ z. Fine (view z)) w1 w2 b d (play h (turn u f s))) c.in-Ok-Again.field-0-is (subst (λ (r : Result Turn Halt). Sends r (λ z. Fine (view z)) w1 w2 b d (play h (turn u f s))) c.in-Ok-Again.is taken) in
    let zero : n ≡ 0 = omega arith in
    let go = turns h (turn u f) n s2 in
    sends_onward (world_of c.args.state.now) w a b tt (λ _. turns h (turn u f) (suc n) s) (run_from h (turn u f) (beginning u)) w2 d (Err (Stop Spent)) left (c.turns.invariant.run units u of)
    (sends_onward w w2 b d Again (λ y v. follow (view y) v (turns h (turn u f) n)) (turns h (turn u f) (suc n) s) w2 d (Err (Stop Spent)) left (turn_sends h all (turn u f) n s w w1 w2 b d (Ok Again) view c.in-Ok.ensures.begins there)
    (sends_so w2 d go (turns_append h all (turn u f) n s2) w2 (Err Spent) (λ v. option_map stored v) (ap (λ k. turns h (turn u f) k s2 w2) zero)))

pub run_turns-turns-preserved : goal.run_turns-turns-preserved
run_turns-turns-preserved g t c = record {
  run = λ units u of.
      let h = handler units c.args.caller.depth u in
      let all = handler_appends units c.args.caller.depth u in
      let f = frame_of c.args.frame.now in
      let s = here_of c.turns.here in
      let n = c.turns.more in
      let w = world_of c.turns.state in
      let w1 = world_of c.tick.new.self in
      let w2 = world_of c.send_after.new.state in
      let s2 = here_of c.take_turn-taken.new.here in
      let a = g.O.Sink.written c.args.out.now in
      let b = g.O.Sink.written c.turns.out in
      let d = g.O.Sink.written c.send_after.new.out in
      let view : Turn → After running.Here = λ y. after_of y c.take_turn-taken.new.here in
      let left : Option Value → World → Outcome Answer = λ v. Fine (option_map stored v) in
      let taken = c.send_after.ensures.run view (play h (turn u f s)) w1 b (c.take_turn-taken.ensures.turn units u of) in
      let there = subst (λ (y : Turn). Sends (Ok y) (λ z. Fine (view z)) w1 w2 b d (play h (turn u f s))) c.in-Ok-Again.field-0-is (subst (λ (r : Result Turn Halt). Sends r (λ z. Fine (view z)) w1 w2 b d (play h (turn u f s))) c.in-Ok-Again.is taken) in
      let less : n ≡ suc (n - 1) = omega arith in
      let on = turns h (turn u f) n s2 in
      let next = turns h (turn u f) (suc (n - 1)) s2 in
      sends_onward (world_of c.args.state.now) w a b tt (λ _. turns h (turn u f) (suc n) s) (run_from h (turn u f) (beginning u)) w2 d (Ok tt) (λ _. next) (c.turns.invariant.run units u of)
      (sends_onward w w2 b d Again (λ y v. follow (view y) v (turns h (turn u f) n)) (turns h (turn u f) (suc n) s) w2 d (Ok tt) (λ _. next) (turn_sends h all (turn u f) n s w w1 w2 b d (Ok Again) view c.in-Ok.ensures.begins there)
      (sends_none w2 d tt (λ _. next) on (λ sent. ap (λ k. turns h (turn u f) k s2 (behind sent w2)) less)));
  stands = search rules;
  sent = search rules;
  later = search rules;
}

pub dimension_one-returns-in-Ok-clause-run : goal.dimension_one-returns-in-Ok-clause-run
dimension_one-returns-in-Ok-clause-run g t c = λ units u of.
    let h = handler units c.args.caller.depth u in
    let all = handler_appends units c.args.caller.depth u in
    let f = frame_of c.args.frame.now in
    let y = c.args.array.now in
    let w = world_of c.args.state.now in
    let w1 = world_of c.run_steps.new.state in
    let a = g.O.Sink.written c.args.out.now in
    let b = g.O.Sink.written c.run_steps.new.out in
    let fit = frame_of c.fix_shape.new.frame in
    let os = stack_of c.run_steps.new.stack.items in
    let code : c.as_slice-bounds.result.now ≡ y.bounds = search rules in
    let none : c.clear.new.self.items ≡ [] = search rules in
    let ran = steps f y.bounds [] in
    let rest : Operands → World → Outcome Frame = λ z v. play h (fixed f y.dummy z) v in
    subst (λ (r : Result (Unit {0}) Halt). Sends r (λ _. Fine fit) w w1 a b (play h (and_then ran (fixed f y.dummy)))) (sym c.halting.ensures)
    (sends_from w w1 a b (halting c.fix_shape.result) (λ _. Fine fit) (λ v. then_do (play h ran v) rest) (play h (and_then ran (fixed f y.dummy))) w (λ sent. play-and_then h ran (fixed f y.dummy) (behind sent w))
    (sends_onward w w1 a b tt (λ _. rest os) (λ v. then_do (play h ran v) rest) w1 b (halting c.fix_shape.result) (λ _. Fine fit)
    (sends_then w w1 a b (Ok tt) (λ _. Fine os) (play h ran) rest (λ z. acts_append h all (fixed f y.dummy z))
    (sends_from w w1 a b (Ok tt) (λ _. Fine os) (play h (steps f c.as_slice-bounds.result.now (stack_of c.clear.new.self.items))) (play h ran) w (λ sent. λ i. play h (steps f (sym code i) (stack_of (sym none i))) (behind sent w)) (c.in-Ok.ensures.run units u of)))
    (sends_so w1 b (rest os) (acts_append h all (fixed f y.dummy os)) w1 c.fix_shape.result (λ _. fit) (moved c.fix_shape.result (λ _. fit) (fixed f y.dummy os) c.fix_shape.ensures h w1))))

pub dimension_one-returns-in-Err-clause-run : goal.dimension_one-returns-in-Err-clause-run
dimension_one-returns-in-Err-clause-run g t c = λ units u of.
    let h = handler units c.args.caller.depth u in
    let all = handler_appends units c.args.caller.depth u in
    let f = frame_of c.args.frame.now in
    let y = c.args.array.now in
    let w = world_of c.args.state.now in
    let w1 = world_of c.run_steps.new.state in
    let a = g.O.Sink.written c.args.out.now in
    let b = g.O.Sink.written c.run_steps.new.out in
    let e = c.in-Err.halt in
    let os = stack_of c.run_steps.new.stack.items in
    let code : c.as_slice-bounds.result.now ≡ y.bounds = search rules in
    let none : c.clear.new.self.items ≡ [] = search rules in
    let ran = steps f y.bounds [] in
    let rest : Operands → World → Outcome Frame = λ z v. play h (fixed f y.dummy z) v in
    sends_from w w1 a b (Err e) (λ _. Fine f) (λ v. then_do (play h ran v) rest) (play h (and_then ran (fixed f y.dummy))) w (λ sent. play-and_then h ran (fixed f y.dummy) (behind sent w))
    (sends_left w w1 a b e (λ _. rest os) (λ _. Fine f) (λ v. then_do (play h ran v) rest)
    (sends_then w w1 a b (Err e) (λ _. Fine os) (play h ran) rest (λ z. acts_append h all (fixed f y.dummy z))
    (sends_from w w1 a b (Err e) (λ _. Fine os) (play h (steps f c.as_slice-bounds.result.now (stack_of c.clear.new.self.items))) (play h ran) w (λ sent. λ i. play h (steps f (sym code i) (stack_of (sym none i))) (behind sent w)) (c.in-Err.ensures.run units u of))))

pub dimension-loop-array-init : goal.dimension-loop-array-init
dimension-loop-array-init g t c = record {
  run = λ units u of. sends_none (world_of c.args.state.now) (g.O.Sink.written c.args.out.now) tt (λ _. play (handler units c.args.caller.depth u) (entry_by (frame_of c.args.frame.now) (map dummy_of c.as_slice-array-items.result.now))) (play (handler units c.args.caller.depth u) (entry_by (frame_of c.args.frame.now) (map dummy_of c.as_slice-array-items.result.now))) (λ sent. refl);
  sent = search rules;
  later = omega arith;
}

pub dimension-loop-array-preserved : goal.dimension-loop-array-preserved
dimension-loop-array-preserved g t c = record {
  run = λ units u of.
      let h = handler units c.args.caller.depth u in
      let all = handler_appends units c.args.caller.depth u in
      let f0 = frame_of c.args.frame.now in
      let f = frame_of c.loop-array.frame in
      let f1 = frame_of c.dimension_one.new.frame in
      let ys = c.as_slice-array-items.result.now in
      let i = c.loop-array.array-index in
      let y = c.array-item.result in
      let w = world_of c.loop-array.state in
      let w1 = world_of c.dimension_one.new.state in
      let a = g.O.Sink.written c.args.out.now in
      let b = g.O.Sink.written c.loop-array.out in
      let d = g.O.Sink.written c.dimension_one.new.out in
      let here = from_here ys i y c.loop-array-test.true c.array-item.is in
      let one = and_then (steps f y.bounds []) (fixed f y.dummy) in
      let rest : Frame → World → Outcome Frame = λ x v. play h (entry_by x (map dummy_of (drop (i + 1) ys))) v in
      sends_onward (world_of c.args.state.now) w a b tt (λ _. play h (entry_by f (map dummy_of (drop i ys)))) (play h (entry_by f0 (map dummy_of ys))) w1 d (Ok tt) (λ _. rest f1) (c.loop-array.invariant.run units u of)
      (sends_from w w1 b d (Ok tt) (λ _. rest f1) (λ v. then_do (play h one v) rest) (play h (entry_by f (map dummy_of (drop i ys)))) w (λ sent. array_and_rest h f ys i y here (behind sent w))
      (sends_then w w1 b d (Ok tt) (λ _. Fine f1) (play h one) rest (λ x. acts_append h all (entry_by x (map dummy_of (drop (i + 1) ys)))) (c.in-Ok.ensures.run units u of)));
  sent = search rules;
  later = omega arith;
}

pub dimension-returns-in-Err-clause-run : goal.dimension-returns-in-Err-clause-run
dimension-returns-in-Err-clause-run g t c = λ units u of.
    let h = handler units c.args.caller.depth u in
    let all = handler_appends units c.args.caller.depth u in
    let r0 = c.args.caller.procedure.now.routine in
    let f0 = frame_of c.args.frame.now in
    let f = frame_of c.loop-array.frame in
    let f1 = frame_of c.dimension_one.new.frame in
    let ys = c.as_slice-array-items.result.now in
    let i = c.loop-array.array-index in
    let y = c.array-item.result in
    let w0 = world_of c.args.state.now in
    let w = world_of c.loop-array.state in
    let w1 = world_of c.dimension_one.new.state in
    let a = g.O.Sink.written c.args.out.now in
    let b = g.O.Sink.written c.loop-array.out in
    let d = g.O.Sink.written c.dimension_one.new.out in
    let e = c.in-Err.halt in
    let here = from_here ys i y c.loop-array-test.true c.array-item.is in
    let same : ys ≡ r0.dummy_arrays = search rules in
    let one = and_then (steps f y.bounds []) (fixed f y.dummy) in
    let rest : Frame → World → Outcome Frame = λ x v. play h (entry_by x (map dummy_of (drop (i + 1) ys))) v in
    sends_from w0 w1 a d (Err e) (λ _. Fine f1) (play h (entry_by f0 (map dummy_of ys))) (play h (entry f0 u.dummy_arrays)) w0
    (λ sent. ap (λ act. play h act (behind sent w0)) (entry_of r0 u of.unit.stands f0) ∙ ap (λ (l : List DummyArray). play h (entry_by f0 (map dummy_of l)) (behind sent w0)) (sym same))
    (sends_onward w0 w a b tt (λ _. play h (entry_by f (map dummy_of (drop i ys)))) (play h (entry_by f0 (map dummy_of ys))) w1 d (Err e) (λ _. Fine f1) (c.loop-array.invariant.run units u of)
    (sends_from w w1 b d (Err e) (λ _. Fine f1) (λ v. then_do (play h one v) rest) (play h (entry_by f (map dummy_of (drop i ys)))) w (λ sent. array_and_rest h f ys i y here (behind sent w))
    (sends_left w w1 b d e (λ _. rest f1) (λ _. Fine f1) (λ v. then_do (play h one v) rest)
    (sends_then w w1 b d (Err e) (λ _. Fine f1) (play h one) rest (λ x. acts_append h all (entry_by x (map dummy_of (drop (i + 1) ys)))) (c.in-Err.ensures.run units u of)))))

pub dimension-returns-clause-run : goal.dimension-returns-clause-run
dimension-returns-clause-run g t c = λ units u of.
    let h = handler units c.args.caller.depth u in
    let r0 = c.args.caller.procedure.now.routine in
    let f0 = frame_of c.args.frame.now in
    let f = frame_of c.loop-array.frame in
    let ys = c.as_slice-array-items.result.now in
    let i = c.loop-array.array-index in
    let w0 = world_of c.args.state.now in
    let w = world_of c.loop-array.state in
    let a = g.O.Sink.written c.args.out.now in
    let b = g.O.Sink.written c.loop-array.out in
    let same : ys ≡ r0.dummy_arrays = search rules in
    sends_from w0 w a b (Ok tt) (λ _. Fine f) (play h (entry_by f0 (map dummy_of ys))) (play h (entry f0 u.dummy_arrays)) w0
    (λ sent. ap (λ act. play h act (behind sent w0)) (entry_of r0 u of.unit.stands f0) ∙ ap (λ (l : List DummyArray). play h (entry_by f0 (map dummy_of l)) (behind sent w0)) (sym same))
    (sends_to w0 w a b tt (λ _. play h (entry_by f (map dummy_of (drop i ys)))) (λ _. Fine f) (play h (entry_by f0 (map dummy_of ys)))
    (λ sent. arrays_done h f ys i (behind sent w) (all_gone ys i c.loop-array-test.false)) (c.loop-array.invariant.run units u of))

pub run_entered-returns-in-Ok-clause-run : goal.run_entered-returns-in-Ok-clause-run
run_entered-returns-in-Ok-clause-run g t c = λ units u of.
    let h = handler units c.args.caller.depth u in
    let all = handler_appends units c.args.caller.depth u in
    let f0 = frame_of c.args.frame.now in
    let f = frame_of c.dimension.new.frame in
    let w = world_of c.args.state.now in
    let w1 = world_of c.dimension.new.state in
    let w2 = world_of c.run_turns.new.state in
    let a = g.O.Sink.written c.args.out.now in
    let b = g.O.Sink.written c.dimension.new.out in
    let d = g.O.Sink.written c.run_turns.new.out in
    let rest : Frame → World → Outcome Answer = λ f v. run_from h (turn u f) (beginning u) v in
    sends_onward w w1 a b tt (λ _. rest f) (λ v. then_do (play h (entry f0 u.dummy_arrays) v) rest) w2 d c.run_turns.result (λ v. Fine (option_map stored v))
    (sends_then w w1 a b (Ok tt) (λ _. Fine f) (play h (entry f0 u.dummy_arrays)) rest (λ f. run_appends h all (turn u f) (beginning u)) (c.in-Ok.ensures.run units u of))
    (c.run_turns.ensures.run units u of)

pub run_entered-returns-in-Err-clause-run : goal.run_entered-returns-in-Err-clause-run
run_entered-returns-in-Err-clause-run g t c = λ units u of.
    let h = handler units c.args.caller.depth u in
    let all = handler_appends units c.args.caller.depth u in
    let f0 = frame_of c.args.frame.now in
    let f = frame_of c.dimension.new.frame in
    let w = world_of c.args.state.now in
    let w1 = world_of c.dimension.new.state in
    let a = g.O.Sink.written c.args.out.now in
    let b = g.O.Sink.written c.dimension.new.out in
    let e = c.in-Err.halt in
    let rest : Frame → World → Outcome Answer = λ f v. run_from h (turn u f) (beginning u) v in
    sends_left w w1 a b e (λ _. rest f) (λ v. Fine (option_map stored v)) (λ v. then_do (play h (entry f0 u.dummy_arrays) v) rest)
    (sends_then w w1 a b (Err e) (λ _. Fine f) (play h (entry f0 u.dummy_arrays)) rest (λ f. run_appends h all (turn u f) (beginning u)) (c.in-Err.ensures.run units u of))

pub run-returns-clause-run : goal.run-returns-clause-run
run-returns-clause-run g t c = λ units u of.
    let h = handler units c.args.caller.depth u in
    let ds = map interval_of c.args.actuals.now in
    let w = world_of c.args.state.now in
    let w1 = world_of c.clear.new.state in
    let f = frame_of c.in_ok-frame.frame in
    let start : f ≡ entered u ds = c.in_ok-frame.ensures of.represents.find u of.unit in
    let clean = c.clear.ensures.cleared of.represents.find u of.unit in
    sends_from w1 (world_of c.run_entered.new.state) (g.O.Sink.written c.args.out.now) (g.O.Sink.written c.run_entered.new.out) c.run_entered.result (λ v. Fine (option_map stored v)) (λ v. then_do (play h (entry f u.dummy_arrays) v) (λ f x. run_from h (turn u f) (beginning u) x)) (run_unit h u ds) w
    (enters h u ds w w1 f start clean) (c.run_entered.ensures.run units u of)

pub call_at-returns-in_err-actuals-clause-run : goal.call_at-returns-in_err-actuals-clause-run
call_at-returns-in_err-actuals-clause-run g t c = λ units u of go.
    let h = handler units c.args.caller.depth u in
    let act = asking c.args.site (stack_of c.args.stack.now.items) go in
    let w = world_of c.args.state.now in
    sends_wanting w (g.O.Sink.written c.args.out.now) (play h act) (acts_append h (handler_appends units c.args.caller.depth u) act) c.from_residual.result _ w c.from_residual.ensures.1

pub run-returns-in_err-frame-clause-run : goal.run-returns-in_err-frame-clause-run
run-returns-in_err-frame-clause-run g t c = λ units u of.
    let h = handler units c.args.caller.depth u in
    let ds = map interval_of c.args.actuals.now in
    sends_wanting (world_of c.args.state.now) (g.O.Sink.written c.args.out.now) (run_unit h u ds) (unit_appends h (handler_appends units c.args.caller.depth u) u ds) c.from_residual.result (λ v. Fine (option_map stored v)) (world_of c.clear.new.state) c.from_residual.ensures.1

pub run_turns-returns-in_err-here-clause-run : goal.run_turns-returns-in_err-here-clause-run
run_turns-returns-in_err-here-clause-run g t c = λ units u of.
    let h = handler units c.args.caller.depth u in
    let f = frame_of c.args.frame.now in
    let w = world_of c.args.state.now in
    sends_wanting w (g.O.Sink.written c.args.out.now) (run_from h (turn u f) (beginning u)) (run_appends h (handler_appends units c.args.caller.depth u) (turn u f) (beginning u)) c.from_residual.result (λ v. Fine (option_map stored v)) w c.from_residual.ensures.1

pub take_step-returns-in_default : goal.take_step-returns-in_default
take_step-returns-in_default g t c = record {
  run = λ units u of.
      let h = handler units c.args.caller.depth u in
      let act = step (frame_of c.args.frame.now) c.args.one.now (stack_of c.args.stack.now.items) in
      let w = world_of c.args.state.now in
      let w1 = world_of c.step.new.state in
      let a = g.O.Sink.written c.args.out.now in
      let after = stack_of c.step.new.stack.items in
      subst (λ (r : Result (Unit {0}) Halt). Sends r (λ _. Fine after) w w1 a a (play h act)) (sym c.halting.ensures)
      (sends_so w a (play h act) (acts_append h (handler_appends units c.args.caller.depth u) act) w1 c.step.result (λ _. after) (c.step.ensures.moves h));
  sent = search rules;
  cause = search rules;
}
