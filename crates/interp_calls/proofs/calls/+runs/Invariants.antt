use Rattle.std.proofs.Common.{◌≡◌, ◌≤◌, suc, ◌+◌, ◌*◌, [], Ok, length, map, drop}
use Rattle.run_model.specs.Acts.{play}
use Rattle.run_model.specs.Turns.{turns, run_from}
use Rattle.f77_semantics.specs.Statements.{turn}
use Rattle.f77_semantics.specs.Units.{beginning}
use Rattle.interp_code.specs.Steps.{steps}
use Rattle.interp_lower.specs.Routines.{dummy_of}
use Rattle.interp_steps.specs.Frames.{frame_of}
use Rattle.interp_steps.specs.Stacks.{stack_of}
use Rattle.interp_steps.specs.Worlds.{world_of}
use Rattle.interp_turns.specs.Places.{here_of, Stands}
use Rattle.interp_calls.specs.Calls.{InUnit}
use Rattle.interp_calls.specs.Entries.{entry_by}
use Rattle.interp_calls.specs.Sending.{Sends}
use Rattle.interp_calls.proofs.calls.+runs.Given as goal

-- A call goes one less deep, and a run stands above all that it is made of.
abbrev pub decreases-call : goal.decreases-call
decreases-call g l = 10 * l.depth + 1

abbrev pub decreases-run : goal.decreases-run
decreases-run g l = 10 * l.caller.depth + 9

abbrev pub decreases-run_entered : goal.decreases-run_entered
decreases-run_entered g l = 10 * l.caller.depth + 8

abbrev pub decreases-run_turns : goal.decreases-run_turns
decreases-run_turns g l = 10 * l.caller.depth + 7

abbrev pub decreases-take_turn : goal.decreases-take_turn
decreases-take_turn g l = 10 * l.caller.depth + 6

abbrev pub decreases-perform : goal.decreases-perform
decreases-perform g l = 10 * l.caller.depth + 5

abbrev pub decreases-dimension : goal.decreases-dimension
decreases-dimension g l = 10 * l.caller.depth + 6

abbrev pub decreases-dimension_one : goal.decreases-dimension_one
decreases-dimension_one g l = 10 * l.caller.depth + 5

abbrev pub decreases-run_steps : goal.decreases-run_steps
decreases-run_steps g l = 10 * l.caller.depth + 4

abbrev pub decreases-take_step : goal.decreases-take_step
decreases-take_step g l = 10 * l.caller.depth + 3

abbrev pub decreases-call_at : goal.decreases-call_at
decreases-call_at g l = 10 * l.caller.depth + 2

-- the bounds of the arrays still to come make of this activation what all make of the first
abbrev pub invariant-dimension-loop-array : goal.invariant-dimension-loop-array
invariant-dimension-loop-array g l = record {
  run : InUnit l.caller (λ u h. Sends (Ok (tt {0})) (λ _. play h (entry_by (frame_of l.frame) (map dummy_of (drop l.array-index l.array-items)))) (world_of l.initial.state) (world_of l.state) (g.O.Sink.written l.initial.out) (g.O.Sink.written l.out)
      (play h (entry_by (frame_of l.initial.frame) (map dummy_of l.array-items))));
  sent : l.state.out.items ≡ [];
  later : g.O.Sink.faults l.initial.out ≤ g.O.Sink.faults l.out;
}

-- as many turns more as steps were left at the beginning, and one
abbrev pub invariant-run_turns-turns : goal.invariant-run_turns-turns
invariant-run_turns-turns g l = record {
  run : InUnit l.caller (λ u h. Sends (Ok (tt {0})) (λ _. turns h (turn u (frame_of l.frame)) (suc l.more) (here_of l.here)) (world_of l.initial.state) (world_of l.state) (g.O.Sink.written l.initial.out) (g.O.Sink.written l.out)
      (run_from h (turn u (frame_of l.frame)) (beginning u)));
  stands : Stands (length l.caller.procedure.now.control.statements.now) l.here;
  sent : l.state.out.items ≡ [];
  later : g.O.Sink.faults l.initial.out ≤ g.O.Sink.faults l.out;
}

abbrev pub decreases-run_turns-turns : goal.decreases-run_turns-turns
decreases-run_turns-turns g l = l.more

-- the steps still to come do with this stack what all do with the first
abbrev pub invariant-run_steps-loop-one : goal.invariant-run_steps-loop-one
invariant-run_steps-loop-one g l = record {
  run : InUnit l.caller (λ u h. Sends (Ok (tt {0})) (λ _. play h (steps (frame_of l.frame) (drop l.one-index l.steps) (stack_of l.stack.items))) (world_of l.initial.state) (world_of l.state) (g.O.Sink.written l.initial.out) (g.O.Sink.written l.out)
      (play h (steps (frame_of l.frame) l.steps (stack_of l.initial.stack.items))));
  sent : l.state.out.items ≡ [];
  later : g.O.Sink.faults l.initial.out ≤ g.O.Sink.faults l.out;
}
