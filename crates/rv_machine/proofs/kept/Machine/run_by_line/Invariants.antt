use Rattle.std.proofs.Common.{◌≡◌, ◌≤◌}
use Rattle.std.specs.Io.KnownBytes.{Appends}
use Rattle.rv_machine.specs.Machine.{run, output}
use Rattle.rv_machine.specs.Lines.{within_line}
use Rattle.rv_machine.specs.Kept.{state_of}
use Rattle.rv_machine.proofs.kept.Machine.run_by_line.Given as goal

abbrev pub invariant-loop-step : goal.invariant-loop-step
invariant-loop-step g l = record {
  stands : state_of l.self ≡ run l._step (state_of l.initial.self);
  writes : Appends (g.O.Sink.written l.initial.out) (g.O.Sink.written l.out) (output l._step (state_of l.initial.self));
  line : l.within ≡ within_line l.initial.within (output l._step (state_of l.initial.self));
  later : g.O.Sink.faults l.initial.out ≤ g.O.Sink.faults l.out;
}
