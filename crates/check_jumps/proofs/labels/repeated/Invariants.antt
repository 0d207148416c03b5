use Rattle.std.proofs.Common.{ℕ}
use Rattle.f77_flow.specs.Checks.{RepeatsLabel}
use Rattle.check_jumps.specs.Telling.{Tells, AreFlags}
use Rattle.check_jumps.specs.Labels.{has, Stands}
use Rattle.check_jumps.proofs.labels.repeated.Given as goal

abbrev pub invariant-loop-k : goal.invariant-loop-k
invariant-loop-k l = record {
  flags : AreFlags (RepeatsLabel l.statements) l.k l.flags;
  seen : (q : ℕ) → Tells (has l.seen q) (Stands l.statements l.k q);
}
