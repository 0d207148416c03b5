use Rattle.std.proofs.Common.{◌≡◌, ◌-◌, ◌++◌, drop, length}
use Rattle.rn_session.specs.Statuses.{hex_digits, trap_text}
use Rattle.rn_session.proofs.running.trap_text.Given as goal

abbrev pub invariant-loop-place : goal.invariant-loop-place
invariant-loop-place l = record {
  digits : trap_text l.fn.pc l.fn.cause ≡ hex_digits (16 - l.place) l.rest ++ drop (16 - l.place) l.text;
  long : length l.text ≡ 18;
}
