use Rattle.std.proofs.Common.{◌≡◌, ◌^◌, ◌<◌, drop}
use Rattle.rn_session.specs.Words.{number_of}
use Rattle.rn_session.proofs.Numbers.{number_from}
use Rattle.rn_session.proofs.words.number.Given as goal

abbrev pub invariant-loop-digit : goal.invariant-loop-digit
invariant-loop-digit l = record {
  rest : number_of l.digits ≡ number_from l.value (drop l.digit-index l.digits);
  small : l.value < 2 ^ 63;
}
