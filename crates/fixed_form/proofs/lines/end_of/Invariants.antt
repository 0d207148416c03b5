use Rattle.std.proofs.Common.{take}
use Rattle.fixed_form.specs.Lines.{NoEnd}
use Rattle.fixed_form.proofs.lines.end_of.Given as goal

abbrev pub invariant-byte : goal.invariant-byte
invariant-byte l = NoEnd (take l.i l.text)
