use Rattle.std.proofs.Common.{◌≡◌, true, take}
use Rattle.std.specs.List.{list_all}
use Rattle.f77_expr.specs.Spelling.{is_digit}
use Rattle.form_kinds.proofs.labels.digit_run.Given as goal

abbrev pub invariant-byte : goal.invariant-byte
invariant-byte l = list_all is_digit (take l.i l.text) ≡ true
