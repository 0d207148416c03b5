use Rattle.std.proofs.Common.{◌≡◌, true, take}
use Rattle.std.specs.List.{list_all}
use Rattle.f77_tree.specs.Names.{is_word}
use Rattle.f77_expr.proofs.fronts.word_run.Given as goal

abbrev pub invariant-byte : goal.invariant-byte
invariant-byte l = list_all is_word (take l.i l.text) ≡ true
