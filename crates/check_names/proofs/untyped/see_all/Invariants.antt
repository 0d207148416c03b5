use Rattle.std.proofs.Common.{◌≡◌, drop, fold}
use Rattle.f77_values.specs.Tables.{with_name}
use Rattle.check_names.specs.Untyped.{names_in}
use Rattle.check_names.proofs.untyped.see_all.Given as goal

abbrev pub invariant-loop-occurrence : goal.invariant-loop-occurrence
invariant-loop-occurrence l = fold with_name l.seen (names_in (drop l.occurrence-index l.occurrence-items)) ≡ fold with_name l.initial.seen (names_in l.occurrence-items)
