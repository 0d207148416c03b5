use Rattle.std.proofs.Common.{◌≡◌, drop, fold}
use Rattle.f77_values.specs.Tables.{with_name, distinct}
use Rattle.interp_data.specs.Cells.{names_kept}
use Rattle.interp_data.proofs.kept.kept_names.Given as goal

abbrev pub invariant-loop-statement : goal.invariant-loop-statement
invariant-loop-statement l = fold with_name l.found (names_kept (drop l.statement-index l.statement-items)) ≡ distinct (names_kept l.statement-items)
