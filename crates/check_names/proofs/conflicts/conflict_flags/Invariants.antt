use Rattle.std.proofs.Common.{◌≡◌, [], map, fold, nat_eq}
use Rattle.std.specs.List.{range_with_len}
use Rattle.check_names.specs.Conflicts.{conflicts_at, given_at}
use Rattle.check_names.specs.Places.{before}
use Rattle.check_names.specs.Tables.{noted}
use Rattle.check_names.proofs.conflicts.conflict_flags.Given as goal

-- what the statements so far have given
abbrev pub invariant-loop-statement : goal.invariant-loop-statement
invariant-loop-statement l = record {
  first : l.is_first ≡ nat_eq l.statement-index 0;
  table : l.table ≡ fold noted [] (before (given_at l.a l.unit) l.statement-index);
  flags : l.flags ≡ map (conflicts_at l.a l.unit) (range_with_len 0 l.statement-index);
}
