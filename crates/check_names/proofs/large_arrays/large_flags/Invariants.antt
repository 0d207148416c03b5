use Rattle.std.proofs.Common.{◌≡◌, map, take}
use Rattle.std.specs.List.{range_with_len}
use Rattle.f77_values.specs.Constants.{constants}
use Rattle.check_names.specs.LargeArrays.{large_at}
use Rattle.check_names.proofs.large_arrays.large_flags.Given as goal

abbrev pub invariant-loop-statement : goal.invariant-loop-statement
invariant-loop-statement l = record {
  constants : l.constants ≡ constants (take l.statement-index l.statement-items);
  flags : l.flags ≡ map (large_at l.a l.unit) (range_with_len 0 l.statement-index);
}
