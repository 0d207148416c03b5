use Rattle.std.proofs.Common.{◌≡◌, Some, drop}
use Rattle.std.specs.Option.{option_map}
use Rattle.f77_values.specs.Tables.{saturated}
use Rattle.check_common.specs.Storage.{offset}
use Rattle.check_common.proofs.offsets.offset.Given as goal

-- what is found is that of the subscripts from the last one down to this one
abbrev pub invariant-loop-k : goal.invariant-loop-k
invariant-loop-k l = Some l.found ≡ option_map saturated (offset l.all l.named (drop l.k l.bounds) (drop l.k l.subscripts))
