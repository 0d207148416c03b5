use Rattle.std.proofs.Common.{◌≡◌, drop, fold, map}
use Rattle.f77_values.specs.Tables.{with_name, distinct}
use Rattle.prog_check.proofs.limits.block_names.Given as goal

abbrev pub invariant-loop-block : goal.invariant-loop-block
invariant-loop-block l = fold with_name l.names (map (λ m. m.0) (drop l.block-index l.block-items)) ≡ distinct (map (λ m. m.0) l.block-items)
