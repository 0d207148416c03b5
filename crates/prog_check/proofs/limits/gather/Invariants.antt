use Rattle.std.proofs.Common.{◌≡◌, ◌++◌, min, take, drop, sum_by, flat_map}
use Rattle.f77_store.specs.Layouts as y
use Rattle.prog_check.specs.Limits as limits
use Rattle.prog_check.proofs.limits.gather.Given as goal

abbrev pub invariant-loop-unit : goal.invariant-loop-unit
invariant-loop-unit l = record {
  local : l.local ≡ min (sum_by y.local_size (take l.unit-index l.units)) limits.most;
  blocks : l.blocks ++ flat_map y.blocks (drop l.unit-index l.units) ≡ limits.all_blocks l.units;
}
