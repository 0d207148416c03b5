use Rattle.std.proofs.Common.{◌≡◌, ◌+◌, min, take, sum_by}
use Rattle.f77_store.specs.Areas as b
use Rattle.prog_check.specs.Limits as limits
use Rattle.prog_check.proofs.limits.add_all.Given as goal

abbrev pub invariant-loop-name : goal.invariant-loop-name
invariant-loop-name l = l.sum ≡ min (l.initial.sum + sum_by (b.so_far l.sizes) (take l.name-index l.name-items)) limits.most
