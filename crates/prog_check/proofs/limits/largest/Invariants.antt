use Rattle.std.proofs.Common.{◌≡◌, ℕ, List, take}
use Rattle.f77_store.specs.Areas as b
use Rattle.prog_check.specs.Limits as limits
use Rattle.prog_check.proofs.limits.largest.Given as goal

abbrev pub invariant-loop-block : goal.invariant-loop-block
invariant-loop-block l = (q : List ℕ) → b.so_far l.sizes q ≡ limits.largest (take l.block-index l.block-items) q
