use Rattle.std.proofs.Common.{◌≡◌, ℕ, not, nat_eq, take}
use Rattle.indexmap.specs.IndexSet.{contains}
use Rattle.ir_core.specs.Listings.{never_plain}
use Rattle.ir_core.proofs.checks.plain_dummies.Given as goal

abbrev pub invariant-loop-block : goal.invariant-loop-block
invariant-loop-block l = (k : ℕ) → not (contains nat_eq l.found k) ≡ never_plain (take l.block-index l.blocks) k
