use Rattle.std.proofs.Common.{◌≡◌, ℕ, not, ◌&&◌, nat_eq, take}
use Rattle.std.specs.List.{list_all}
use Rattle.indexmap.specs.IndexSet.{contains}
use Rattle.ir_core.specs.Listings.{is_other, plain}
use Rattle.ir_core.proofs.checks.note_all.Given as goal

abbrev pub invariant-loop-instruction : goal.invariant-loop-instruction
invariant-loop-instruction l = (k : ℕ) → not (contains nat_eq l.found k) ≡ (not (contains nat_eq l.initial.found k) && list_all (λ i. is_other (plain i) k) (take l.instruction-index l.code))
