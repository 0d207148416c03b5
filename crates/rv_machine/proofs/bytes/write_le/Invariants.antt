use Rattle.std.proofs.Common.{◌≡◌, ℕ, ◌+◌, ◌-◌, get_or}
use Rattle.rv_machine.specs.Memory.{write}
use Rattle.rv_machine.proofs.bytes.write_le.Given as goal

abbrev pub invariant-loop-k : goal.invariant-loop-k
invariant-loop-k l = (x : ℕ) → write (l.count - l.k) (l.at + l.k) l.rest (λ y. get_or l.bytes y 0) x ≡ write l.count l.at l.value (λ y. get_or l.initial.bytes y 0) x
