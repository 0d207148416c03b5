use Rattle.std.proofs.Common.{ℕ, List, drop, flat_map}
use Rattle.rv_code.specs.Pieces.{byte_code}
use Rattle.thin_code.specs.Code.{Emits}
use Rattle.thin_code.proofs.statements.push_bytes.Given as goal

-- what is still to come makes of the code so far what is wanted
abbrev pub invariant-loop-byte : goal.invariant-loop-byte
invariant-loop-byte l = (end : List ℕ) → Emits l.code.items end (λ p. flat_map byte_code (drop l.byte-index l.bytes)) → Emits l.initial.code.items end (λ p. flat_map byte_code l.bytes)
