use Rattle.std.proofs.Common.{ℕ, List, drop}
use Rattle.thin_code.specs.Code.{Emits, addends_code}
use Rattle.thin_code.specs.Seen.{frame_in}
use Rattle.thin_code.proofs.statements.push_addends.Given as goal

-- what is still to come makes of the code so far what is wanted
abbrev pub invariant-loop-addend : goal.invariant-loop-addend
invariant-loop-addend l = (end : List ℕ) → Emits l.code.items end (λ p. addends_code (frame_in l.area) p (drop l.addend-index l.more)) → Emits l.initial.code.items end (λ p. addends_code (frame_in l.area) p l.more)
