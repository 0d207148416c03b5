use Rattle.std.proofs.Common.{ℕ, List, drop}
use Rattle.thin_code.specs.Code.{Emits, body_code}
use Rattle.thin_code.specs.Seen.{frame_in}
use Rattle.thin_code.proofs.statements.push_body.Given as goal

-- what is still to come makes of the code so far what is wanted
abbrev pub invariant-loop-statement : goal.invariant-loop-statement
invariant-loop-statement l = (end : List ℕ) → Emits l.code.items end (λ p. body_code (frame_in l.area) p (drop l.statement-index l.body)) → Emits l.initial.code.items end (λ p. body_code (frame_in l.area) p l.body)
