use Rattle.std.proofs.Common.{ℕ, List, drop}
use Rattle.thin_code.specs.Code.{Emits, items_code}
use Rattle.thin_code.specs.Seen.{frame_in}
use Rattle.thin_code.proofs.statements.push_items.Given as goal

-- what is still to come makes of the code so far what is wanted
abbrev pub invariant-loop-item : goal.invariant-loop-item
invariant-loop-item l = (end : List ℕ) → Emits l.code.items end (λ p. items_code (frame_in l.area) p (drop l.item-index l.items)) → Emits l.initial.code.items end (λ p. items_code (frame_in l.area) p l.items)
