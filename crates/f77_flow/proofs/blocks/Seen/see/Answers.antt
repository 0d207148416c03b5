-- What each part of a block IF changes, at the kind that the statement has.
use Rattle.std.proofs.Common.{◌≡◌, ℕ, ◌⊎◌, sym, subst, ⊎_elim}
use Rattle.f77_flow.specs.declared.kinds.Kind.{Kind}
use Rattle.f77_flow.specs.declared.kinds.Kind.TheVariants.{Do, Plain}
use Rattle.f77_flow.specs.Kinds.{IsOther}
use Rattle.f77_flow.proofs.blocks.Seen.see.Goals as goal

pub returns-in-BlockIf : goal.returns-in-BlockIf
returns-in-BlockIf c = rw c.in-BlockIf.is c.see_block.ensures

pub returns-in-ElseIf : goal.returns-in-ElseIf
returns-in-ElseIf c = rw c.in-ElseIf.is c.see_else_if.ensures

pub returns-in-Else : goal.returns-in-Else
returns-in-Else c = rw c.in-Else.is c.see_else.ensures

pub returns-in-EndIf : goal.returns-in-EndIf
returns-in-EndIf c = rw c.in-EndIf.is c.see_end.ensures

other : (v : Kind) → ((x : ℕ) × (v ≡ Do x)) ⊎ (v ≡ Plain) → IsOther v
other v is = ⊎_elim (λ e. subst IsOther (sym e.1) tt) (λ e. subst IsOther (sym e) tt) is

pub returns-in-Do : goal.returns-in-Do
returns-in-Do c = λ s ss is seen. c.see_other.ensures s ss (subst IsOther (sym is) (other c.args.kind c.in-Do.is)) seen
