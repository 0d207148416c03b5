-- The flags of a pass tell where its condition holds.
use Rattle.std.proofs.Common.{◌≡◌, ℕ, zero, suc, Bool, true, false, List, [], ◌∷◌, Some, take, fold, slice_get, refl, sym, ◌∙◌, ap, subst}
use Rattle.std.proofs.lemmas.Bool.{false≢true}
use Rattle.std.specs.Bool.{MatchBool}
use Rattle.f77_tree.specs.declared.unit.Stmt.{Stmt}
use Rattle.std.specs.declared.option.Option.{Option}
use Rattle.fault_marks.specs.declared.marks.Mark.{Mark}
use Rattle.fault_marks.specs.Earliest.{Earliest}
use Rattle.fault_marks.specs.Places.{ShowsAt, Flagged, Decides}
use Rattle.fault_marks.proofs.Deciding.{decided}
use Rattle.check_constants.specs.Passes.{flags_from, HoldsAt}

same_some : (t s : Stmt) → Some t ≡ Some s → t ≡ s
same_some t s e = cc

module _ {State : Type 0} (next : State → Stmt → State) (holds : State → Stmt → Bool) where
  -- the flag of a statement
  flag_at : (state : State) (statements : List Stmt) (k : ℕ) (s : Stmt) → slice_get statements k ≡ Some s → slice_get (flags_from next holds state statements) k ≡ Some (holds (fold next state (take k statements)) s)
  flag_at state [] k s h = cc
  flag_at state (t ∷ others) zero s h = ap (λ x. Some (holds state x)) (same_some t s h)
  flag_at state (t ∷ others) (suc k) s h = flag_at (next state t) others k s h

  -- a statement at which the condition holds, against the one that stands there
  holds_of : (initial : State) (statements : List Stmt) (k : ℕ) (s : Stmt) → slice_get statements k ≡ Some s → HoldsAt next holds initial statements k → holds (fold next initial (take k statements)) s ≡ true
  holds_of initial statements k s stands at = ap (holds (fold next initial (take k statements))) (same_some s at.statement (sym stands ∙ at.stands)) ∙ at.holds_there

  told : (initial : State) (statements : List Stmt) (k : ℕ) (s : Stmt) → slice_get statements k ≡ Some s → (b : Bool) → holds (fold next initial (take k statements)) s ≡ b → MatchBool b (HoldsAt next holds initial statements k) (HoldsAt next holds initial statements k → ⊥)
  told initial statements k s stands true e = record { statement = s; stands = stands; holds_there = e }
  told initial statements k s stands false e = λ at. absurd (false≢true (sym e ∙ holds_of initial statements k s stands at))

  pub decides : (initial : State) (statements : List Stmt) → Decides statements (HoldsAt next holds initial statements) (flags_from next holds initial statements)
  decides initial statements k s stands =
      (holds (fold next initial (take k statements)) s, flag_at initial statements k s stands, told initial statements k s stands (holds (fold next initial (take k statements)) s) refl)

  -- the first flagged statement is the first at which the condition holds
  pub first_holding : (initial : State) (statements gone_through : List Stmt) (flags : List Bool) (number : ℕ) (a : Option Mark)
      → gone_through ≡ statements → flags ≡ flags_from next holds initial statements → Earliest (Flagged gone_through flags number 0) a → Earliest (ShowsAt statements (HoldsAt next holds initial statements) number 0) a
  first_holding initial statements gone_through flags number a same are h =
      decided statements (HoldsAt next holds initial statements) (flags_from next holds initial statements) number 0 a (decides initial statements)
      (subst (λ all. Earliest (Flagged all (flags_from next holds initial statements) number 0) a) same
      (subst (λ set. Earliest (Flagged gone_through set number 0) a) are h))
