-- A value is joined with others one after another.
use Rattle.std.specs.Prelude.{ℕ, Bool, IsTrue, List, [], ◌∷◌, ◌++◌, All, Result, Ok, Err, IfOk, OnOk}
use Rattle.std.proofs.lemmas.List.Elements.{All-nil, All-push, All-contains, Contains-push, Contains-get_or, Contains-append_left}
use Rattle.rn_lattice.specs.Order.{IsOrderFrom, IsJoin}
use Rattle.fix_solver.specs.Gathering.{IsGathered}

module _ {V : Type 0} {is_value : V → Type 0} {leq : V → V → Bool} {bottom : V} (o : IsOrderFrom is_value leq bottom) (own : V) (value : is_value own) (at : ℕ → V) where
  pub gathering_starts : IsGathered is_value leq own [] at own
  gathering_starts = record { value = value; above_own = o.reflexive own value; above = All-nil _; least = λ w _ below _. below }

  pub gathering_more : (places : List ℕ) (m : ℕ) (all more : V) → IsGathered is_value leq own places at all → All (λ k. is_value (at k)) places → IsJoin is_value leq all (at m) more → IsGathered is_value leq own (places ++ m ∷ []) at more
  gathering_more places m all more g values j = record {
    value = j.value;
    above_own = o.transitive _ _ _ value g.value j.value g.above_own j.above_first;
    above = All-push (λ k. IsTrue (leq (at k) more)) places m (λ k d below. o.transitive _ _ _ (values k d below) g.value j.value (g.above k d below) j.above_first) j.above_second;
    least = λ w hw below others. j.least w hw
        (g.least w hw below (λ k d within. All-contains (λ n. IsTrue (leq (at n) w)) (places ++ m ∷ []) _ others (Contains-append_left places (m ∷ []) _ (Contains-get_or places k d within))))
        (All-contains (λ n. IsTrue (leq (at n) w)) (places ++ m ∷ []) m others (Contains-push places m));
  }

-- what follows from two clauses on a result
pub both_if_ok : {T E P : Type 0} (r : Result T E) (Q R : T → Type 0) → (P → (x : T) → Q x → R x) → OnOk r P → IfOk r Q → IfOk r R
both_if_ok (Ok x) Q R f p q = f p x q
both_if_ok (Err e) Q R f p q = tt
