-- Loops by the statements of their DOs.
use Rattle.std.proofs.Common.{◌≡◌, ℕ, zero, suc, ◌<◌, List, length, set, get_or, true, false, cond, nat_eq, pos, refl, sym, ap, subst, ◌∙◌, ⊎_elim, arith, get_or-set_same, get_or-set_other, replicate}
use Rattle.std.proofs.lemmas.Bool.{cases_eq}
use Rattle.std.proofs.lemmas.Bool.Decides.{nat_tests}
use Rattle.f77_flow.specs.Graph.{At}
use Rattle.f77_semantics.specs.Program.{Routine}
use Rattle.f77_semantics.specs.Statements as running
use Rattle.f77_semantics.specs.Statements.{set_loop, to, tested}
use Rattle.interp_turns.specs.declared.here.Loop.{Loop}
use Rattle.interp_turns.specs.Places.{loop_of, loop_at}

none_begun : (n k : ℕ) (l : Loop) → get_or (replicate n l) k l ≡ l
none_begun zero k l = refl
none_begun (suc n) zero l = refl
none_begun (suc n) (suc k) l = none_begun n k l

abbrev fresh : Loop
fresh = record { count = 0; step = pos 1 }

pub all_fresh : (loops : List Loop) (n : ℕ) → loops ≡ replicate n fresh → loop_at loops ≡ (λ k. record { count = 0; step = pos 1 })
all_fresh loops n e = λ i k. loop_of ((ap (λ ls. get_or ls k fresh) e ∙ none_begun n k fresh) i)

same : (k j : ℕ) → k ≡ j → nat_eq k j ≡ true
same k j e = grind (arith, nat_tests)

apart : (k j : ℕ) → (k ≡ j → ⊥) → nat_eq k j ≡ false
apart k j n = grind (arith, nat_tests)

at_set : (loops : List Loop) (k : ℕ) (l : Loop) → k < length loops → (j : ℕ) → loop_at (set loops k l) j ≡ set_loop k (loop_of l) (loop_at loops) j
at_set loops k l h j = ⊎_elim
    (λ (e : k ≡ j). subst (λ i. loop_at (set loops k l) i ≡ cond (nat_eq k i) (loop_of l) (loop_at loops i)) e (ap loop_of (get_or-set_same loops k l fresh h) ∙ ap (λ b. cond b (loop_of l) (loop_at loops k)) (sym (same k k refl))))
    (λ (n : k ≡ j → ⊥). ap loop_of (get_or-set_other loops k j l fresh (λ e. n (sym e))) ∙ ap (λ b. cond b (loop_of l) (loop_at loops j)) (sym (apart k j n)))
    (cases_eq k j)

pub set_is : (loops : List Loop) (k : ℕ) (l : Loop) → k < length loops → loop_at (set loops k l) ≡ set_loop k (loop_of l) (loop_at loops)
set_is loops k l h = λ i j. at_set loops k l h j i

runs : {A : Type 0} → (n : ℕ) (x y : A) → 0 < n → elim n [ zero ↦ x | suc m ↦ y ] ≡ y
runs zero x y h = absurd (omega arith)
runs (suc n) x y h = refl

module _ (u : Routine) (k : ℕ) (s : running.Here) where
  pub tested_leaves : (s.loops k).count ≡ 0 → tested u k s ≡ to (u.leaving k) s
  tested_leaves e = ap (λ (n : ℕ). elim n [ zero ↦ to (u.leaving k) s | suc m ↦ to (At (u.below k)) s ]) e

  pub tested_runs : 0 < (s.loops k).count → tested u k s ≡ to (At (u.below k)) s
  tested_runs h = runs (s.loops k).count (to (u.leaving k) s) (to (At (u.below k)) s) h
