-- That the equations of reachability make a system, and what a solution tells.
use Rattle.std.specs.Prelude.{◌≡◌, ◌≢◌, ℕ, ◌<◌, ◌↔◌, Bool, true, false, ◌||◌, IsTrue, List, length, nat_eq, slice_index_or, [], refl, ⊤}
use Rattle.std.proofs.Common.{arith, sym, subst, inl, inr}
use Rattle.std.proofs.lemmas.Bool.{eqb-true, eq-eqb, or_cases, true≢false}
use Rattle.rn_lattice.specs.Order.{IsOrderFrom, IsJoin}
use Rattle.fix_solver.specs.Systems.{IsSystem, IsFitting, IsSolution}
use Rattle.fix_solver.specs.Graphs.{IsGraph, sources_of, Leads, here, along}
use Rattle.fix_solver.specs.Gathering.{gather_at, IsGathered}
use Rattle.fix_solver.specs.GatheringLaws.{gather_laws, gathered_at, led_above}
use Rattle.fix_solver.specs.Reachability.{flag_leq, IsTold, rises_left}

reflexive : (x : Bool) → IsTrue (flag_leq x x)
reflexive true = refl
reflexive false = refl

transitive : (x y z : Bool) → IsTrue (flag_leq x y) → IsTrue (flag_leq y z) → IsTrue (flag_leq x z)
transitive false y z xy yz = refl
transitive true true z xy yz = yz
transitive true false z xy yz = absurd (true≢false (sym xy))

antisymmetric : (x y : Bool) → IsTrue (flag_leq x y) → IsTrue (flag_leq y x) → x ≡ y
antisymmetric true true xy yx = refl
antisymmetric true false xy yx = absurd (true≢false (sym xy))
antisymmetric false true xy yx = absurd (true≢false (sym yx))
antisymmetric false false xy yx = refl

pub flag_order : IsOrderFrom (λ _. ⊤) flag_leq false
flag_order = record {
  reflexive = λ x _. reflexive x;
  transitive = λ x y z _ _ _. transitive x y z;
  antisymmetric = λ x y _ _. antisymmetric x y;
  bottom_value = tt;
  bottom_least = λ x _. refl;
}

above_second : (x y : Bool) → IsTrue (flag_leq y (x || y))
above_second true true = refl
above_second true false = refl
above_second false y = reflexive y

pub flag_join : (x y : Bool) → IsJoin (λ _. ⊤) flag_leq x y (x || y)
flag_join true y = record { value = tt; above_first = refl; above_second = above_second true y; least = λ w _ xw _. xw }
flag_join false y = record { value = tt; above_first = refl; above_second = above_second false y; least = λ w _ _ yw. yw }

falls : (x y : Bool) → IsTrue (flag_leq x y) → x ≢ y → rises_left y < rises_left x
falls true true below differs = absurd (differs refl)
falls true false below differs = absurd (true≢false (sym below))
falls false true below differs = omega arith
falls false false below differs = absurd (differs refl)

module _ (graph : List (List ℕ × List ℕ)) (start : ℕ) (inside : IsGraph graph) where
  pub reach_laws : IsSystem (λ (_ : Bool). ⊤) flag_leq false (length graph) (sources_of graph) (IsTold (sources_of graph) start) (λ _. rises_left) (gather_at (λ x y. x || y) (λ n. nat_eq n start) (sources_of graph))
  reach_laws =
      gather_laws flag_order (λ _. ⊤) (λ _ _. tt) (λ x y. x || y) (λ x y _ _. flag_join x y) (λ _ _ _ _. tt) (length graph) (sources_of graph) (λ n. inside n ([], [])) (λ n. nat_eq n start) (λ n. tt) (IsTold (sources_of graph) start) (λ _ _ _ _. tt) (λ _. rises_left)
      (λ n below on. absurd (true≢false (sym on)))
      (λ n below on. subst (Leads (sources_of graph) start) (sym (eqb-true n start on)) here)
      (λ n x y _ _ tx ty on. elim (or_cases x y on) [ inl h ↦ tx h | inr h ↦ ty h ])
      (λ n m v below inner told on. along m n inner (told on))
      (λ n x y below _ _ _ _. falls x y)

  pub reach_evaluates : (n : ℕ) (flags : List Bool) → n < length graph → IsFitting (λ (_ : Bool). ⊤) (IsTold (sources_of graph) start) (length graph) flags → (mine : Bool) (places : List ℕ) (all : Bool) → mine ≡ nat_eq n start → places ≡ sources_of graph n
      → IsGathered (λ _. ⊤) flag_leq mine places (λ m. slice_index_or flags m mine) all → all ≡ gather_at (λ x y. x || y) (λ n. nat_eq n start) (sources_of graph) n flags
  reach_evaluates =
      gathered_at flag_order (λ _. ⊤) (λ _ _. tt) (λ x y. x || y) (λ x y _ _. flag_join x y) (λ _ _ _ _. tt) (length graph) (sources_of graph) (λ n. inside n ([], [])) (λ n. nat_eq n start) (λ n. tt) (IsTold (sources_of graph) start) (λ _ _ _ _. tt)

  pub told_exactly : (flags : List Bool) → IsSolution (λ (_ : Bool). ⊤) (IsTold (sources_of graph) start) (length graph) (gather_at (λ x y. x || y) (λ n. nat_eq n start) (sources_of graph)) flags
      → (n : ℕ) (d : Bool) → n < length graph → IsTrue (slice_index_or flags n d) ↔ Leads (sources_of graph) start n
  told_exactly flags s n d below = (
    s.fitting.fit n d below,
    λ leads. subst (λ b. IsTrue (flag_leq b (slice_index_or flags n d))) (eq-eqb start start refl)
        (led_above flag_order (λ _. ⊤) (λ _ _. tt) (λ x y. x || y) (λ x y _ _. flag_join x y) (λ _ _ _ _. tt) (length graph) (sources_of graph) (λ k. inside k ([], [])) (λ k. nat_eq k start) (λ _. tt) (IsTold (sources_of graph) start) (λ _ _ _ _. tt) flags s start n leads below d),
  )
