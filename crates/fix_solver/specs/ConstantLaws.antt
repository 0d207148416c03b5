-- That the equations of meeting numbers make a system, and what a solution tells.
use Rattle.std.specs.Prelude.{◌≡◌, ◌≢◌, ℕ, ◌<◌, true, false, IsTrue, List, [], Option, Some, None, Contains, length, nat_eq, slice_get, slice_index_or, if◌then◌else◌, refl, ⊤}
use Rattle.std.proofs.Common.{arith, sym, subst, ap, ◌∙◌}
use Rattle.std.proofs.lemmas.Bool.{eqb-true, eq-eqb, true≢false}
use Rattle.std.proofs.lemmas.Cmp.{nat_eq_equiv}
use Rattle.rn_lattice.specs.Order.{IsOrderFrom, IsJoin}
use Rattle.rn_lattice.specs.Flats.{flat_leq, flat_order, flat_greatest}
use Rattle.rn_lattice.specs.Duals.{dual_leq, dual_of, dual_order}
use Rattle.rn_lattice.specs.declared.dual.Dual.{Dual}
use Rattle.rn_lattice.specs.declared.flat.Flat.{Flat}
use Rattle.rn_lattice.specs.declared.flat.Flat.TheVariants.{Bottom, Is, Top}
use Rattle.fix_solver.specs.Systems.{IsSystem, IsFitting, IsSolution}
use Rattle.fix_solver.specs.Graphs.{IsGraph, sources_of, here, along}
use Rattle.fix_solver.specs.Gathering.{gather_at, IsGathered}
use Rattle.fix_solver.specs.GatheringLaws.{gather_laws, gathered_at, led_above}
use Rattle.fix_solver.specs.Constants.{number_of, given_at, Comes, IsTold, IsMeeting, flat_meet, meet, falls_left}

number_order : IsOrderFrom (λ (_ : Dual (Flat ℕ)). ⊤) (dual_leq (flat_leq nat_eq)) (dual_of Top)
number_order = dual_order (flat_order nat_eq_equiv eqb-true) (flat_greatest nat_eq_equiv eqb-true)

meet_first : (x y : Flat ℕ) → IsTrue (flat_leq nat_eq (flat_meet x y) x)
meet_first Top Top = refl
meet_first Top Bottom = refl
meet_first Top (Is w) = refl
meet_first Bottom y = refl
meet_first (Is v) Top = eq-eqb v v refl
meet_first (Is v) Bottom = refl
meet_first (Is v) (Is w) = elim (nat_eq v w) as (λ b. IsTrue (flat_leq nat_eq (if b then Is v else Bottom) (Is v))) [ true ↦ eq-eqb v v refl | false ↦ refl ]

meet_second : (x y : Flat ℕ) → IsTrue (flat_leq nat_eq (flat_meet x y) y)
meet_second Top y = (flat_order nat_eq_equiv eqb-true).reflexive y tt
meet_second Bottom y = refl
meet_second (Is v) Top = refl
meet_second (Is v) Bottom = refl
meet_second (Is v) (Is w) = elim (nat_eq v w) as (λ b. nat_eq v w ≡ b → IsTrue (flat_leq nat_eq (if b then Is v else Bottom) (Is w))) [ true ↦ λ same. same | false ↦ λ _. refl ] refl

meet_greatest : (x y w : Flat ℕ) → IsTrue (flat_leq nat_eq w x) → IsTrue (flat_leq nat_eq w y) → IsTrue (flat_leq nat_eq w (flat_meet x y))
meet_greatest x y Bottom wx wy = refl
meet_greatest Top y w wx wy = wy
meet_greatest Bottom y w wx wy = wx
meet_greatest (Is v) Top w wx wy = wx
meet_greatest (Is v) Bottom w wx wy = wy
meet_greatest (Is v) (Is u) Top wx wy = absurd (true≢false (sym wx))
meet_greatest (Is v) (Is u) (Is w) wx wy =
    let same : nat_eq v u ≡ true = eq-eqb v u (sym (eqb-true w v wx) ∙ eqb-true w u wy) in
    subst (λ b. IsTrue (flat_leq nat_eq (Is w) (if b then Is v else Bottom))) (sym same) wx

meet_joins : (x y : Dual (Flat ℕ)) → IsJoin (λ (_ : Dual (Flat ℕ)). ⊤) (dual_leq (flat_leq nat_eq)) x y (meet x y)
meet_joins x y = record {
  value = tt;
  above_first = meet_first x.inner y.inner;
  above_second = meet_second x.inner y.inner;
  least = λ w _ xw yw. meet_greatest x.inner y.inner w.inner xw yw;
}

falls : (x y : Flat ℕ) → IsTrue (flat_leq nat_eq y x) → x ≢ y → falls_left y < falls_left x
falls Top Top below differs = absurd (differs refl)
falls Top Bottom below differs = omega arith
falls Top (Is w) below differs = omega arith
falls (Is v) Top below differs = absurd (true≢false (sym below))
falls (Is v) Bottom below differs = omega arith
falls (Is v) (Is w) below differs = absurd (differs (ap Is (sym (eqb-true w v below))))
falls Bottom Top below differs = absurd (true≢false (sym below))
falls Bottom Bottom below differs = absurd (differs refl)
falls Bottom (Is w) below differs = absurd (true≢false (sym below))

module _ (sources : ℕ → List ℕ) (given : List (Option ℕ)) where
  told_given : (n : ℕ) (o : Option (Option ℕ)) → slice_get given n ≡ o → IsTold sources given n (number_of o)
  told_given n (Some (Some c)) here_given = (n, here, here_given)
  told_given n (Some None) here_given = tt
  told_given n None here_given = tt

  told_meet : (n : ℕ) (x y : Flat ℕ) → IsTold sources given n x → IsTold sources given n y → IsTold sources given n (flat_meet x y)
  told_meet n Top y tx ty = ty
  told_meet n Bottom y tx ty = tx
  told_meet n (Is v) Top tx ty = tx
  told_meet n (Is v) Bottom tx ty = ty
  told_meet n (Is v) (Is w) tx ty = elim (nat_eq v w) as (λ b. nat_eq v w ≡ b → IsTold sources given n (if b then Is v else Bottom)) [
    | true ↦ λ _. tx
    | false ↦ λ apart. (v, w, tx, ty, λ same. true≢false (sym (eq-eqb v w same) ∙ apart))
  ] refl

  comes_along : (n m c : ℕ) → Contains (sources n) m → Comes sources given m c → Comes sources given n c
  comes_along n m c inner comes = (comes.0, along m n inner comes.1, comes.2)

  told_along : (n m : ℕ) (v : Flat ℕ) → Contains (sources n) m → IsTold sources given m v → IsTold sources given n v
  told_along n m Top inner told = tt
  told_along n m (Is c) inner told = comes_along n m c inner told
  told_along n m Bottom inner told = (told.0, told.1, comes_along n m told.0 inner told.2, comes_along n m told.1 inner told.3, told.4)

module _ (graph : List (List ℕ × List ℕ)) (given : List (Option ℕ)) (inside : IsGraph graph) where
  pub constant_laws : IsSystem (λ (_ : Dual (Flat ℕ)). ⊤) (dual_leq (flat_leq nat_eq)) (dual_of Top) (length graph) (sources_of graph) (λ n v. IsTold (sources_of graph) given n v.inner) (λ _ v. falls_left v.inner) (gather_at meet (given_at given) (sources_of graph))
  constant_laws =
      gather_laws number_order (λ _. ⊤) (λ _ _. tt) meet (λ x y _ _. meet_joins x y) (λ _ _ _ _. tt) (length graph) (sources_of graph) (λ n. inside n ([], [])) (given_at given) (λ n. tt) (λ n v. IsTold (sources_of graph) given n v.inner) (λ _ _ _ _. tt) (λ _ v. falls_left v.inner)
      (λ n below. tt)
      (λ n below. told_given (sources_of graph) given n (slice_get given n) refl)
      (λ n x y _ _ tx ty. told_meet (sources_of graph) given n x.inner y.inner tx ty)
      (λ n m v below inner told. told_along (sources_of graph) given n m v.inner inner told)
      (λ n x y below _ _ _ _ under differs. falls x.inner y.inner under (λ same. differs (ap dual_of same)))

  pub constant_evaluates : (n : ℕ) (values : List (Dual (Flat ℕ))) → n < length graph → IsFitting (λ (_ : Dual (Flat ℕ)). ⊤) (λ n v. IsTold (sources_of graph) given n v.inner) (length graph) values → (mine : Dual (Flat ℕ)) (places : List ℕ) (all : Dual (Flat ℕ)) → mine ≡ given_at given n → places ≡ sources_of graph n
      → IsGathered (λ _. ⊤) (dual_leq (flat_leq nat_eq)) mine places (λ m. slice_index_or values m mine) all → all ≡ gather_at meet (given_at given) (sources_of graph) n values
  constant_evaluates =
      gathered_at number_order (λ _. ⊤) (λ _ _. tt) meet (λ x y _ _. meet_joins x y) (λ _ _ _ _. tt) (length graph) (sources_of graph) (λ n. inside n ([], [])) (given_at given) (λ n. tt) (λ n v. IsTold (sources_of graph) given n v.inner) (λ _ _ _ _. tt)

  pub meeting : (values : List (Dual (Flat ℕ))) → IsSolution (λ (_ : Dual (Flat ℕ)). ⊤) (λ n v. IsTold (sources_of graph) given n v.inner) (length graph) (gather_at meet (given_at given) (sources_of graph)) values
      → (n : ℕ) (d : Dual (Flat ℕ)) → n < length graph → IsMeeting (sources_of graph) given n (slice_index_or values n d).inner
  meeting values s n d below = record {
    told = s.fitting.fit n d below;
    below = λ c comes. subst (λ o. IsTrue (flat_leq nat_eq (slice_index_or values n d).inner (number_of o))) comes.2
        (led_above number_order (λ _. ⊤) (λ _ _. tt) meet (λ x y _ _. meet_joins x y) (λ _ _ _ _. tt) (length graph) (sources_of graph) (λ n. inside n ([], [])) (given_at given) (λ n. tt) (λ n v. IsTold (sources_of graph) given n v.inner) (λ _ _ _ _. tt) values s comes.0 n comes.1 below d);
  }
