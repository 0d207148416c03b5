-- That such equations make a system, and what a solution of it is above.
use Rattle.std.specs.Prelude.{◌≡◌, ◌≢◌, ℕ, ◌<◌, Bool, IsTrue, List, [], ◌∷◌, All, Contains, slice_index_or}
use Rattle.std.proofs.Common.{sym, subst}
use Rattle.std.proofs.lemmas.List.Elements.{All-contains, All-head, All-tail, All-nil, All-cons, Contains-get_or}
use Rattle.rn_lattice.specs.Order.{IsOrderFrom, IsJoin}
use Rattle.fix_solver.specs.Systems.{IsSystem, IsFitting, IsSolution}
use Rattle.fix_solver.specs.Graphs.{Leads, here, along}
use Rattle.fix_solver.specs.Gathering.{gather, gather_at, IsGathered}

module _ {V : Type 0} {is_value : V → Type 0} {leq : V → V → Bool} {bottom : V} (o : IsOrderFrom is_value leq bottom) where
  pub same_gathered : (own : V) (places : List ℕ) (at : ℕ → V) (a b : V) → IsGathered is_value leq own places at a → IsGathered is_value leq own places at b → a ≡ b
  same_gathered own places at a b g h = o.antisymmetric a b g.value h.value (g.least b h.value h.above_own h.above) (h.least a g.value g.above_own g.above)

  pub same_join : (x y a b : V) → IsJoin is_value leq x y a → IsJoin is_value leq x y b → a ≡ b
  same_join x y a b g h = o.antisymmetric a b g.value h.value (g.least b h.value h.above_first h.above_second) (h.least a g.value g.above_first g.above_second)

  -- values of the type in which joins are known
  module _ (good : V → Type 0) (value_of : (x : V) → good x → is_value x) (join : V → V → V) (joins : (x y : V) → good x → good y → IsJoin is_value leq x y (join x y)) (stays_good : (x y : V) → good x → good y → good (join x y)) where
    pub gathers : (at : ℕ → V) (places : List ℕ) (own : V) → good own → All (λ m. good (at m)) places → IsGathered is_value leq own places at (gather join own places at)
    gathers at [] own g all = record { value = value_of own g; above_own = o.reflexive own (value_of own g); above = All-nil _; least = λ w _ below _. below }
    gathers at (m ∷ ms) own g all =
        let here = All-head (λ k. good (at k)) m ms all in
        let j = joins own (at m) g here in
        let rest = gathers at ms (join own (at m)) (stays_good own (at m) g here) (All-tail (λ k. good (at k)) m ms all) in
        record {
          value = rest.value;
          above_own = o.transitive _ _ _ (value_of own g) j.value rest.value j.above_first rest.above_own;
          above = All-cons (λ k. IsTrue (leq (at k) (gather join (join own (at m)) ms at))) m ms (o.transitive _ _ _ (value_of (at m) here) j.value rest.value j.above_second rest.above_own) rest.above;
          least = λ w hw below others. rest.least w hw (j.least w hw below (All-head (λ k. IsTrue (leq (at k) w)) m ms others)) (All-tail (λ k. IsTrue (leq (at k) w)) m ms others);
        }

    gather_keeps : (P : V → Type 0) → ((x y : V) → good x → good y → P x → P y → P (join x y)) → (at : ℕ → V) (places : List ℕ) (own : V) → good own → All (λ m. good (at m)) places → P own → All (λ m. P (at m)) places → P (gather join own places at)
    gather_keeps P keeps at [] own g all p ps = p
    gather_keeps P keeps at (m ∷ ms) own g all p ps =
        let here = All-head (λ k. good (at k)) m ms all in
        gather_keeps P keeps at ms (join own (at m)) (stays_good own (at m) g here) (All-tail (λ k. good (at k)) m ms all) (keeps own (at m) g here p (All-head (λ k. P (at k)) m ms ps)) (All-tail (λ k. P (at k)) m ms ps)

    module _ (count : ℕ) (sources : ℕ → List ℕ) (inside : (n : ℕ) → n < count → All (λ m. m < count) (sources n)) (own : ℕ → V) (own_good : (n : ℕ) → good (own n))
        (fits : ℕ → V → Type 0) (fits_good : (n : ℕ) (v : V) → is_value v → fits n v → good v) where
      pub read_good : (n : ℕ) (values : List V) → n < count → IsFitting is_value fits count values → All (λ m. good (slice_index_or values m (own n))) (sources n)
      read_good n values below fitting = λ k d within. fits_good _ _ (fitting.value _ (own n) (inside n below k d within)) (fitting.fit _ (own n) (inside n below k d within))

      gathered : (n : ℕ) (values : List V) → n < count → IsFitting is_value fits count values → IsGathered is_value leq (own n) (sources n) (λ m. slice_index_or values m (own n)) (gather_at join own sources n values)
      gathered n values below fitting = gathers (λ m. slice_index_or values m (own n)) (sources n) (own n) (own_good n) (read_good n values below fitting)

      -- the least upper bound is what the equation gives
      pub gathered_at : (n : ℕ) (values : List V) → n < count → IsFitting is_value fits count values → (mine : V) (places : List ℕ) (all : V) → mine ≡ own n → places ≡ sources n
          → IsGathered is_value leq mine places (λ m. slice_index_or values m mine) all → all ≡ gather_at join own sources n values
      gathered_at n values below fitting mine places all same_own same_places g =
          same_gathered (own n) (sources n) (λ m. slice_index_or values m (own n)) all _
          (subst (λ ps. IsGathered is_value leq (own n) ps (λ m. slice_index_or values m (own n)) all) same_places
          (subst (λ v. IsGathered is_value leq v places (λ m. slice_index_or values m v) all) same_own g))
          (gathered n values below fitting)

      -- what fits the nodes and goes along edges makes a system
      pub gather_laws : (rank : ℕ → V → ℕ)
          → ((n : ℕ) → n < count → fits n bottom)
          → ((n : ℕ) → n < count → fits n (own n))
          → ((n : ℕ) (x y : V) → good x → good y → fits n x → fits n y → fits n (join x y))
          → ((n m : ℕ) (v : V) → n < count → Contains (sources n) m → fits m v → fits n v)
          → ((n : ℕ) (x y : V) → n < count → is_value x → is_value y → fits n x → fits n y → IsTrue (leq x y) → x ≢ y → rank n y < rank n x)
          → IsSystem is_value leq bottom count sources fits rank (gather_at join own sources)
      gather_laws rank bottom_fits own_fits keeps carried falls = record {
        sources_below = inside;
        bottom_fits = bottom_fits;
        evaluate_value = λ n values below fitting. (gathered n values below fitting).value;
        evaluate_fits = λ n values below fitting. gather_keeps (fits n) (keeps n) (λ m. slice_index_or values m (own n)) (sources n) (own n) (own_good n) (read_good n values below fitting) (own_fits n below)
            (λ k d within. carried n (slice_index_or (sources n) k d) _ below (Contains-get_or (sources n) k d within) (fitting.fit _ (own n) (inside n below k d within)));
        join_fits = λ n x y z below hx hy fx fy joined.
            let gx = fits_good n x hx fx in
            let gy = fits_good n y hy fy in
            subst (fits n) (same_join x y (join x y) z (joins x y gx gy) joined) (keeps n x y gx gy fx fy);
        rank_falls = falls;
        monotone = λ n low high below fits_low fits_high at.
            let l = gathered n low below fits_low in
            let h = gathered n high below fits_high in
            l.least _ h.value h.above_own (λ k d within.
            o.transitive _ _ _ (fits_low.value _ (own n) (inside n below k d within)) (fits_high.value _ (own n) (inside n below k d within)) h.value (at k d within (own n)) (h.above k d within));
      }

      -- a solution is above what the nodes have that lead to a node
      pub led_above : (values : List V) → IsSolution is_value fits count (gather_at join own sources) values → (m n : ℕ) → Leads sources m n → n < count → (d : V) → IsTrue (leq (own m) (slice_index_or values n d))
      led_above values s m _ here below d = subst (λ v. IsTrue (leq (own m) v)) (sym (s.solves m d below)) (gathered m values below s.fitting).above_own
      led_above values s m _ (along k n inner leads) below d =
          let under : k < count = All-contains (λ k. k < count) (sources n) k (inside n below) inner in
          let g = gathered n values below s.fitting in
          let higher : IsTrue (leq (slice_index_or values k (own n)) (gather_at join own sources n values)) = All-contains (λ k. IsTrue (leq (slice_index_or values k (own n)) (gather_at join own sources n values))) (sources n) k g.above inner in
          subst (λ v. IsTrue (leq (own m) v)) (sym (s.solves n d below))
          (o.transitive _ _ _ (value_of (own m) (own_good m)) (s.fitting.value k (own n) under) g.value (led_above values s m k leads under (own n)) higher)
