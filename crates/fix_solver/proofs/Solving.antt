-- The loop of the solver: values below the least solution rise until no equation waits.
use Rattle.std.specs.Prelude.{◌≡◌, ◌≢◌, ℕ, ◌+◌, ◌<◌, ◌≤◌, Bool, false, IsTrue, List, [], ◌∷◌, ◌++◌, All, fold, length, map, slice_index_or, refl}
use Rattle.std.specs.List.{range_with_len}
use Rattle.std.proofs.Common.{ap, sym, subst, ◌∙◌, arith, set, length-set, length-append, append_assoc, inl, inr}
use Rattle.std.proofs.lemmas.Bool.{cases_eq, true≢false}
use Rattle.std.proofs.lemmas.Bool.Decides.{nat_tests}
use Rattle.std.proofs.lemmas.List.{get_or-set_same, get_or-set_other, set-get_or}
use Rattle.std.proofs.lemmas.List.Elements.{All-nil, All-push}
use Rattle.std.proofs.lemmas.List.FromFn.{length-range_with_len}
use Rattle.rn_lattice.specs.Order.{IsOrderFrom, IsJoin}
use Rattle.fix_solver.specs.Systems.{IsSystem, IsFitting, IsSolution, IsBelow, IsOrderly, edge_sum}
use Rattle.fix_solver.specs.Noting.{NotesEvaluations}
use Rattle.fix_solver.specs.Worklists.{waits, with_node}
use Rattle.fix_solver.specs.Readers.{weigh, IsReaders}
use Rattle.fix_solver.proofs.Queues.{waits_apart, fold_waits, fold_length, fold_same, fold_in_range, range_waits, range_rest}
use Rattle.fix_solver.proofs.Weights.{weigh_same, weigh_falls}

module _ {V D : Type 0} (is_value : V → Type 0) (leq : V → V → Bool) (bottom : V) (count : ℕ) (sources : ℕ → List ℕ)
    (fits : ℕ → V → Type 0) (rank : ℕ → V → ℕ) (evaluate : ℕ → List V → V) (items : D → List ℕ) (readers : List D) where
  -- how often values may still rise, over all edges
  abbrev pub left_to_rise : List V → ℕ
  left_to_rise values = weigh items (λ m. rank m (slice_index_or values m bottom)) 0 readers

  -- the values so far, the nodes that wait, and those that were evaluated
  pub record Solving (values : List V) (waiting order : List ℕ) : Type 0 where
    pub fitting : IsFitting is_value fits count values
    pub settled : (n : ℕ) (d : V) → n < count → waits waiting n ≡ false → IsTrue (leq (evaluate n values) (slice_index_or values n d))
    pub rising : (n : ℕ) (d : V) → n < count → IsTrue (leq (slice_index_or values n d) (evaluate n values))
    pub below : (others : List V) → IsSolution is_value fits count evaluate others → IsBelow leq count values others
    pub spent : length order + length waiting + left_to_rise values ≤ count + weigh items (λ m. rank m bottom) 0 readers
    pub evaluated : All (λ n. n < count) order
    pub orderly : IsOrderly count sources → order ++ waiting ≡ range_with_len 0 count

module _ {V D : Type 0} {is_value : V → Type 0} {leq : V → V → Bool} {bottom : V} {count : ℕ} {sources : ℕ → List ℕ}
    {fits : ℕ → V → Type 0} {rank : ℕ → V → ℕ} {evaluate : ℕ → List V → V} (o : IsOrderFrom is_value leq bottom)
    (s : IsSystem is_value leq bottom count sources fits rank evaluate) (items : D → List ℕ) (readers : List D) (r : IsReaders items sources count count readers) where
  pub solving_starts : (values : List V) → length values ≡ count → All (λ v. v ≡ bottom) values → Solving is_value leq bottom count sources fits rank evaluate items readers values (range_with_len 0 count) []
  solving_starts values whole all =
      let at : (n : ℕ) (d : V) → n < count → bottom ≡ slice_index_or values n d = λ n d below. sym (all n d (omega (arith, whole))) in
      let fitting : IsFitting is_value fits count values = record {
        whole = whole;
        value = λ n d below. subst is_value (at n d below) o.bottom_value;
        fit = λ n d below. subst (fits n) (at n d below) (s.bottom_fits n below);
      } in
      record {
        fitting = fitting;
        settled = λ n d below out. absurd (true≢false (sym (range_waits 0 count n (omega arith) (omega arith)) ∙ out));
        rising = λ n d below. subst (λ v. IsTrue (leq v (evaluate n values))) (at n d below) (o.bottom_least _ (s.evaluate_value n values below fitting));
        below = λ others solution n d below. subst (λ v. IsTrue (leq v (slice_index_or others n d))) (at n d below) (o.bottom_least _ (solution.fitting.value n d below));
        spent =
            let same = weigh_same items (λ m. rank m (slice_index_or values m bottom)) (λ m. rank m bottom) 0 readers (λ m below. ap (rank m) (sym (at m bottom (omega (arith, r.whole))))) in
            omega (arith, length-range_with_len 0 count, same);
        evaluated = All-nil _;
        orderly = λ _. refl;
      }

  -- with no node left to wait, the values are the least solution
  pub solving_ends : (values : List V) (order : List ℕ) → Solving is_value leq bottom count sources fits rank evaluate items readers values [] order → IsSolution is_value fits count evaluate values
  solving_ends values order j = record {
    fitting = j.fitting;
    solves = λ n d below. o.antisymmetric _ _ (j.fitting.value n d below) (s.evaluate_value n values below j.fitting) (j.rising n d below) (j.settled n d below refl);
  }

  module _ (values : List V) (rest order : List ℕ) (x : ℕ) (j : Solving is_value leq bottom count sources fits rank evaluate items readers values (x ∷ rest) order)
      (within : x < count) (old new : V) (old_is : (d : V) → slice_index_or values x d ≡ old) (joined : IsJoin is_value leq old (evaluate x values) new) where
    value : V
    value = evaluate x values

    is_value_now : is_value (evaluate x values)
    is_value_now = s.evaluate_value x values within j.fitting

    fits_now : fits x (evaluate x values)
    fits_now = s.evaluate_fits x values within j.fitting

    is_value_old : is_value old
    is_value_old = subst is_value (old_is bottom) (j.fitting.value x bottom within)

    old_below : IsTrue (leq old (evaluate x values))
    old_below = subst (λ v. IsTrue (leq v (evaluate x values))) (old_is bottom) (j.rising x bottom within)

    -- the join is what the equation gave
    new_is : new ≡ evaluate x values
    new_is = o.antisymmetric _ _ joined.value is_value_now (joined.least _ is_value_now old_below (o.reflexive _ is_value_now)) joined.above_second

    at_node : (d : V) → evaluate x values ≡ slice_index_or (set values x (evaluate x values)) x d
    at_node d = sym (get_or-set_same values x (evaluate x values) d (omega (arith, j.fitting.whole)))

    elsewhere : (n : ℕ) (d : V) → n ≢ x → slice_index_or values n d ≡ slice_index_or (set values x (evaluate x values)) n d
    elsewhere n d apart = sym (get_or-set_other values x n (evaluate x values) d apart)

    -- a fact of the new values, at the node and elsewhere
    by_node : (P : ℕ → V → Type 0) (n : ℕ) (d : V) → P x (evaluate x values) → (n ≢ x → P n (slice_index_or values n d)) → P n (slice_index_or (set values x (evaluate x values)) n d)
    by_node P n d here there = elim (cases_eq n x) [
      | inl same ↦ subst (λ m. P m (slice_index_or (set values x (evaluate x values)) m d)) (sym same) (subst (P x) (at_node d) here)
      | inr apart ↦ subst (P n) (elsewhere n d apart) (there apart)
    ]

    fitting : IsFitting is_value fits count (set values x (evaluate x values))
    fitting = record {
      whole = length-set values x (evaluate x values) ∙ j.fitting.whole;
      value = λ n d below. by_node (λ n v. is_value v) n d is_value_now (λ _. j.fitting.value n d below);
      fit = λ n d below. by_node fits n d fits_now (λ _. j.fitting.fit n d below);
    }

    grows : (n : ℕ) (d : V) → n < count → IsTrue (leq (slice_index_or values n d) (slice_index_or (set values x (evaluate x values)) n d))
    grows n d below = elim (cases_eq n x) [
      | inl same ↦ subst (λ m. IsTrue (leq (slice_index_or values m d) (slice_index_or (set values x (evaluate x values)) m d))) (sym same)
          (subst (λ v. IsTrue (leq v (slice_index_or (set values x (evaluate x values)) x d))) (sym (old_is d)) (subst (λ v. IsTrue (leq old v)) (at_node d) old_below))
      | inr apart ↦ subst (λ v. IsTrue (leq (slice_index_or values n d) v)) (elsewhere n d apart) (o.reflexive _ (j.fitting.value n d below))
    ]

    up : (n : ℕ) → n < count → IsTrue (leq (evaluate n values) (evaluate n (set values x (evaluate x values))))
    up n below = s.monotone n values _ below j.fitting fitting (λ k e inside d. grows _ d (s.sources_below n below k e inside))

    down : (n : ℕ) → n < count → waits (sources n) x ≡ false → IsTrue (leq (evaluate n (set values x (evaluate x values))) (evaluate n values))
    down n below out = s.monotone n _ values below fitting j.fitting (λ k e inside d.
        let m = slice_index_or (sources n) k e in
        subst (λ v. IsTrue (leq v (slice_index_or values m d))) (elsewhere m d (waits_apart (sources n) x k e out inside)) (o.reflexive _ (j.fitting.value m d (s.sources_below n below k e inside))))

    rising : (n : ℕ) (d : V) → n < count → IsTrue (leq (slice_index_or (set values x (evaluate x values)) n d) (evaluate n (set values x (evaluate x values))))
    rising n d below = by_node (λ n v. IsTrue (leq v (evaluate n (set values x (evaluate x values))))) n d (up x within) (λ _.
        o.transitive _ _ _ (j.fitting.value n d below) (s.evaluate_value n values below j.fitting) (s.evaluate_value n _ below fitting) (j.rising n d below) (up n below))

    under : (others : List V) → IsSolution is_value fits count evaluate others → IsBelow leq count (set values x (evaluate x values)) others
    under others solution n d below = by_node (λ n v. IsTrue (leq v (slice_index_or others n d))) n d
        (subst (λ v. IsTrue (leq (evaluate x values) v)) (sym (solution.solves x d within))
        (s.monotone x values others within j.fitting solution.fitting (λ k e inside d'. j.below others solution _ d' (s.sources_below x within k e inside))))
        (λ _. j.below others solution n d below)

    stays : IsTrue (leq new old) → set values x new ≡ values
    stays fell =
        let same : new ≡ old = o.antisymmetric _ _ joined.value is_value_old fell joined.above_first in
        ap (set values x) (same ∙ sym (old_is bottom)) ∙ set-get_or values x bottom

    pub falls_stays : IsTrue (leq new old) → length rest + left_to_rise is_value leq bottom count sources fits rank evaluate items readers (set values x new) < length (x ∷ rest) + left_to_rise is_value leq bottom count sources fits rank evaluate items readers values
    falls_stays fell = omega (arith, ap (left_to_rise is_value leq bottom count sources fits rank evaluate items readers) (stays fell))

    -- the value stayed
    pub solving_stays : IsTrue (leq new old) → Solving is_value leq bottom count sources fits rank evaluate items readers (set values x new) rest (order ++ x ∷ [])
    solving_stays fell =
        subst (λ vs. Solving is_value leq bottom count sources fits rank evaluate items readers vs rest (order ++ x ∷ [])) (sym (stays fell)) (record {
          fitting = j.fitting;
          settled = λ n d below out. elim (cases_eq n x) [
            | inl here ↦ subst (λ m. IsTrue (leq (evaluate m values) (slice_index_or values m d))) (sym here)
                (subst (λ v. IsTrue (leq (evaluate x values) v)) (sym (old_is d)) (subst (λ v. IsTrue (leq v old)) new_is fell))
            | inr apart ↦ j.settled n d below (grind (arith, nat_tests))
          ];
          rising = j.rising;
          below = j.below;
          spent = omega (arith, j.spent, length-append order (x ∷ []));
          evaluated = All-push (λ n. n < count) order x j.evaluated within;
          orderly = λ ordered. append_assoc order (x ∷ []) rest ∙ j.orderly ordered;
        })

    module _ (list : List ℕ) (lent : D) (list_is : (d : D) → items (slice_index_or readers x d) ≡ list) (rose : leq new old ≡ false) where
      reads : (n : ℕ) → n < count → waits list n ≡ waits (sources n) x
      reads n below = ap (λ l. waits l n) (sym (list_is lent)) ∙ r.reads n x lent below within

      differs : old ≢ evaluate x values
      differs same = true≢false (sym (subst (λ v. IsTrue (leq v old)) (sym (new_is ∙ sym same)) (o.reflexive _ is_value_old)) ∙ rose)

      rank_now : rank x (evaluate x values) < rank x old
      rank_now = s.rank_falls x old _ within is_value_old is_value_now (subst (fits x) (old_is bottom) (j.fitting.fit x bottom within)) fits_now old_below differs

      rank_at : (m : ℕ) → rank m (slice_index_or (set values x (evaluate x values)) m bottom) ≤ rank m (slice_index_or values m bottom)
      rank_at m = by_node (λ m v. rank m v ≤ rank m (slice_index_or values m bottom)) m bottom (let here = ap (rank x) (old_is bottom) in omega (arith, here, rank_now)) (λ _. omega arith)

      spends : left_to_rise is_value leq bottom count sources fits rank evaluate items readers (set values x (evaluate x values)) + length list ≤ left_to_rise is_value leq bottom count sources fits rank evaluate items readers values
      spends =
          let f = λ (m : ℕ). rank m (slice_index_or (set values x (evaluate x values)) m bottom) in
          let g = λ (m : ℕ). rank m (slice_index_or values m bottom) in
          let falls : f x < g x = omega (arith, ap (rank x) (sym (at_node bottom)), ap (rank x) (old_is bottom), rank_now) in
          let zero_x : x ≡ 0 + x = omega arith in
          let all = weigh_falls items f g 0 readers x lent (omega (arith, r.whole)) rank_at (subst (λ m. f m < g m) zero_x falls) in
          omega (arith, all, ap length (list_is lent))

      pub falls_rises : length (fold with_node rest list) + left_to_rise is_value leq bottom count sources fits rank evaluate items readers (set values x new) < length (x ∷ rest) + left_to_rise is_value leq bottom count sources fits rank evaluate items readers values
      falls_rises = omega (arith, spends, fold_length list rest, ap (λ v. left_to_rise is_value leq bottom count sources fits rank evaluate items readers (set values x v)) new_is)

      -- the value rose, and its readers wait
      rises : Solving is_value leq bottom count sources fits rank evaluate items readers (set values x (evaluate x values)) (fold with_node rest list) (order ++ x ∷ [])
      rises = record {
        fitting = fitting;
        settled = λ n d below out.
            let now = fold_waits list rest n in
            let not_rest : waits rest n ≡ false = grind (arith, nat_tests) in
            let not_list : waits list n ≡ false = grind (arith, nat_tests) in
            let lower = down n below (sym (reads n below) ∙ not_list) in
            by_node (λ n v. n < count → waits rest n ≡ false → IsTrue (leq (evaluate n (set values x (evaluate x values))) (evaluate n values)) → IsTrue (leq (evaluate n (set values x (evaluate x values))) v)) n d
            (λ _ _ low. low)
            (λ apart inside gone low. o.transitive _ _ _ (s.evaluate_value n _ inside fitting) (s.evaluate_value n values inside j.fitting) (j.fitting.value n d inside) low (j.settled n d inside (grind (arith, nat_tests))))
            below not_rest lower;
        rising = rising;
        below = under;
        spent = omega (arith, j.spent, spends, fold_length list rest, length-append order (x ∷ []));
        evaluated = All-push (λ n. n < count) order x j.evaluated within;
        orderly = λ ordered.
            let whole = j.orderly ordered in
            let same = fold_same list rest (λ k there.
            let inside : k < count = fold_in_range list rest count (subst (All (λ n. n < count)) (list_is lent) (r.in_range x lent within)) k there in
            range_rest order 0 count x rest whole k (fold_in_range (sources k) rest k (ordered k inside) x (sym (reads k inside) ∙ there)) (omega arith)) in
            ap (λ q. (order ++ x ∷ []) ++ q) same ∙ append_assoc order (x ∷ []) rest ∙ whole;
      }

      pub solving_rises : Solving is_value leq bottom count sources fits rank evaluate items readers (set values x new) (fold with_node rest list) (order ++ x ∷ [])
      solving_rises = subst (λ v. Solving is_value leq bottom count sources fits rank evaluate items readers (set values x v) (fold with_node rest list) (order ++ x ∷ [])) (sym new_is) rises

map_push : {A B : Type 0} (f : A → B) (xs : List A) (y : A) → map f (xs ++ y ∷ []) ≡ map f xs ++ f y ∷ []
map_push f [] y = refl
map_push f (x ∷ xs) y = ap (λ r. f x ∷ r) (map_push f xs y)

pub append_none : {A : Type 0} (xs : List A) → xs ≡ xs ++ []
append_none [] = refl
append_none (x ∷ xs) = ap (λ r. x ∷ r) (append_none xs)

pub noted_more : {N : Type 0} (note : ℕ → N) (old mid new : List N) (order : List ℕ) (x : ℕ) → mid ≡ old ++ map note order → new ≡ mid ++ note x ∷ [] → new ≡ old ++ map note (order ++ x ∷ [])
noted_more note old mid new order x before now = now ∙ ap (λ m. m ++ note x ∷ []) before ∙ append_assoc old (map note order) (note x ∷ []) ∙ ap (λ l. old ++ l) (sym (map_push note order x))

module _ {V D N : Type 0} {is_value : V → Type 0} {leq : V → V → Bool} {bottom : V} {count : ℕ} {sources : ℕ → List ℕ}
    {fits : ℕ → V → Type 0} {rank : ℕ → V → ℕ} {evaluate : ℕ → List V → V} (items : D → List ℕ) (readers : List D) (r : IsReaders items sources count count readers)
    (note : ℕ → N) (old : List N) where
  -- the evaluations so far were noted
  pub noted_so_far : (new : List N) (values : List V) (waiting order : List ℕ) → Solving is_value leq bottom count sources fits rank evaluate items readers values waiting order → new ≡ old ++ map note order
      → NotesEvaluations note count (count + edge_sum (λ m. rank m bottom) count sources) old new
  noted_so_far new values waiting order j same = record { order = order; notes = same; nodes = j.evaluated; few = omega (arith, j.spent, r.weighed (λ m. rank m bottom)) }

  pub noted_next : (mid new : List N) (values : List V) (rest order : List ℕ) (x : ℕ) → Solving is_value leq bottom count sources fits rank evaluate items readers values (x ∷ rest) order → x < count → mid ≡ old ++ map note order → new ≡ mid ++ note x ∷ []
      → NotesEvaluations note count (count + edge_sum (λ m. rank m bottom) count sources) old new
  noted_next mid new values rest order x j within before now = record {
    order = order ++ x ∷ [];
    notes = noted_more note old mid new order x before now;
    nodes = All-push (λ n. n < count) order x j.evaluated within;
    few = omega (arith, j.spent, r.weighed (λ m. rank m bottom), length-append order (x ∷ []));
  }
