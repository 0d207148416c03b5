-- The lists of readers, built node by node.
use Rattle.std.specs.Prelude.{◌≡◌, ℕ, ◌+◌, ◌<◌, false, List, [], ◌∷◌, ◌++◌, All, length, sum_by, slice_index_or, refl}
use Rattle.std.specs.List.{range_with_len}
use Rattle.std.proofs.Common.{suc, ap, sym, subst, ◌∙◌, arith, set, length-set, inl, inr}
use Rattle.std.proofs.lemmas.Bool.{cases_eq}
use Rattle.std.proofs.lemmas.Bool.Decides.{nat_tests}
use Rattle.std.proofs.lemmas.List.{get_or-set_same, get_or-set_other}
use Rattle.std.proofs.lemmas.List.Elements.{All-push, All-nil, All-head, All-tail, All-weaker}
use Rattle.std.proofs.lemmas.List.Sums.{sum_by_push}
use Rattle.fix_solver.specs.Worklists.{waits}
use Rattle.fix_solver.specs.Readers.{weigh, IsReaders}
use Rattle.fix_solver.specs.Adding.{AddsReader}
use Rattle.fix_solver.proofs.Queues.{waits-push, range_more}
use Rattle.fix_solver.proofs.Weights.{weigh_more}

-- a node that no element reaches does not wait
waits_beyond : (xs : List ℕ) (k : ℕ) → All (λ n. n < k) xs → waits xs k ≡ false
waits_beyond [] k all = refl
waits_beyond (x ∷ xs) k all =
    let first : x < k = All-head (λ n. n < k) x xs all in
    let rest = waits_beyond xs k (All-tail (λ n. n < k) x xs all) in
    grind (arith, nat_tests)

module _ {D : Type 0} (items : D → List ℕ) where
  weigh_empty : (f : ℕ → ℕ) (k : ℕ) (ds : List D) → All (λ d. items d ≡ []) ds → weigh items f k ds ≡ 0
  weigh_empty f k [] all = refl
  weigh_empty f k (d ∷ ds) all =
      let first = ap (λ l. sum_by (λ _. f k) l) (All-head (λ e. items e ≡ []) d ds all) in
      omega (arith, first, weigh_empty f (suc k) ds (All-tail (λ e. items e ≡ []) d ds all))

  pub readers_start : (sources : ℕ → List ℕ) (count : ℕ) (lists : List D) → length lists ≡ count → All (λ d. items d ≡ []) lists → IsReaders items sources count 0 lists
  readers_start sources count lists whole all = record {
    whole = whole;
    reads = λ n m d below within. absurd (omega arith);
    in_range = λ m d within. subst (All (λ n. n < 0)) (sym (all m d (omega (arith, whole)))) (All-nil _);
    weighed = λ f. weigh_empty f 0 lists all;
  }

  pub adds_none : (node : ℕ) (lists : List D) → AddsReader items node [] lists lists
  adds_none node lists = record {
    whole = refl;
    grew = λ m n d within. grind (arith, nat_tests);
    in_range = λ m bound d within below all. all;
    weighed = λ f. omega arith;
  }

  pub adds_more : (node : ℕ) (before : List ℕ) (source : ℕ) (old now : List D) (list : D) → AddsReader items node before old now → source < length old
      → ((d : D) → items list ≡ items (slice_index_or now source d) ++ node ∷ []) → AddsReader items node (before ++ source ∷ []) old (set now source list)
  adds_more node before source old now list a within grown = record {
    whole = length-set now source list ∙ a.whole;
    grew = λ m n d inside.
        let more = waits-push before source m in
        let had = a.grew m n d inside in
        elim (cases_eq m source) [
          | inl same ↦
              let here : items (slice_index_or (set now source list) m d) ≡ items (slice_index_or now m d) ++ node ∷ [] =
              rw (same, get_or-set_same now source list d (omega (arith, a.whole))) (grown d) in
              let waiting = waits-push (items (slice_index_or now m d)) node n in
              rw (here, waiting, had, more) (grind (arith, nat_tests))
          | inr apart ↦ rw (get_or-set_other now source m list d apart, had, more) (grind (arith, nat_tests))
        ];
    in_range = λ m bound d inside below all.
        let had = a.in_range m bound d inside below all in
        elim (cases_eq m source) [
          | inl same ↦
              let here : items (slice_index_or (set now source list) m d) ≡ items (slice_index_or now m d) ++ node ∷ [] =
              rw (same, get_or-set_same now source list d (omega (arith, a.whole))) (grown d) in
              rw here (All-push (λ n. n < bound) _ node had below)
          | inr apart ↦ rw (get_or-set_other now source m list d apart) had
        ];
    weighed = λ f.
        let grew = weigh_more items f 0 now source list node (omega (arith, a.whole)) (grown list) in
        let at_source : f (0 + source) ≡ f source = ap f (omega arith) in
        omega (arith, grew, at_source, a.weighed f, sum_by_push f before source);
  }

  pub readers_more : (sources : ℕ → List ℕ) (count k : ℕ) (old new : List D) → IsReaders items sources count k old → k < count → AddsReader items k (sources k) old new → IsReaders items sources count (k + 1) new
  readers_more sources count k old new r within a = record {
    whole = a.whole ∙ r.whole;
    reads = λ n m d below inside.
        let grew = a.grew m n d (omega (arith, r.whole)) in
        let before = waits_beyond (items (slice_index_or old m d)) k (r.in_range m d inside) in
        elim (cases_eq n k) [
          | inl same ↦ rw (grew, same, before) (grind (arith, nat_tests))
          | inr apart ↦ let had = r.reads n m d (omega arith) inside in rw (grew, had) (grind (arith, nat_tests))
        ];
    in_range = λ m d inside. a.in_range m (k + 1) d (omega (arith, r.whole)) (omega arith) (All-weaker (λ n. n < k) (λ n. n < k + 1) (λ n low. omega arith) _ (r.in_range m d inside));
    weighed = λ f.
        let g = λ (n : ℕ). sum_by f (sources n) in
        let last : g (0 + k) ≡ g k = ap g (omega arith) in
        omega (arith, a.weighed f, r.weighed f, ap (sum_by g) (range_more 0 k), sum_by_push g (range_with_len 0 k) (0 + k), last);
  }
