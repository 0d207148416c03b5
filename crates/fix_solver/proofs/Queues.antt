-- Queues of nodes: what waits after a node is added or taken, and in a range.
use Rattle.std.specs.Prelude.{◌≡◌, ◌≢◌, ℕ, ◌+◌, ◌<◌, ◌≤◌, Bool, true, false, ◌||◌, List, [], ◌∷◌, ◌++◌, All, fold, length, nat_eq, slice_index_or, if◌then◌else◌, replicate, refl}
use Rattle.std.specs.List.{range_with_len, IsDistinct, AllByRecursion}
use Rattle.std.proofs.Common.{zero, suc, ap, sym, ◌∙◌, arith, set, length-set, length-append, inl, inr, add-one}
use Rattle.std.proofs.lemmas.Bool.{cases_eq, true≢false, or_cases}
use Rattle.std.proofs.lemmas.Bool.Decides.{nat_tests}
use Rattle.std.proofs.lemmas.Cmp.{nat_eq_equiv}
use Rattle.std.proofs.lemmas.List.{get_or-set_same, get_or-set_other, get_or-replicate, length-replicate}
use Rattle.std.proofs.lemmas.List.Elements.{All-push, All-tail, All-nil}
use Rattle.std.proofs.lemmas.Map.Keys.{IsDistinct-push, IsDistinct-head, IsDistinct-tail}
use Rattle.fix_solver.specs.Worklists.{waits, with_node, IsWorklist}

pub waits-push : (q : List ℕ) (n k : ℕ) → waits (q ++ n ∷ []) k ≡ (waits q k || nat_eq k n)
waits-push [] n k = grind (arith, nat_tests)
waits-push (x ∷ q) n k = grind (arith, nat_tests, waits-push q n k)

-- a queue has the node where it waits
pub waits_apart : (xs : List ℕ) (x k d : ℕ) → waits xs x ≡ false → k < length xs → slice_index_or xs k d ≢ x
waits_apart [] x k d out below same = absurd (omega arith)
waits_apart (y ∷ ys) x zero d out below same = grind (arith, nat_tests)
waits_apart (y ∷ ys) x (suc k) d out below same =
    let rest : waits ys x ≡ false = grind (arith, nat_tests) in
    waits_apart ys x k d rest (omega arith) same

with_node_waits : (q : List ℕ) (n k : ℕ) → waits (with_node q n) k ≡ (waits q k || nat_eq k n)
with_node_waits q n k = elim (waits q n) as (λ b. waits q n ≡ b → waits (if b then q else q ++ n ∷ []) k ≡ (waits q k || nat_eq k n)) [
  | true ↦ λ here. elim (cases_eq k n) [
    | inl same ↦ rw (same, here) refl
    | inr apart ↦ grind (arith, nat_tests)
  ]
  | false ↦ λ _. waits-push q n k
] refl

with_node_length : (q : List ℕ) (n : ℕ) → length (with_node q n) ≤ length q + 1
with_node_length q n = elim (waits q n) as (λ b. length (if b then q else q ++ n ∷ []) ≤ length q + 1) [
  | true ↦ omega arith
  | false ↦ omega (arith, length-append q (n ∷ []))
]

-- after nodes were added, those wait that waited and those that were added
pub fold_waits : (ns q : List ℕ) (k : ℕ) → waits (fold with_node q ns) k ≡ (waits q k || waits ns k)
fold_waits [] q k = grind arith
fold_waits (n ∷ ns) q k =
    let rest = fold_waits ns (with_node q n) k in
    let first = with_node_waits q n k in
    rw (rest, first) (grind (arith, nat_tests))

pub fold_length : (ns q : List ℕ) → length (fold with_node q ns) ≤ length q + length ns
fold_length [] q = omega arith
fold_length (n ∷ ns) q = omega (arith, fold_length ns (with_node q n), with_node_length q n)

-- nodes that wait already change nothing
pub fold_same : (ns q : List ℕ) → ((k : ℕ) → waits ns k ≡ true → waits q k ≡ true) → fold with_node q ns ≡ q
fold_same [] q all = refl
fold_same (n ∷ ns) q all =
    let here : waits q n ≡ true = all n (grind (arith, nat_tests)) in
    rw here (fold_same ns q (λ k there. all k (grind (arith, nat_tests))))

pub fold_in_range : (ns q : List ℕ) (count : ℕ) → All (λ n. n < count) ns → (k : ℕ) → waits ns k ≡ true → k < count
fold_in_range [] q count all k there = absurd (true≢false (sym there))
fold_in_range (n ∷ ns) q count all k there = elim (or_cases (nat_eq k n) (waits ns k) there) [
  | inl here ↦ let first = all 0 n (omega arith) in grind (arith, nat_tests)
  | inr later ↦ fold_in_range ns q count (All-tail (λ x. x < count) n ns all) k later
]

-- ---- ranges
range_suc : (a n : ℕ) → range_with_len a (suc n) ≡ range_with_len a n ++ (a + n) ∷ []
range_suc a zero = let here : a + 0 ≡ a = omega arith in rw here refl
range_suc a (suc n) = let there : (a + 1) + n ≡ a + suc n = omega arith in ap (λ r. a ∷ r) (range_suc (a + 1) n ∙ ap (λ k. range_with_len (a + 1) n ++ k ∷ []) there)

pub range_more : (a n : ℕ) → range_with_len a (n + 1) ≡ range_with_len a n ++ (a + n) ∷ []
range_more a n = rw add-one (range_suc a n)

pub range_waits : (a n k : ℕ) → a ≤ k → k < a + n → waits (range_with_len a n) k ≡ true
range_waits a zero k low high = absurd (omega arith)
range_waits a (suc n) k low high = elim (cases_eq k a) [
  | inl same ↦ grind (arith, nat_tests)
  | inr apart ↦ let rest = range_waits (a + 1) n k (omega arith) (omega arith) in grind (arith, nat_tests)
]

pub range_ends : (a n k : ℕ) → a + n ≤ k → waits (range_with_len a n) k ≡ false
range_ends a zero k high = refl
range_ends a (suc n) k high = let rest = range_ends (a + 1) n k (omega arith) in grind (arith, nat_tests)

-- the next node comes last
pub range_next : (n : ℕ) → with_node (range_with_len 0 n) n ≡ range_with_len 0 (n + 1)
range_next n =
    let out = range_ends 0 n n (omega arith) in
    let last : 0 + n ≡ n = omega arith in
    rw out (sym (range_more 0 n ∙ ap (λ k. range_with_len 0 n ++ k ∷ []) last))

-- what comes in a range after a number
pub range_rest : (order : List ℕ) (a n x : ℕ) (rest : List ℕ) → order ++ x ∷ rest ≡ range_with_len a n → (k : ℕ) → x < k → k < a + n → waits rest k ≡ true
range_rest [] a zero x rest same k after within = absurd cc
range_rest [] a (suc n) x rest same k after within =
    let first : x ≡ a = cc in
    let others : rest ≡ range_with_len (a + 1) n = cc in
    rw others (range_waits (a + 1) n k (omega arith) (omega arith))
range_rest (y ∷ ys) a zero x rest same k after within = absurd cc
range_rest (y ∷ ys) a (suc n) x rest same k after within =
    let others : ys ++ x ∷ rest ≡ range_with_len (a + 1) n = cc in
    range_rest ys (a + 1) n x rest others k after (omega arith)

-- ---- the marks of a worklist
none_waits : (n : ℕ) (ys : List ℕ) → AllByRecursion (λ y. nat_eq n y ≡ false) ys → waits ys n ≡ false
none_waits n [] none = refl
none_waits n (y ∷ ys) none = let rest = none_waits n ys none.1 in let first = none.0 in grind (arith, nat_tests)

pub worklist_starts : (n : ℕ) → IsWorklist (replicate n false) []
unfolding IsDistinct
worklist_starts n = record {
  marked = λ k d below. get_or-replicate n k false d (omega (arith, length-replicate n false));
  once = tt;
  in_range = All-nil _;
}

pub worklist_adds : (marks : List Bool) (queue : List ℕ) (node : ℕ) → IsWorklist marks queue → node < length marks → waits queue node ≡ false → IsWorklist (set marks node true) (queue ++ node ∷ [])
worklist_adds marks queue node w below out = record {
  marked = λ n d within. elim (cases_eq n node) [
    | inl same ↦
        let now = waits-push queue node node in
        rw (same, get_or-set_same marks node true d below, now) (grind (arith, nat_tests))
    | inr apart ↦
        let old = w.marked n d (omega (arith, length-set marks node true)) in
        let now = waits-push queue node n in
        rw (get_or-set_other marks node n true d apart, now) (grind (arith, nat_tests))
  ];
  once = IsDistinct-push nat_eq_equiv queue node w.once out;
  in_range = rw (length-set marks node true) (All-push (λ x. x < length marks) queue node w.in_range below);
}

pub worklist_takes : (marks : List Bool) (node : ℕ) (rest : List ℕ) → IsWorklist marks (node ∷ rest) → IsWorklist (set marks node false) rest
worklist_takes marks node rest w =
    let below : node < length marks = w.in_range 0 node (omega arith) in
    record {
      marked = λ n d within. elim (cases_eq n node) [
        | inl same ↦
            let gone = none_waits node rest (IsDistinct-head nat_eq node rest w.once) in
            rw (same, get_or-set_same marks node false d below) (sym gone)
        | inr apart ↦
            let old = w.marked n d (omega (arith, length-set marks node false)) in
            rw (get_or-set_other marks node n false d apart) (grind (arith, nat_tests))
      ];
      once = IsDistinct-tail nat_eq node rest w.once;
      in_range = rw (length-set marks node false) (All-tail (λ x. x < length marks) node rest w.in_range);
    }
