-- That the equations of shortest names make a system, and what a solution tells.
use Rattle.std.specs.Prelude.{◌≡◌, ◌≢◌, ℕ, ◌+◌, ◌*◌, ◌<◌, ◌≤◌, ◌⊎◌, true, false, IsTrue, List, [], ◌∷◌, Option, Some, None, Contains, length, min, nat_eq, nat_le, slice_index_or, unwrap_or, if◌then◌else◌, refl}
use Rattle.std.specs.List.{AllByRecursion}
use Rattle.std.specs.List.Sorted.{IsStrictlySortedBy}
use Rattle.std.specs.Map.{keys_of}
use Rattle.std.specs.BTreeMap.{is_at}
use Rattle.std.specs.Ordering.{nat_cmp, is_eq}
use Rattle.std.specs.declared.cmp.Ordering.TheVariants.{Less, Equal, Greater}
use Rattle.std.proofs.Common.{zero, suc, arith, sym, subst, ap, ◌∙◌, inl, inr}
use Rattle.std.proofs.lemmas.Bool.{cases_eq, cases_lt, eqb-true, eq-eqb, true≢false}
use Rattle.std.proofs.lemmas.Bool.Decides.{nat_tests}
use Rattle.std.proofs.lemmas.Cmp.{nat_cmp_total, tied_itself}
use Rattle.std.proofs.lemmas.Map.Entries.{lookup_head, lookup_tail}
use Rattle.std.proofs.lemmas.Map.Lookups.{exact_unsigned}
use Rattle.rn_lattice.specs.Order.{IsOrderFrom, IsGreatest, IsJoin}
use Rattle.rn_lattice.specs.Duals.{dual_leq, dual_of, dual_order}
use Rattle.rn_lattice.specs.Maps.{get, value_at}
use Rattle.rn_lattice.specs.MapOrders.{at_value, below_at, below_from, map_order, join_at}
use Rattle.rn_lattice.specs.declared.dual.Dual.{Dual}
use Rattle.fix_solver.specs.Systems.{IsSystem, IsFitting, IsSolution}
use Rattle.fix_solver.specs.Graphs.{IsGraph, name_of, sources_of, here, along}
use Rattle.fix_solver.specs.Gathering.{gather_at, IsGathered}
use Rattle.fix_solver.specs.GatheringLaws.{gather_laws, gathered_at, led_above}
use Rattle.fix_solver.specs.Shortest.{letter_of, length_of, IsLength, IsNames, names_leq, at, table, own_length, own_at, shorter, Comes, IsTold, IsShortest, total, falls_left}

-- ---- lengths
pub length_order : IsOrderFrom IsLength nat_le 0
length_order = record {
  reflexive = λ x _. grind (arith, nat_tests);
  transitive = λ x y z _ _ _ xy yz. grind (arith, nat_tests);
  antisymmetric = λ x y _ _ xy yx. grind (arith, nat_tests);
  bottom_value = omega arith;
  bottom_least = λ x _. grind (arith, nat_tests);
}

pub length_greatest : IsGreatest IsLength nat_le 255
length_greatest = record { top_value = omega arith; top_greatest = λ x h. grind (arith, nat_tests) }

upside_down : IsOrderFrom (λ (x : Dual ℕ). IsLength x.inner) (dual_leq nat_le) (dual_of 255)
upside_down = dual_order length_order length_greatest

names_order : IsOrderFrom IsNames names_leq []
names_order = map_order nat_cmp_total exact_unsigned upside_down

-- ---- tables
at_itself : (q : ℕ) → is_at (nat_cmp q) q ≡ true
at_itself q = ap is_eq (tied_itself nat_cmp_total q)

apart_from : (q k : ℕ) → q ≢ k → is_at (nat_cmp q) k ≡ false
apart_from q k apart = elim (nat_cmp q k) as (λ r. nat_cmp q k ≡ r → is_eq r ≡ false) [
  | Less ↦ λ _. refl
  | Equal ↦ λ same. absurd (apart (exact_unsigned q k same))
  | Greater ↦ λ _. refl
] refl

less : (j k : ℕ) → j < k → nat_cmp j k ≡ Less
less j k below = grind (arith, nat_tests)

module _ (f : ℕ → ℕ) where
  -- what is kept at a letter
  shown : ℕ → Option (Dual ℕ)
  shown q = if nat_eq (f q) 255 then None else Some (dual_of (f q))

  get_before : (k n q : ℕ) → q < k → get nat_cmp (table f k n) q ≡ None
  unfolding table
  get_before k zero q before = refl
  get_before k (suc n) q before =
      let rest = get_before (k + 1) n q (omega arith) in
      elim (nat_eq (f k) 255) as (λ b. get nat_cmp (if b then table f (k + 1) n else ((k, dual_of (f k)) ∷ table f (k + 1) n)) q ≡ None) [
        | true ↦ rest
        | false ↦ lookup_tail (is_at (nat_cmp q)) (k, dual_of (f k)) (table f (k + 1) n) (apart_from q k (λ same. absurd (omega arith))) ∙ rest
      ]

  get_after : (k n q : ℕ) → k + n ≤ q → get nat_cmp (table f k n) q ≡ None
  unfolding table
  get_after k zero q after = refl
  get_after k (suc n) q after =
      let rest = get_after (k + 1) n q (omega arith) in
      elim (nat_eq (f k) 255) as (λ b. get nat_cmp (if b then table f (k + 1) n else ((k, dual_of (f k)) ∷ table f (k + 1) n)) q ≡ None) [
        | true ↦ rest
        | false ↦ lookup_tail (is_at (nat_cmp q)) (k, dual_of (f k)) (table f (k + 1) n) (apart_from q k (λ same. absurd (omega arith))) ∙ rest
      ]

  get_first : (k n : ℕ) → get nat_cmp (table f k (suc n)) k ≡ shown k
  unfolding table shown
  get_first k n = elim (nat_eq (f k) 255) as (λ b. get nat_cmp (if b then table f (k + 1) n else ((k, dual_of (f k)) ∷ table f (k + 1) n)) k ≡ (if b then None else Some (dual_of (f k)))) [
    | true ↦ get_before (k + 1) n k (omega arith)
    | false ↦ lookup_head (is_at (nat_cmp k)) (k, dual_of (f k)) (table f (k + 1) n) (at_itself k)
  ]

  get_within : (k n q : ℕ) → k ≤ q → q < k + n → get nat_cmp (table f k n) q ≡ shown q
  unfolding table
  get_within k zero q low high = absurd (omega arith)
  get_within k (suc n) q low high = elim (cases_eq q k) [
    | inl same ↦ subst (λ p. get nat_cmp (table f k (suc n)) p ≡ shown p) (sym same) (get_first k n)
    | inr apart ↦
        let rest = get_within (k + 1) n q (omega arith) (omega arith) in
        elim (nat_eq (f k) 255) as (λ b. get nat_cmp (if b then table f (k + 1) n else ((k, dual_of (f k)) ∷ table f (k + 1) n)) q ≡ shown q) [
          | true ↦ rest
          | false ↦ lookup_tail (is_at (nat_cmp q)) (k, dual_of (f k)) (table f (k + 1) n) (apart_from q k apart) ∙ rest
        ]
  ]

  keys_after : (j k n : ℕ) → j < k → AllByRecursion (λ y. nat_cmp j y ≡ Less) (keys_of (table f k n))
  unfolding table
  keys_after j k zero below = tt
  keys_after j k (suc n) below =
      let rest = keys_after j (k + 1) n (omega arith) in
      elim (nat_eq (f k) 255) as (λ b. AllByRecursion (λ y. nat_cmp j y ≡ Less) (keys_of (if b then table f (k + 1) n else ((k, dual_of (f k)) ∷ table f (k + 1) n)))) [
        | true ↦ rest
        | false ↦ (less j k below, rest)
      ]

  sorted : (k n : ℕ) → IsStrictlySortedBy nat_cmp (keys_of (table f k n))
  unfolding table IsStrictlySortedBy
  sorted k zero = tt
  sorted k (suc n) = elim (nat_eq (f k) 255) as (λ b. IsStrictlySortedBy nat_cmp (keys_of (if b then table f (k + 1) n else ((k, dual_of (f k)) ∷ table f (k + 1) n)))) [
    | true ↦ sorted (k + 1) n
    | false ↦ (keys_after k (k + 1) n (omega arith), sorted (k + 1) n)
  ]

  kept : (q : ℕ) (v : Dual ℕ) → shown q ≡ Some v → (v ≡ dual_of (f q)) × (f q ≢ 255)
  unfolding shown
  kept q v = elim (nat_eq (f q) 255) as (λ b. nat_eq (f q) 255 ≡ b → (if b then None else Some (dual_of (f q))) ≡ Some v → (v ≡ dual_of (f q)) × (f q ≢ 255)) [
    | true ↦ λ _ e. absurd cc
    | false ↦ λ other e. (let same : v ≡ dual_of (f q) = cc in same, λ same. true≢false (sym (eq-eqb (f q) 255 same) ∙ other))
  ] refl

  table_is_names : ((q : ℕ) → IsLength (f q)) → IsNames (table f 0 32)
  table_is_names lengths = record {
    ordered = sorted 0 32;
    kept = λ q v found. elim (cases_lt q 32) [
      | inl within ↦
          let k = kept q v (sym (get_within 0 32 q (omega arith) (omega arith)) ∙ found) in
          (subst (λ (x : Dual ℕ). IsLength x.inner) (sym k.0) (lengths q), λ same. k.1 (ap (λ (x : Dual ℕ). x.inner) (sym k.0 ∙ same)))
      | inr after ↦ absurd (let none = get_after 0 32 q (omega arith) in cc)
    ];
  }

  shown_value : (q : ℕ) → unwrap_or (shown q) (dual_of 255) ≡ dual_of (f q)
  unfolding shown
  shown_value q = elim (nat_eq (f q) 255) as (λ b. nat_eq (f q) 255 ≡ b → unwrap_or (if b then None else Some (dual_of (f q))) (dual_of 255) ≡ dual_of (f q)) [
    | true ↦ λ same. ap dual_of (sym (eqb-true (f q) 255 same))
    | false ↦ λ _. refl
  ] refl

  value_within : (q : ℕ) → q < 32 → value_at nat_cmp (dual_of 255) (table f 0 32) q ≡ dual_of (f q)
  value_within q within = ap (λ r. unwrap_or r (dual_of 255)) (get_within 0 32 q (omega arith) (omega arith)) ∙ shown_value q

  value_after : (q : ℕ) → 32 ≤ q → value_at nat_cmp (dual_of 255) (table f 0 32) q ≡ dual_of 255
  value_after q after = ap (λ r. unwrap_or r (dual_of 255)) (get_after 0 32 q (omega arith))

-- ---- joins
-- names at letters of the alphabet alone
abbrev pub IsGood : List (ℕ × Dual ℕ) → Type 0
IsGood m = IsNames m × ((q : ℕ) → 32 ≤ q → at m q ≡ 255)

is_length : (m : List (ℕ × Dual ℕ)) → IsNames m → (q : ℕ) → IsLength (at m q)
is_length m h q = at_value nat_cmp_total exact_unsigned upside_down m h q

table_is_good : (f : ℕ → ℕ) → ((q : ℕ) → IsLength (f q)) → IsGood (table f 0 32)
table_is_good f lengths = (table_is_names f lengths, λ q after. ap (λ (x : Dual ℕ). x.inner) (value_after f q after))

shorter_good : (x y : List (ℕ × Dual ℕ)) → IsGood x → IsGood y → IsGood (shorter x y)
shorter_good x y gx gy = table_is_good (λ q. min (at x q) (at y q)) (λ q. let h = is_length x gx.0 q in omega arith)

shorter_value : (x y : List (ℕ × Dual ℕ)) → IsGood x → IsGood y → (q : ℕ) → value_at nat_cmp (dual_of 255) (shorter x y) q ≡ dual_of (min (at x q) (at y q))
shorter_value x y gx gy q = elim (cases_lt q 32) [
  | inl within ↦ value_within (λ q. min (at x q) (at y q)) q within
  | inr after ↦
      let high : 32 ≤ q = omega arith in
      value_after (λ q. min (at x q) (at y q)) q high ∙ ap dual_of (let hx = gx.1 q high in let hy = gy.1 q high in omega arith)
]

lengths_join : (a b : ℕ) → IsLength a → IsLength b → IsJoin (λ (x : Dual ℕ). IsLength x.inner) (dual_leq nat_le) (dual_of a) (dual_of b) (dual_of (min a b))
lengths_join a b ha hb = record {
  value = omega arith;
  above_first = grind (arith, nat_tests);
  above_second = grind (arith, nat_tests);
  least = λ w hw aw bw. grind (arith, nat_tests);
}

shorter_joins : (x y : List (ℕ × Dual ℕ)) → IsGood x → IsGood y → IsJoin IsNames names_leq x y (shorter x y)
shorter_joins x y gx gy =
    join_at nat_cmp_total exact_unsigned upside_down x y (shorter x y) gx.0 gy.0 (shorter_good x y gx gy).0
    (λ q. subst (λ v. IsJoin (λ (x : Dual ℕ). IsLength x.inner) (dual_leq nat_le) (value_at nat_cmp (dual_of 255) x q) (value_at nat_cmp (dual_of 255) y q) v) (sym (shorter_value x y gx gy q))
    (lengths_join (at x q) (at y q) (is_length x gx.0 q) (is_length y gy.0 q)))

own_good : (graph : List (List ℕ × List ℕ)) (n : ℕ) → IsGood (own_at graph n)
own_good graph n = table_is_good (own_length (name_of graph n)) (λ q.
    elim (nat_eq q (letter_of (name_of graph n))) as (λ b. IsLength (if b then length_of (name_of graph n) else 255)) [ true ↦ omega arith | false ↦ omega arith ])

letter_in_alphabet : (name : List ℕ) → letter_of name < 32
letter_in_alphabet name = omega arith

own_is : (graph : List (List ℕ × List ℕ)) (n : ℕ) → at (own_at graph n) (letter_of (name_of graph n)) ≡ length_of (name_of graph n)
own_is graph n =
    let letter = letter_of (name_of graph n) in
    let same : nat_eq letter letter ≡ true = eq-eqb letter letter refl in
    ap (λ (x : Dual ℕ). x.inner) (value_within (own_length (name_of graph n)) letter (letter_in_alphabet (name_of graph n)))
    ∙ ap (λ b. if b then length_of (name_of graph n) else 255) same

own_elsewhere : (graph : List (List ℕ × List ℕ)) (n q : ℕ) → q ≢ letter_of (name_of graph n) → at (own_at graph n) q ≡ 255
own_elsewhere graph n q apart = elim (cases_lt q 32) [
  | inl within ↦
      let other : nat_eq q (letter_of (name_of graph n)) ≡ false = grind (arith, nat_tests) in
      ap (λ (x : Dual ℕ). x.inner) (value_within (own_length (name_of graph n)) q within) ∙ ap (λ b. if b then length_of (name_of graph n) else 255) other
  | inr after ↦ (own_good graph n).1 q (omega arith)
]

-- a map with the name's length at its letter, and no other, is the node's own
own_only : (graph : List (List ℕ × List ℕ)) (n : ℕ) (m : List (ℕ × Dual ℕ)) → IsNames m → at m (letter_of (name_of graph n)) ≡ length_of (name_of graph n) → ((q : ℕ) → q ≢ letter_of (name_of graph n) → at m q ≡ 255) → m ≡ own_at graph n
own_only graph n m h here_is elsewhere =
    let o = names_order in
    let same : (q : ℕ) → at m q ≡ at (own_at graph n) q = λ q. elim (cases_eq q (letter_of (name_of graph n))) [
      | inl letter ↦ subst (λ k. at m k ≡ at (own_at graph n) k) (sym letter) (here_is ∙ sym (own_is graph n))
      | inr apart ↦ elsewhere q apart ∙ sym (own_elsewhere graph n q apart)
    ] in
    o.antisymmetric m (own_at graph n) h (own_good graph n).0
    (below_from nat_cmp_total exact_unsigned upside_down m (own_at graph n) h (λ q. let s = same q in grind (arith, nat_tests)))
    (below_from nat_cmp_total exact_unsigned upside_down (own_at graph n) m (own_good graph n).0 (λ q. let s = same q in grind (arith, nat_tests)))

-- so it is where the name's length was joined to the empty map at its letter
pub own_raised : (graph : List (List ℕ × List ℕ)) (n : ℕ) (m : List (ℕ × Dual ℕ)) (letter long : ℕ) → letter ≡ letter_of (name_of graph n) → long ≡ length_of (name_of graph n) → IsNames m
    → IsJoin (λ (x : Dual ℕ). IsLength x.inner) (dual_leq nat_le) (dual_of 255) (dual_of long) (value_at nat_cmp (dual_of 255) m letter) → ((q : ℕ) → q ≢ letter → get nat_cmp m q ≡ None) → m ≡ own_at graph n
own_raised graph n m letter long same_letter same_long names j others =
    let o = upside_down in
    let short : IsLength long = omega (arith, same_long) in
    let only : value_at nat_cmp (dual_of 255) m letter ≡ dual_of long =
    o.antisymmetric _ _ j.value short (j.least (dual_of long) short (o.bottom_least (dual_of long) short) (o.reflexive (dual_of long) short)) j.above_second in
    own_only graph n m names
    (ap (at m) (sym same_letter) ∙ ap (λ (x : Dual ℕ). x.inner) only ∙ same_long)
    (λ q apart. ap (λ r. (unwrap_or r (dual_of 255)).inner) (others q (λ same. apart (same ∙ same_letter))))

-- ---- how far lengths may fall
total_less : (f g : ℕ → ℕ) (n : ℕ) → ((q : ℕ) → g q ≤ f q) → total g n ≤ total f n
unfolding total
total_less f g zero below = omega arith
total_less f g (suc n) below = omega (arith, total_less f g n below, below n)

total_same : (f g : ℕ → ℕ) (n : ℕ) → ((q : ℕ) → g q ≤ f q) → total f n ≤ total g n → (q : ℕ) → q < n → f q ≡ g q
unfolding total
total_same f g zero below all q within = absurd (omega arith)
total_same f g (suc n) below all q within = elim (cases_eq q n) [
  | inl last ↦ subst (λ k. f k ≡ g k) (sym last) (omega (arith, total_less f g n below, below n))
  | inr before ↦ total_same f g n below (omega (arith, below n)) q (omega arith)
]

total_of : (w n : ℕ) → total (λ _. w) n ≡ n * w
unfolding total
total_of w zero = omega arith
total_of w (suc n) = omega (arith, total_of w n)

-- at first each of the 32 lengths may fall by 255
pub falls_at_first : falls_left [] ≡ 8160
falls_at_first = total_of 255 32

falls : (x y : List (ℕ × Dual ℕ)) → IsGood x → IsGood y → IsTrue (names_leq x y) → x ≢ y → falls_left y < falls_left x
falls x y gx gy below differs = elim (cases_lt (falls_left y) (falls_left x)) [
  | inl fell ↦ fell
  | inr not_less ↦
      let each : (q : ℕ) → at y q ≤ at x q = λ q. let h = below_at nat_cmp_total exact_unsigned upside_down x y gy.0 below q in grind (arith, nat_tests) in
      let same : (q : ℕ) → at x q ≡ at y q = λ q. elim (cases_lt q 32) [
        | inl within ↦ total_same (at x) (at y) 32 each (omega arith) q within
        | inr after ↦ gx.1 q (omega arith) ∙ sym (gy.1 q (omega arith))
      ] in
      absurd (differs (names_order.antisymmetric x y gx.0 gy.0 below
      (below_from nat_cmp_total exact_unsigned upside_down y x gy.0 (λ q. let s = same q in grind (arith, nat_tests)))))
]

-- ---- the system
module _ (graph : List (List ℕ × List ℕ)) where
  told_good : (n : ℕ) (v : List (ℕ × Dual ℕ)) → IsNames v → IsTold graph n v → IsGood v
  told_good n v names told = (
    names,
    λ q after. elim (told q) [
      | inl none ↦ none
      | inr comes ↦ absurd (let inside = letter_in_alphabet (name_of graph comes.0) in omega (arith, comes.2, inside))
    ],
  )

  told_own : (n : ℕ) → IsTold graph n (own_at graph n)
  told_own n letter = elim (cases_eq letter (letter_of (name_of graph n))) [
    | inl same ↦ inr (n, here, sym same, sym (ap (at (own_at graph n)) same ∙ own_is graph n))
    | inr apart ↦ inl (own_elsewhere graph n letter apart)
  ]

  told_shorter : (n : ℕ) (x y : List (ℕ × Dual ℕ)) → IsGood x → IsGood y → IsTold graph n x → IsTold graph n y → IsTold graph n (shorter x y)
  told_shorter n x y gx gy tx ty letter =
      let now : at (shorter x y) letter ≡ min (at x letter) (at y letter) = ap (λ (x : Dual ℕ). x.inner) (shorter_value x y gx gy letter) in
      elim (cases_lt (at x letter) (at y letter)) [
        | inl first ↦ subst (λ v. (v ≡ 255) ⊎ Comes graph n letter v) (let s : at x letter ≡ at (shorter x y) letter = omega arith in s) (tx letter)
        | inr second ↦ subst (λ v. (v ≡ 255) ⊎ Comes graph n letter v) (let s : at y letter ≡ at (shorter x y) letter = omega arith in s) (ty letter)
      ]

  told_along : (n m : ℕ) (v : List (ℕ × Dual ℕ)) → Contains (sources_of graph n) m → IsTold graph m v → IsTold graph n v
  told_along n m v inner told letter = elim (told letter) [
    | inl none ↦ inl none
    | inr comes ↦ inr (comes.0, along m n inner comes.1, comes.2, comes.3)
  ]

  module _ (inside : IsGraph graph) where
    pub shortest_laws : IsSystem IsNames names_leq [] (length graph) (sources_of graph) (IsTold graph) (λ _. falls_left) (gather_at shorter (own_at graph) (sources_of graph))
    shortest_laws =
        gather_laws names_order IsGood (λ v good. good.0) shorter shorter_joins shorter_good (length graph) (sources_of graph) (λ n. inside n ([], [])) (own_at graph) (own_good graph) (IsTold graph) told_good (λ _. falls_left)
        (λ n below letter. inl refl)
        (λ n below. told_own n)
        told_shorter
        (λ n m v below. told_along n m v)
        (λ n x y below nx ny tx ty. falls x y (told_good n x nx tx) (told_good n y ny ty))

    pub shortest_evaluates : (n : ℕ) (values : List (List (ℕ × Dual ℕ))) → n < length graph → IsFitting IsNames (IsTold graph) (length graph) values → (mine : List (ℕ × Dual ℕ)) (places : List ℕ) (all : List (ℕ × Dual ℕ)) → mine ≡ own_at graph n → places ≡ sources_of graph n
        → IsGathered IsNames names_leq mine places (λ m. slice_index_or values m mine) all → all ≡ gather_at shorter (own_at graph) (sources_of graph) n values
    shortest_evaluates =
        gathered_at names_order IsGood (λ v good. good.0) shorter shorter_joins shorter_good (length graph) (sources_of graph) (λ n. inside n ([], [])) (own_at graph) (own_good graph) (IsTold graph) told_good

    pub shortest : (values : List (List (ℕ × Dual ℕ))) → IsSolution IsNames (IsTold graph) (length graph) (gather_at shorter (own_at graph) (sources_of graph)) values
        → (n letter : ℕ) (d : List (ℕ × Dual ℕ)) → n < length graph → IsShortest graph n letter (at (slice_index_or values n d) letter)
    shortest values s n letter d below =
        let v = slice_index_or values n d in
        record {
          told = s.fitting.fit n d below letter;
          least = λ other comes.
              let m = comes.0 in
              let under = led_above names_order IsGood (λ v good. good.0) shorter shorter_joins shorter_good (length graph) (sources_of graph) (λ n. inside n ([], [])) (own_at graph) (own_good graph) (IsTold graph) told_good values s m n comes.1 below d in
              let at_letter = below_at nat_cmp_total exact_unsigned upside_down (own_at graph m) v (s.fitting.value n d below) under letter in
              let own : at (own_at graph m) letter ≡ other = ap (at (own_at graph m)) (sym comes.2) ∙ own_is graph m ∙ comes.3 in
              grind (arith, nat_tests);
        }
