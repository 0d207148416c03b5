-- Where each run stands before the next one, no two have a unit in common.
use Rattle.std.proofs.Common.{◌≡◌, ℕ, ◌<◌, ◌≤◌, ◌+◌, ◌⊎◌, inl, inr, Bool, true, false, ◌&&◌, List, [], ◌∷◌, length, drop, get_or, ◌-◌, min, max, refl, ap, ap₂, sym, ◌∙◌, arith}
use Rattle.std.specs.Prelude.{nat_lt, nat_le}
use Rattle.std.specs.Ordering.{nat_cmp}
use Rattle.std.specs.Cmp.Lexicographic.{slice_cmp, nat_list_cmp_total, same_text}
use Rattle.std.specs.declared.cmp.Ordering.{Ordering}
use Rattle.std.specs.declared.cmp.Ordering.TheVariants.{Less, Equal, Greater}
use Rattle.std.proofs.lemmas.Bool.{false≢true}
use Rattle.std.proofs.lemmas.Bool.Decides.{nat_tests}
use Rattle.std.proofs.lemmas.List.{drop_more, length-drop}
use Rattle.std.proofs.lemmas.Cmp.{tied_itself, alike_right}
use Rattle.f77_values.specs.Tables.{Name, name_eq}
use Rattle.check_common.specs.declared.runs.Run.{Run}
use Rattle.check_common.specs.declared.initials.Initial.{Initial}
use Rattle.check_common.specs.declared.again.Again.{Again}
use Rattle.check_common.specs.Again.{end_of, overlap, IsAgain}
use Rattle.check_common.specs.Searching.{apart_by, is_apart, apart_from, all_apart}
use Rattle.check_common.proofs.Members.{In, in_of}

of_both : (p q : Bool) → (p && q) ≡ true → (p ≡ true) × (q ≡ true)
of_both true q h = (refl, h)
of_both false q h = absurd (false≢true h)

abbrev by_name : Name → Name → Ordering
by_name = slice_cmp nat_cmp

-- ---- runs

within : (af az bf bz cf : ℕ) → nat_le (af + az) bf ≡ true → nat_le (bf + bz) cf ≡ true → nat_le (af + az) cf ≡ true
within af az bf bz cf h k = grind (arith, nat_tests)

apart_then : (a b c : Run) → is_apart a b ≡ true → is_apart b c ≡ true → is_apart a c ≡ true
apart_then a b c h k = go (by_name a.block b.block) (by_name b.block c.block) refl refl
  where
    read : (x y : Run) (r : Ordering) → by_name x.block y.block ≡ r → is_apart x y ≡ apart_by r x y
    read x y r e = ap (λ s. apart_by s x y) e

    go : (r s : Ordering) → by_name a.block b.block ≡ r → by_name b.block c.block ≡ s → is_apart a c ≡ true
    go Greater s e f = absurd (false≢true (sym (read a b Greater e) ∙ h))
    go Less Greater e f = absurd (false≢true (sym (read b c Greater f) ∙ k))
    go Less Less e f = read a c Less (nat_list_cmp_total.trans a.block b.block c.block e f)
    go Less Equal e f = read a c Less (sym (alike_right nat_list_cmp_total b.block c.block a.block f) ∙ e)
    go Equal Greater e f = absurd (false≢true (sym (read b c Greater f) ∙ k))
    go Equal Less e f = read a c Less (nat_list_cmp_total.congr a.block b.block c.block e ∙ f)
    go Equal Equal e f =
        read a c Equal (nat_list_cmp_total.congr a.block b.block c.block e ∙ f)
        ∙ within a.from a.size b.from b.size c.from (sym (read a b Equal e) ∙ h) (sym (read b c Equal f) ∙ k)

-- A place stands before both ends where it stands before the nearer one.
pub before_both : (at m n : ℕ) → (nat_lt at m && nat_lt at n) ≡ nat_lt at (min m n)
before_both at m n = grind (arith, nat_tests)

pub ruleset shared = (before_both)

no_unit : (af az bf bz : ℕ) → nat_lt (max af bf) (min (af + az) (bf + bz)) ≡ true → nat_le (af + az) bf ≡ true → ⊥
no_unit af az bf bz h k = grind (arith, nat_tests)

no_unit_other : (af az bf bz : ℕ) → nat_lt (max af bf) (min (af + az) (bf + bz)) ≡ true → nat_le (bf + bz) af ≡ true → ⊥
no_unit_other af az bf bz h k = grind (arith, nat_tests)

same_block : (a b : Run) → name_eq a.block b.block ≡ true → a.block ≡ b.block
same_block a b h = same_text a.block b.block (sym h)

tied : (a b : Run) → a.block ≡ b.block → is_apart a b ≡ nat_le (end_of a) b.from
tied a b e = ap (λ r. apart_by r a b) (ap (by_name a.block) (sym e) ∙ tied_itself nat_list_cmp_total a.block)

apart_before : (a b : Run) → overlap a b ≡ true → is_apart a b ≡ true → ⊥
apart_before a b h k =
    let o = of_both (name_eq a.block b.block) (nat_lt (max a.from b.from) (min (end_of a) (end_of b))) h in
    no_unit a.from a.size b.from b.size o.1 (sym (tied a b (same_block a b o.0)) ∙ k)

apart_behind : (a b : Run) → overlap a b ≡ true → is_apart b a ≡ true → ⊥
apart_behind a b h k =
    let o = of_both (name_eq a.block b.block) (nat_lt (max a.from b.from) (min (end_of a) (end_of b))) h in
    no_unit_other a.from a.size b.from b.size o.1 (sym (tied b a (sym (same_block a b o.0))) ∙ k)

-- ---- all of them

apart_all : (x y : Initial) (xs : List Initial) → apart_from x xs ≡ true → In y xs → is_apart x.run y.run ≡ true
apart_all x y [] h i = absurd i
apart_all x y (z ∷ zs) h (inl e) = let b = of_both (is_apart x.run z.run) (apart_from z zs) h in ap (λ w. is_apart x.run w.run) (sym e) ∙ b.0
apart_all x y (z ∷ zs) h (inr i) =
    let b = of_both (is_apart x.run z.run) (apart_from z zs) h in apart_then x.run z.run y.run b.0 (apart_all z y zs b.1 i)

rest_apart : (x : Initial) (xs : List Initial) → apart_from x xs ≡ true → all_apart xs ≡ true
rest_apart x [] h = refl
rest_apart x (y ∷ ys) h = (of_both (is_apart x.run y.run) (apart_from y ys) h).1

apart_two : (x y : Initial) (xs : List Initial) → all_apart xs ≡ true → In x xs → In y xs → (x ≡ y) ⊎ ((is_apart x.run y.run ≡ true) ⊎ (is_apart y.run x.run ≡ true))
apart_two x y [] h i j = absurd i
apart_two x y (z ∷ zs) h (inl e) (inl f) = inl (sym e ∙ f)
apart_two x y (z ∷ zs) h (inl e) (inr j) = inr (inl (ap (λ w. is_apart w.run y.run) (sym e) ∙ apart_all z y zs h j))
apart_two x y (z ∷ zs) h (inr i) (inl f) = inr (inr (ap (λ w. is_apart w.run x.run) (sym f) ∙ apart_all z x zs h i))
apart_two x y (z ∷ zs) h (inr i) (inr j) = apart_two x y zs (rest_apart z zs h) i j

pub none_again : (all : List Initial) → all_apart all ≡ true → (again : Again) → IsAgain all again → ⊥
none_again all h again k = go (apart_two k.earlier k.later all h (in_of k.earlier all k.earlier_is) (in_of k.later all k.later_is))
  where
    go : (k.earlier ≡ k.later) ⊎ ((is_apart k.earlier.run k.later.run ≡ true) ⊎ (is_apart k.later.run k.earlier.run ≡ true)) → ⊥
    go (inl e) = let u = ap (λ x. x.unit) e in let l = k.order in omega arith
    go (inr (inl a)) = apart_before k.earlier.run k.later.run k.shared a
    go (inr (inr a)) = apart_behind k.earlier.run k.later.run k.shared a

-- ---- one by one

short_apart : (xs : List Initial) → length xs ≤ 1 → true ≡ all_apart xs
short_apart [] h = refl
short_apart (x ∷ []) h = refl
short_apart (x ∷ y ∷ ys) h = absurd (omega arith)

pub apart_end : (xs : List Initial) (k : ℕ) → length xs ≤ k → true ≡ all_apart (drop (k - 1) xs)
apart_end xs k h = let l = length-drop (k - 1) xs in short_apart (drop (k - 1) xs) (omega arith)

both_of : (p q : Bool) → p ≡ true → (p && q) ≡ q
both_of p q e = ap (λ b. b && q) e

two_apart : (xs : List Initial) (m : ℕ) (x y : Initial) → m + 1 < length xs → x ≡ get_or xs m x → y ≡ get_or xs (m + 1) y → all_apart (drop m xs) ≡ (is_apart x.run y.run && all_apart (drop (m + 1) xs))
two_apart xs m x y h e f =
    let rest : drop (m + 1) xs ≡ y ∷ drop (m + 1 + 1) xs = drop_more xs (m + 1) y h ∙ ap (λ z. z ∷ drop (m + 1 + 1) xs) (sym f) in
    ap all_apart (drop_more xs m x (omega arith) ∙ ap (λ z. z ∷ drop (m + 1) xs) (sym e))
    ∙ (ap (λ zs. all_apart (x ∷ zs)) rest ∙ ap (λ zs. is_apart x.run y.run && all_apart zs) (sym rest))

step_down : (k : ℕ) → 0 < k → (m : ℕ) × (k ≡ m + 1)
step_down k h = (k - 1, omega arith)

at_step : (xs : List Initial) (k m : ℕ) (x y : Initial) → k ≡ m + 1 → k < length xs → x ≡ get_or xs (k - 1) x → y ≡ get_or xs k y
    → all_apart (drop (k - 1) xs) ≡ (is_apart x.run y.run && all_apart (drop (k + 1 - 1) xs))
at_step xs k m x y d h e f =
    let a : k - 1 ≡ m = omega arith in
    let b : k + 1 - 1 ≡ m + 1 = omega arith in
    ap (λ n. all_apart (drop n xs)) a
    ∙ (two_apart xs m x y (omega arith) (e ∙ ap (λ n. get_or xs n x) a) (f ∙ ap (λ n. get_or xs n y) d)
    ∙ ap (λ n. is_apart x.run y.run && all_apart (drop n xs)) (sym b))

apart_step : (xs : List Initial) (k : ℕ) (x y : Initial) → 0 < k → k < length xs → x ≡ get_or xs (k - 1) x → y ≡ get_or xs k y
    → all_apart (drop (k - 1) xs) ≡ (is_apart x.run y.run && all_apart (drop (k + 1 - 1) xs))
apart_step xs k x y p h e f = let d = step_down k p in at_step xs k d.0 x y d.1 h e f

pub apart_more : (xs : List Initial) (k : ℕ) (x y : Initial) (t : Bool) → 0 < k → k < length xs → x ≡ get_or xs (k - 1) x → y ≡ get_or xs k y
    → true ≡ is_apart (get_or xs (k - 1) x).run (get_or xs k y).run → all_apart (drop (k - 1) xs) ≡ t → all_apart (drop (k + 1 - 1) xs) ≡ t
apart_more xs k x y t p h e f a i =
    let here : is_apart x.run y.run ≡ true = ap₂ (λ v w. is_apart v.run w.run) e f ∙ sym a in
    sym (both_of (is_apart x.run y.run) (all_apart (drop (k + 1 - 1) xs)) here) ∙ (sym (apart_step xs k x y p h e f) ∙ i)
