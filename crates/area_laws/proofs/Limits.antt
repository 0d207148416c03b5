-- The areas of a program within its limits are small, and each block is as large as each unit has it.
use Rattle.std.proofs.Common.{◌≡◌, ℕ, zero, suc, ◌<◌, ◌≤◌, max, Bool, true, false, cond, ◌||◌, Option, Some, None, List, [], ◌∷◌, map, flat_map, fold, sum_by, slice_get, refl, sym, ap, ◌∙◌, arith, unwrap_or, if◌then◌else◌, nat_lt}
use Rattle.std.specs.List.{list_any}
use Rattle.std.proofs.lemmas.Bool.Decides.{nat_tests}
use Rattle.std.proofs.lemmas.List.Sums.{sum_by-cons, fold-append}
use Rattle.f77_tree.specs.declared.unit.Unit.{Unit as SourceUnit}
use Rattle.f77_values.proofs.SameNames.{same_name}
use Rattle.f77_values.specs.Tables.{Name, name_eq, is_among, distinct, what, most}
use Rattle.f77_store.specs.Layouts.{blocks, local_size}
use Rattle.call_cycles.specs.Marks.{mark_at}
use Rattle.prog_check.specs.Limits.{most_storage, all_blocks, larger, largest, common_storage, storage}
use Rattle.prog_check.specs.ProgramFaults.{IsAccepted, limits, much_storage}
use Rattle.store_laws.proofs.Told.{name_self, distinct_among}
use Rattle.sound_units.proofs.Tables.{some_is}

-- ---- the largest of a block

grows : (b : Name) (xs : List (Name × ℕ)) (n : ℕ) → n ≤ fold (larger b) n xs
grows b [] n = omega arith
grows b (x ∷ xs) n = let h = grows b xs (larger b n x) in let l = at_least (name_eq x.0 b) in omega (arith, h, l)
  where
    at_least : (t : Bool) → n ≤ (if t then max n x.1 else n)
    at_least true = omega arith
    at_least false = omega arith

covers : (b : Name) (xs : List (Name × ℕ)) (start n : ℕ) → what xs b ≡ Some n → n ≤ fold (larger b) start xs
covers b [] start n h = cc
covers b (x ∷ xs) start n h = go (name_eq b x.0) refl h (covers b xs (larger b start x) n)
  where
    go : (t : Bool) → name_eq b x.0 ≡ t → cond t (Some x.1) (what xs b) ≡ Some n → (what xs b ≡ Some n → n ≤ fold (larger b) (larger b start x) xs) → n ≤ fold (larger b) (larger b start x) xs
    go true t h rest =
        let same : name_eq x.0 b ≡ true = ap (λ c. name_eq c b) (sym (same_name b x.0 t)) ∙ name_self b in
        let is : larger b start x ≡ max start x.1 = ap (λ t. if t then max start x.1 else start) same in
        let v : x.1 ≡ n = some_is x.1 n h in
        let g = grows b xs (larger b start x) in
        omega (arith, is, v, g)
    go false t h rest = rest h

within_all : (b : Name) (units : List SourceUnit) (k : ℕ) (u : SourceUnit) (start n : ℕ) → slice_get units k ≡ Some u → what (blocks u) b ≡ Some n → n ≤ fold (larger b) start (flat_map blocks units)
within_all b [] k u start n s h = cc
within_all b (v ∷ units) zero u start n s h =
    let e = fold-append (larger b) start (blocks v) (flat_map blocks units) in
    let g = grows b (flat_map blocks units) (fold (larger b) start (blocks v)) in
    let c = covers b (blocks v) start n (ap (λ v. what (blocks v) b) (some_is v u s) ∙ h) in
    omega (arith, e, g, c)
within_all b (v ∷ units) (suc k) u start n s h =
    let e = fold-append (larger b) start (blocks v) (flat_map blocks units) in
    let r = within_all b units k u (fold (larger b) start (blocks v)) n s h in
    omega (arith, e, r)

-- The block is at least as large as a unit has it.
pub block_le : (units : List SourceUnit) (k : ℕ) (u : SourceUnit) (b : Name) → slice_get units k ≡ Some u → unwrap_or (what (blocks u) b) 0 ≤ largest (all_blocks units) b
block_le units k u b s = go (what (blocks u) b) refl
  where
    go : (o : Option ℕ) → what (blocks u) b ≡ o → unwrap_or o 0 ≤ largest (all_blocks units) b
    go None e = omega arith
    go (Some n) e = within_all b units k u 0 n s e

-- ---- the whole storage

member_le : {A : Type 0} (f : A → ℕ) (xs : List A) (k : ℕ) (x : A) → slice_get xs k ≡ Some x → f x ≤ sum_by f xs
member_le f [] k x s = cc
member_le f (y ∷ xs) zero x s = let e = sum_by-cons f y xs in let v : f y ≡ f x = ap f (some_is y x s) in omega (arith, e, v)
member_le f (y ∷ xs) (suc k) x s = let e = sum_by-cons f y xs in let r = member_le f xs k x s in omega (arith, e, r)

among_le : (f : Name → ℕ) (names : List Name) (b : Name) → is_among names b ≡ true → f b ≤ sum_by f names
among_le f [] b h = cc
among_le f (n ∷ names) b h = go (name_eq b n) refl h (among_le f names b)
  where
    go : (t : Bool) → name_eq b n ≡ t → (t || is_among names b) ≡ true → (is_among names b ≡ true → f b ≤ sum_by f names) → f b ≤ sum_by f (n ∷ names)
    go true t h rest = let e = sum_by-cons f n names in let v : f b ≡ f n = ap f (same_name b n t) in omega (arith, e, v)
    go false t h rest = let e = sum_by-cons f n names in let r = rest h in omega (arith, e, r)

-- A block that no unit has takes no storage.
pub largest_zero : (b : Name) (xs : List (Name × ℕ)) (n : ℕ) → list_any (λ (x : Name × ℕ). name_eq b x.0) xs ≡ false → fold (larger b) n xs ≡ n
largest_zero b [] n h = refl
largest_zero b (x ∷ xs) n h = go (name_eq b x.0) refl h (largest_zero b xs n)
  where
    contra : {A : Type 0} → true ≡ false → A
    contra e = cc

    flipped : (t : Bool) → name_eq x.0 b ≡ t → name_eq b x.0 ≡ false → t ≡ false
    flipped true e f = contra (sym (ap (name_eq b) (same_name x.0 b e) ∙ name_self b) ∙ f)
    flipped false e f = refl

    go : (t : Bool) → name_eq b x.0 ≡ t → (t || list_any (λ (x : Name × ℕ). name_eq b x.0) xs) ≡ false → (list_any (λ (x : Name × ℕ). name_eq b x.0) xs ≡ false → fold (larger b) n xs ≡ n) → fold (larger b) (larger b n x) xs ≡ n
    go true t h rest = contra h
    go false t h rest = ap (λ s. fold (larger b) (if s then max n x.1 else n) xs) (flipped (name_eq x.0 b) refl t) ∙ rest h

pub any_names : (b : Name) (xs : List (Name × ℕ)) → list_any (λ (x : Name × ℕ). name_eq b x.0) xs ≡ true → is_among (map (λ (x : Name × ℕ). x.0) xs) b ≡ true
any_names b [] h = h
any_names b (x ∷ xs) h = go (name_eq b x.0) h (any_names b xs)
  where
    go : (t : Bool) → (t || list_any (λ (x : Name × ℕ). name_eq b x.0) xs) ≡ true → (list_any (λ (x : Name × ℕ). name_eq b x.0) xs ≡ true → is_among (map (λ (x : Name × ℕ). x.0) xs) b ≡ true) → (t || is_among (map (λ (x : Name × ℕ). x.0) xs) b) ≡ true
    go true h rest = refl
    go false h rest = rest h

largest_le : (all : List (Name × ℕ)) (b : Name) → largest all b ≤ common_storage all
largest_le all b = go (list_any (λ (x : Name × ℕ). name_eq b x.0) all) refl
  where
    go : (t : Bool) → list_any (λ (x : Name × ℕ). name_eq b x.0) all ≡ t → largest all b ≤ common_storage all
    go true t = among_le (largest all) (distinct (map (λ b. b.0) all)) b (distinct_among (map (λ b. b.0) all) b (any_names b all t))
    go false t = let e = largest_zero b all 0 t in omega (arith, e)

module _ (units : List SourceUnit) (accepted : IsAccepted units) where
  small : storage units ≤ most_storage
  small = go (nat_lt most_storage (storage units)) refl
    where
      go : (t : Bool) → nat_lt most_storage (storage units) ≡ t → storage units ≤ most_storage
      go true t = let much : most_storage < storage units = grind (arith, nat_tests, t) in absurd (accepted.none (mark_at 37 most_storage None 0) (limits (much_storage (record { much = much; mark_is = refl }))))
      go false t = grind (arith, nat_tests, t)

  pub local_counted : (k : ℕ) (u : SourceUnit) → slice_get units k ≡ Some u → local_size u < most
  local_counted k u s = let a = small in let l = member_le local_size units k u s in omega (arith, a, l)

  pub block_counted : (b : Name) → largest (all_blocks units) b < most
  block_counted b = let a = small in let l = largest_le (all_blocks units) b in omega (arith, a, l)
