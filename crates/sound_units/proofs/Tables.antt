-- Names in lists without repetitions, and what tables tell of names when more is told.
use Rattle.std.proofs.Common.{◌≡◌, ℕ, zero, suc, Bool, true, false, cond, ◌&&◌, ◌||◌, Option, Some, None, List, [], ◌∷◌, ◌++◌, fold, map, flat_map, slice_get, refl, sym, ap, ◌∙◌, subst, is_some, if◌then◌else◌}
use Rattle.std.specs.List.{list_any}
use Rattle.std.specs.Cmp.Lexicographic.{same_text}
use Rattle.std.proofs.lemmas.Cmp.{nat_list_eq_equiv}
use Rattle.f77_names.specs.declared.occurrences.Manner.{Manner}
use Rattle.f77_values.specs.Tables.{Name, name_eq, is_among, with_name, distinct, what, Told, with_told, with_pair, with_first}
use Rattle.f77_names.specs.Occurrences.{Occurrences, is_manner, names_that}
use Rattle.sound_units.specs.Sites.{Each}
use Rattle.sound_units.proofs.Giving.{any_left, any_right, occurs_so}
use Rattle.sound_units.proofs.Lists.{any-append}

pub name_self : (name : Name) → name_eq name name ≡ true
name_self name = nat_list_eq_equiv.refl name

pub name_is : (a b : Name) → name_eq a b ≡ true → a ≡ b
name_is a b h = same_text a b (sym h)

pub some_is : {A : Type 0} (x y : A) → Some x ≡ Some y → x ≡ y
some_is x y e = cc

pub opposite : {A : Type 0} (b : Bool) → b ≡ true → b ≡ false → A
opposite true h k = cc
opposite false h k = cc

-- ---- lists

pub each_of : {A : Type 0} (P : A → Type 0) (xs : List A) → ((i : ℕ) (x : A) → slice_get xs i ≡ Some x → P x) → Each P xs
each_of P [] h = tt
each_of P (x ∷ xs) h = (h 0 x refl, each_of P xs (λ i y e. h (suc i) y e))

pub each_both : {A : Type 0} (P : A → Type 0) (xs ys : List A) → Each P xs → Each P ys → Each P (xs ++ ys)
each_both P [] ys h k = k
each_both P (x ∷ xs) ys h k = (h.0, each_both P xs ys h.1 k)

pub each_flat : {A B : Type 0} (P : B → Type 0) (g : A → List B) → ((x : A) → Each P (g x)) → (xs : List A) → Each P (flat_map g xs)
each_flat P g h [] = tt
each_flat P g h (x ∷ xs) = each_both P (g x) (flat_map g xs) (h x) (each_flat P g h xs)

pub each_map : {A B : Type 0} (P : B → Type 0) (g : A → B) → ((x : A) → P (g x)) → (xs : List A) → Each P (map g xs)
each_map P g h [] = tt
each_map P g h (x ∷ xs) = (h x, each_map P g h xs)

pub each_at : {A : Type 0} (P : A → Type 0) (xs : List A) (i : ℕ) (x : A) → Each P xs → slice_get xs i ≡ Some x → P x
each_at P [] i x h e = cc
each_at P (y ∷ xs) zero x h e = subst P (some_is y x e) h.0
each_at P (y ∷ xs) (suc i) x h e = each_at P xs i x h.1 e

-- none of a list passes a test that nothing with its property passes
pub none_of : {A : Type 0} (P : A → Type 0) (test : A → Bool) → ((x : A) → P x → test x ≡ false) → (xs : List A) → Each P xs → list_any test xs ≡ false
none_of P test fails [] h = refl
none_of P test fails (x ∷ xs) h = ap (λ b. b || list_any test xs) (fails x h.0) ∙ none_of P test fails xs h.1

pub any_here : {A : Type 0} (test : A → Bool) (xs : List A) (i : ℕ) (x : A) → slice_get xs i ≡ Some x → test x ≡ true → list_any test xs ≡ true
any_here test [] i x e h = cc
any_here test (y ∷ xs) zero x e h = any_left (test y) (list_any test xs) (ap test (some_is y x e) ∙ h)
any_here test (y ∷ xs) (suc i) x e h = any_right (test y) (list_any test xs) (any_here test xs i x e h)

pub any_flat : {A B : Type 0} (test : B → Bool) (g : A → List B) (xs : List A) (i : ℕ) (x : A) → slice_get xs i ≡ Some x → list_any test (g x) ≡ true → list_any test (flat_map g xs) ≡ true
any_flat test g [] i x e h = cc
any_flat test g (y ∷ xs) zero x e h = any-append test (g y) (flat_map g xs) ∙ any_left (list_any test (g y)) (list_any test (flat_map g xs)) (ap (λ y. list_any test (g y)) (some_is y x e) ∙ h)
any_flat test g (y ∷ xs) (suc i) x e h = any-append test (g y) (flat_map g xs) ∙ any_right (list_any test (g y)) (list_any test (flat_map g xs)) (any_flat test g xs i x e h)

-- ---- names, each once

pub among_stays : (known : List Name) (x name : Name) → is_among known name ≡ true → is_among (with_name known x) name ≡ true
among_stays known x name h = go (is_among known x)
  where
    go : (b : Bool) → is_among (if b then known else known ++ x ∷ []) name ≡ true
    go true = h
    go false = any-append (name_eq name) known (x ∷ []) ∙ any_left (is_among known name) (is_among (x ∷ []) name) h

pub among_last : (known : List Name) (x : Name) → is_among (with_name known x) x ≡ true
among_last known x = go (is_among known x) refl
  where
    go : (b : Bool) → is_among known x ≡ b → is_among (if b then known else known ++ x ∷ []) x ≡ true
    go true e = e
    go false e = any-append (name_eq x) known (x ∷ []) ∙ any_right (is_among known x) (is_among (x ∷ []) x) (any_left (name_eq x x) false (name_self x))

among_fold_stays : (xs known : List Name) (name : Name) → is_among known name ≡ true → is_among (fold with_name known xs) name ≡ true
among_fold_stays [] known name h = h
among_fold_stays (x ∷ xs) known name h = among_fold_stays xs (with_name known x) name (among_stays known x name h)

among_fold_comes : (xs known : List Name) (name : Name) → is_among xs name ≡ true → is_among (fold with_name known xs) name ≡ true
among_fold_comes [] known name h = cc
among_fold_comes (x ∷ xs) known name h = go (name_eq name x) refl h (among_fold_comes xs (with_name known x) name)
  where
    go : (b : Bool) → name_eq name x ≡ b → (b || is_among xs name) ≡ true → (is_among xs name ≡ true → is_among (fold with_name (with_name known x) xs) name ≡ true) → is_among (fold with_name (with_name known x) xs) name ≡ true
    go true e h rest = among_fold_stays xs (with_name known x) name (subst (λ n. is_among (with_name known x) n ≡ true) (sym (name_is name x e)) (among_last known x))
    go false e h rest = rest h

pub distinct_among : (xs : List Name) (name : Name) → is_among xs name ≡ true → is_among (distinct xs) name ≡ true
distinct_among xs name h = among_fold_comes xs [] name h

-- A name that occurs in a manner is among those that do.
pub names_among : (m : Manner) (name : Name) (all : Occurrences) → list_any (occurs_so m name) all ≡ true → is_among (names_that m all) name ≡ true
unfolding occurs_so
names_among m name [] h = h
names_among m name (o ∷ all) h = go (is_manner m o.manner) h (names_among m name all)
  where
    go : (b : Bool) → ((b && name_eq name o.name) || list_any (occurs_so m name) all) ≡ true → (list_any (occurs_so m name) all ≡ true → is_among (names_that m all) name ≡ true) → is_among ((if b then o.name ∷ [] else []) ++ names_that m all) name ≡ true
    go true h rest = split (name_eq name o.name) h
      where
        split : (c : Bool) → (c || list_any (occurs_so m name) all) ≡ true → (c || is_among (names_that m all) name) ≡ true
        split true h = refl
        split false h = rest h
    go false h rest = rest h

-- ---- what is told of names

-- What is told of another name leaves it.
pub told_other : {A : Type 0} (es : Told A) (k : Name) (v : A) (name : Name) → name_eq name k ≡ false → what (with_told es k v) name ≡ what es name
told_other [] k v name h = ap (λ b. cond b (Some v) None) h
told_other (e ∷ es) k v name h = go (name_eq k e.0) refl (told_other es k v name h)
  where
    go : (b : Bool) → name_eq k e.0 ≡ b → what (with_told es k v) name ≡ what es name → what (cond b ((e.0, v) ∷ es) (e ∷ with_told es k v)) name ≡ cond (name_eq name e.0) (Some e.1) (what es name)
    go true t rest =
        let no : name_eq name e.0 ≡ false = subst (λ n. name_eq name n ≡ false) (name_is k e.0 t) h in
        ap (λ b. cond b (Some v) (what es name)) no ∙ sym (ap (λ b. cond b (Some e.1) (what es name)) no)
    go false t rest = ap (λ o. cond (name_eq name e.0) (Some e.1) o) rest

pub told_same : {A : Type 0} (es : Told A) (k : Name) (v : A) → what (with_told es k v) k ≡ Some v
told_same [] k v = ap (λ b. cond b (Some v) None) (name_self k)
told_same (e ∷ es) k v = go (name_eq k e.0) refl (told_same es k v)
  where
    go : (b : Bool) → name_eq k e.0 ≡ b → what (with_told es k v) k ≡ Some v → what (cond b ((e.0, v) ∷ es) (e ∷ with_told es k v)) k ≡ Some v
    go true t rest = ap (λ b. cond b (Some v) (what es k)) t
    go false t rest = ap (λ b. cond b (Some e.1) (what (with_told es k v) k)) t ∙ rest

pub known : {A : Type 0} (o : Option A) → is_some o ≡ true → (x : A) × (o ≡ Some x)
known None h = cc
known (Some x) h = (x, refl)

-- ---- what holds of each that is told

module _ {A : Type 0} (Q : Name × A → Type 0) where
  pub told_one : (es : Told A) (k : Name) (v : A) → Each Q es → Q (k, v) → Each Q (with_told es k v)
  told_one [] k v h q = (q, tt)
  told_one (e ∷ es) k v h q = go (name_eq k e.0) refl (told_one es k v h.1 q)
    where
      go : (b : Bool) → name_eq k e.0 ≡ b → Each Q (with_told es k v) → Each Q (cond b ((e.0, v) ∷ es) (e ∷ with_told es k v))
      go true t rest = (subst (λ n. Q (n, v)) (same_text k e.0 (sym t)) q, h.1)
      go false t rest = (h.0, rest)

  pub told_each : (pairs : List (Name × A)) (es : Told A) → Each Q es → Each Q pairs → Each Q (fold with_pair es pairs)
  told_each [] es h k = h
  told_each (p ∷ pairs) es h k = told_each pairs (with_pair es p) (told_one es p.0 p.1 h k.0) k.1

  first_one : (es : Told A) (p : Name × A) → Each Q es → Q p → Each Q (with_first es p)
  first_one es p h q = go (is_some (what es p.0))
    where
      go : (b : Bool) → Each Q (if b then es else with_pair es p)
      go true = h
      go false = told_one es p.0 p.1 h q

  pub first_each : (pairs : List (Name × A)) (es : Told A) → Each Q es → Each Q pairs → Each Q (fold with_first es pairs)
  first_each [] es h k = h
  first_each (p ∷ pairs) es h k = first_each pairs (with_first es p) (first_one es p h k.0) k.1

  pub what_each : (es : Told A) (q : Name) (v : A) → Each Q es → what es q ≡ Some v → Q (q, v)
  what_each [] q v h e = cc
  what_each (x ∷ es) q v h e = go (name_eq q x.0) refl e (what_each es q v h.1)
    where
      go : (b : Bool) → name_eq q x.0 ≡ b → cond b (Some x.1) (what es q) ≡ Some v → (what es q ≡ Some v → Q (q, v)) → Q (q, v)
      go true t e rest = subst (λ v. Q (q, v)) (some_is x.1 v e) (subst (λ n. Q (n, x.1)) (sym (same_text q x.0 (sym t))) h.0)
      go false t e rest = rest e
