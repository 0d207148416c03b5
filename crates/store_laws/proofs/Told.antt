-- What holds of each thing that is told of names holds of what a table tells, and each name that is told of is in the table.
use Rattle.std.proofs.Common.{◌≡◌, Bool, true, false, cond, ◌||◌, Some, None, List, [], ◌∷◌, ◌++◌, fold, refl, sym, ap, ◌∙◌, subst, is_some, if◌then◌else◌}
use Rattle.std.specs.List.{list_any}
use Rattle.std.specs.Cmp.Lexicographic.{same_text}
use Rattle.std.proofs.lemmas.Cmp.{nat_list_eq_equiv}
use Rattle.f77_values.proofs.SameNames.{same_name}
use Rattle.f77_values.specs.Tables.{Name, name_eq, is_among, with_name, distinct, what, Told, with_told, with_pair, with_first}
use Rattle.store_laws.proofs.Lists.{Each, any-append}

pub name_self : (name : Name) → name_eq name name ≡ true
name_self name = nat_list_eq_equiv.refl name

some_is : {A : Type 0} (x y : A) → Some x ≡ Some y → x ≡ y
some_is x y e = cc

module _ {A : Type 0} (Q : Name × A → Type 0) where
  told_one : (es : Told A) (k : Name) (v : A) → Each Q es → Q (k, v) → Each Q (with_told es k v)
  told_one [] k v h q = (q, tt)
  told_one (e ∷ es) k v h q = go (name_eq k e.0) refl (told_one es k v h.1 q)
    where
      go : (b : Bool) → name_eq k e.0 ≡ b → Each Q (with_told es k v) → Each Q (cond b ((e.0, v) ∷ es) (e ∷ with_told es k v))
      go true t rest = (subst (λ n. Q (n, v)) (same_text k e.0 (sym t)) q, h.1)
      go false t rest = (h.0, rest)

  pub told_each : (pairs : List (Name × A)) (es : Told A) → Each Q es → Each Q pairs → Each Q (fold with_pair es pairs)
  told_each [] es h k = h
  told_each (p ∷ pairs) es h k = told_each pairs (with_pair es p) (told_one es p.0 p.1 h k.0) k.1

  first_one : (es : Told A) (p : Name × A) → Each Q es → Q p → Each Q (with_first es p)
  first_one es p h q = go (is_some (what es p.0))
    where
      go : (b : Bool) → Each Q (if b then es else with_pair es p)
      go true = h
      go false = told_one es p.0 p.1 h q

  pub first_each : (pairs : List (Name × A)) (es : Told A) → Each Q es → Each Q pairs → Each Q (fold with_first es pairs)
  first_each [] es h k = h
  first_each (p ∷ pairs) es h k = first_each pairs (with_first es p) (first_one es p h k.0) k.1

  pub what_each : (es : Told A) (q : Name) (v : A) → Each Q es → what es q ≡ Some v → Q (q, v)
  what_each [] q v h e = cc
  what_each (x ∷ es) q v h e = go (name_eq q x.0) refl e (what_each es q v h.1)
    where
      go : (b : Bool) → name_eq q x.0 ≡ b → cond b (Some x.1) (what es q) ≡ Some v → (what es q ≡ Some v → Q (q, v)) → Q (q, v)
      go true t e rest = subst (λ v. Q (q, v)) (some_is x.1 v e) (subst (λ n. Q (n, x.1)) (sym (same_text q x.0 (sym t))) h.0)
      go false t e rest = rest e

-- ---- names that are told of

told_other : {A : Type 0} (es : Told A) (k : Name) (v : A) (name : Name) → is_some (what es name) ≡ true → is_some (what (with_told es k v) name) ≡ true
told_other [] k v name h = cc
told_other (e ∷ es) k v name h = go (name_eq k e.0) refl (name_eq name e.0) refl (told_other es k v name)
  where
    go : (b : Bool) → name_eq k e.0 ≡ b → (c : Bool) → name_eq name e.0 ≡ c → (is_some (what es name) ≡ true → is_some (what (with_told es k v) name) ≡ true) → is_some (what (cond b ((e.0, v) ∷ es) (e ∷ with_told es k v)) name) ≡ true
    go true t true s rest = ap (λ c. is_some (cond c (Some v) (what es name))) s
    go true t false s rest = ap (λ c. is_some (cond c (Some v) (what es name))) s ∙ (sym (ap (λ c. is_some (cond c (Some e.1) (what es name))) s) ∙ h)
    go false t true s rest = ap (λ c. is_some (cond c (Some e.1) (what (with_told es k v) name))) s
    go false t false s rest = ap (λ c. is_some (cond c (Some e.1) (what (with_told es k v) name))) s ∙ rest (sym (ap (λ c. is_some (cond c (Some e.1) (what es name))) s) ∙ h)

told_this : {A : Type 0} (es : Told A) (k : Name) (v : A) → is_some (what (with_told es k v) k) ≡ true
told_this [] k v = ap (λ b. is_some (cond b (Some v) None)) (name_self k)
told_this (e ∷ es) k v = go (name_eq k e.0) refl (told_this es k v)
  where
    go : (b : Bool) → name_eq k e.0 ≡ b → is_some (what (with_told es k v) k) ≡ true → is_some (what (cond b ((e.0, v) ∷ es) (e ∷ with_told es k v)) k) ≡ true
    go true t rest = ap (λ b. is_some (cond b (Some v) (what es k))) t
    go false t rest = ap (λ b. is_some (cond b (Some e.1) (what (with_told es k v) k))) t ∙ rest

told_stays : {A : Type 0} (pairs : List (Name × A)) (es : Told A) (name : Name) → is_some (what es name) ≡ true → is_some (what (fold with_pair es pairs) name) ≡ true
told_stays [] es name h = h
told_stays (p ∷ pairs) es name h = told_stays pairs (with_pair es p) name (told_other es p.0 p.1 name h)

pub told_comes : {A : Type 0} (pairs : List (Name × A)) (es : Told A) (name : Name) → list_any (λ p. name_eq name p.0) pairs ≡ true → is_some (what (fold with_pair es pairs) name) ≡ true
told_comes [] es name h = cc
told_comes (p ∷ pairs) es name h = go (name_eq name p.0) refl h (told_comes pairs (with_pair es p) name)
  where
    go : (b : Bool) → name_eq name p.0 ≡ b → (b || list_any (λ p. name_eq name p.0) pairs) ≡ true → (list_any (λ p. name_eq name p.0) pairs ≡ true → is_some (what (fold with_pair (with_pair es p) pairs) name) ≡ true) → is_some (what (fold with_pair (with_pair es p) pairs) name) ≡ true
    go true e h rest = told_stays pairs (with_pair es p) name (subst (λ n. is_some (what (with_pair es p) n) ≡ true) (sym (same_name name p.0 e)) (told_this es p.0 p.1))
    go false e h rest = rest h

-- ---- names, each once

any_left : (a b : Bool) → a ≡ true → (a || b) ≡ true
any_left true b h = refl
any_left false b h = cc

any_right : (a b : Bool) → b ≡ true → (a || b) ≡ true
any_right true b h = refl
any_right false b h = h

among_stays : (known : List Name) (x name : Name) → is_among known name ≡ true → is_among (with_name known x) name ≡ true
among_stays known x name h = go (is_among known x)
  where
    go : (b : Bool) → is_among (if b then known else known ++ x ∷ []) name ≡ true
    go true = h
    go false = any-append (name_eq name) known (x ∷ []) ∙ any_left (is_among known name) (is_among (x ∷ []) name) h

among_last : (known : List Name) (x : Name) → is_among (with_name known x) x ≡ true
among_last known x = go (is_among known x) refl
  where
    go : (b : Bool) → is_among known x ≡ b → is_among (if b then known else known ++ x ∷ []) x ≡ true
    go true e = e
    go false e = any-append (name_eq x) known (x ∷ []) ∙ any_right (is_among known x) (is_among (x ∷ []) x) (any_left (name_eq x x) false (name_self x))

among_fold_stays : (xs known : List Name) (name : Name) → is_among known name ≡ true → is_among (fold with_name known xs) name ≡ true
among_fold_stays [] known name h = h
among_fold_stays (x ∷ xs) known name h = among_fold_stays xs (with_name known x) name (among_stays known x name h)

among_fold_comes : (xs known : List Name) (name : Name) → is_among xs name ≡ true → is_among (fold with_name known xs) name ≡ true
among_fold_comes [] known name h = cc
among_fold_comes (x ∷ xs) known name h = go (name_eq name x) refl h (among_fold_comes xs (with_name known x) name)
  where
    go : (b : Bool) → name_eq name x ≡ b → (b || is_among xs name) ≡ true → (is_among xs name ≡ true → is_among (fold with_name (with_name known x) xs) name ≡ true) → is_among (fold with_name (with_name known x) xs) name ≡ true
    go true e h rest = among_fold_stays xs (with_name known x) name (subst (λ n. is_among (with_name known x) n ≡ true) (sym (same_name name x e)) (among_last known x))
    go false e h rest = rest h

pub distinct_among : (xs : List Name) (name : Name) → is_among xs name ≡ true → is_among (distinct xs) name ≡ true
distinct_among xs name h = among_fold_comes xs [] name h
