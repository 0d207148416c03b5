-- What statements give to names, of which two that exclude each other are never given.
use Rattle.std.proofs.Common.{◌≡◌, ℕ, zero, suc, ◌<◌, ◌⊎◌, inl, inr, ⊎_elim, Bool, true, false, cond, ◌&&◌, ◌||◌, Some, List, [], ◌∷◌, ◌++◌, append_assoc, append-nil, flat_map, fold, slice_get, refl, sym, ap, ◌∙◌, subst, arith, if◌then◌else◌}
use Rattle.std.specs.List.{list_any}
use Rattle.std.specs.Cmp.Lexicographic.{same_text}
use Rattle.std.proofs.lemmas.List.Sums.{fold-append}
use Rattle.std.proofs.lemmas.Cmp.{nat_list_eq_equiv}
use Rattle.f77_tree.specs.declared.unit.Stmt.{Stmt}
use Rattle.f77_names.specs.declared.attributes.Attributes.{Attributes}
use Rattle.f77_names.specs.declared.occurrences.Manner.{Manner}
use Rattle.f77_names.specs.declared.occurrences.Manner.TheVariants as manner
use Rattle.f77_names.specs.declared.occurrences.Occurrence.{Occurrence}
use Rattle.f77_values.specs.Tables.{Name, name_eq, is_among, with_name, distinct}
use Rattle.f77_names.specs.Occurrences.{Occurrences, in_statement, is_manner, names_that}
use Rattle.check_names.specs.declared.attribute.Attribute.{Attribute}
use Rattle.check_names.specs.declared.attribute.Attribute.TheVariants.{ResultVariable, Dummy, Array, Constant, Subroutine, Procedure, Intrinsic, Function, Typed, Common, Item, Letter}
use Rattle.check_names.specs.declared.attribute.Given.{Given}
use Rattle.check_names.specs.declared.givings.Giving.{Giving}
use Rattle.check_names.specs.Exclusions.{nothing, has, with_attribute, is_excluded, conflicts, is_once}
use Rattle.check_names.specs.Givings.{Givings, by_manner, by_occurrence, gives_if}
use Rattle.check_names.specs.Conflicts.{with_giving, given_to, conflict_in}
use Rattle.check_names.specs.Places.{before}
use Rattle.sound_units.proofs.Lists.{or_left, or_right, both_true, any-append}

-- ---- attributes

unfoldable pub same : Attribute → Attribute → Bool
same ResultVariable ResultVariable = true
same Dummy Dummy = true
same Array Array = true
same Constant Constant = true
same Subroutine Subroutine = true
same Procedure Procedure = true
same Intrinsic Intrinsic = true
same Function Function = true
same Typed Typed = true
same Common Common = true
same Item Item = true
same Letter Letter = true
same _ _ = false

pub same_is : (a b : Attribute) → same a b ≡ true → a ≡ b
unfolding same
same_is ResultVariable ResultVariable h = refl
same_is Dummy Dummy h = refl
same_is Array Array h = refl
same_is Constant Constant h = refl
same_is Subroutine Subroutine h = refl
same_is Procedure Procedure h = refl
same_is Intrinsic Intrinsic h = refl
same_is Function Function h = refl
same_is Typed Typed h = refl
same_is Common Common h = refl
same_is Item Item h = refl
same_is Letter Letter h = refl
same_is a b h = cc

pub has_with : (g : Given) (a b : Attribute) → has (with_attribute g a) b ≡ (same a b || has g b)
unfolding same
has_with g ResultVariable ResultVariable = refl
has_with g ResultVariable b = refl
has_with g Dummy Dummy = refl
has_with g Dummy b = refl
has_with g Array Array = refl
has_with g Array b = refl
has_with g Constant Constant = refl
has_with g Constant b = refl
has_with g Subroutine Subroutine = refl
has_with g Subroutine b = refl
has_with g Procedure Procedure = refl
has_with g Procedure b = refl
has_with g Intrinsic Intrinsic = refl
has_with g Intrinsic b = refl
has_with g Function Function = refl
has_with g Function b = refl
has_with g Typed Typed = refl
has_with g Typed b = refl
has_with g Common Common = refl
has_with g Common b = refl
has_with g Item Item = refl
has_with g Item b = refl
has_with g Letter Letter = refl
has_with g Letter b = refl

pub same_self : (a : Attribute) → same a a ≡ true
unfolding same
same_self ResultVariable = refl
same_self a = refl

pub has_nothing : (a : Attribute) → has nothing a ≡ false
has_nothing ResultVariable = refl
has_nothing a = refl

pub or_true_right : (a : Bool) → (a || true) ≡ true
or_true_right true = refl
or_true_right false = refl

pub and_false_right : (a : Bool) → (a && false) ≡ false
and_false_right true = refl
and_false_right false = refl

-- ---- what excludes each other

module _ (P Q : Attribute) (apart : same P Q ≡ false) (apart' : same Q P ≡ false) (pq : (g : Given) → is_excluded g P ≡ false → has g Q ≡ false) (qp : (g : Given) → is_excluded g Q ≡ false → has g P ≡ false) where
  abbrev bad : Given → Bool
  bad g = has g P && has g Q

  -- the first of the two is given
  first_given : (g : Given) → bad g ≡ false → conflicts g P ≡ false → has g Q ≡ false
  first_given g h c = go (has g P) h c
    where
      go : (b : Bool) → (b && has g Q) ≡ false → (if b then is_once P else is_excluded g P) ≡ false → has g Q ≡ false
      go true h c = h
      go false h c = pq g c

  second_given : (g : Given) → bad g ≡ false → conflicts g Q ≡ false → has g P ≡ false
  second_given g h c = go (has g Q) (has g P) h c (qp g)
    where
      go : (b p : Bool) → (p && b) ≡ false → (if b then is_once Q else is_excluded g Q) ≡ false → (is_excluded g Q ≡ false → p ≡ false) → p ≡ false
      go true true h c k = h
      go true false h c k = refl
      go false p h c k = k c

  given_more : (g : Given) (a : Attribute) → bad g ≡ false → conflicts g a ≡ false → bad (with_attribute g a) ≡ false
  given_more g a h c = (λ i. has_with g a P i && has_with g a Q i) ∙ go (same a P) refl (same a Q) refl
    where
      go : (p : Bool) → same a P ≡ p → (q : Bool) → same a Q ≡ q → ((p || has g P) && (q || has g Q)) ≡ false
      go true e q f =
          let is : a ≡ P = same_is a P e in
          let other : q ≡ false = sym f ∙ (ap (λ a. same a Q) is ∙ apart) in
          ap (λ q. q || has g Q) other ∙ first_given g h (subst (λ a. conflicts g a ≡ false) is c)
      go false e true f =
          let is : a ≡ Q = same_is a Q f in
          ap (λ p. p && true) (second_given g h (subst (λ a. conflicts g a ≡ false) is c))
      go false e false f = h

  module _ (name : Name) where
    pub given_next : (earlier : Givings) (g : Giving) → given_to name (earlier ++ g ∷ []) ≡ with_giving name (given_to name earlier) g
    given_next earlier g = fold-append (with_giving name) nothing earlier (g ∷ [])

    one_given : (earlier : Givings) (g : Giving) → conflicts (given_to g.name earlier) g.attribute ≡ false → bad (given_to name earlier) ≡ false → bad (given_to name (earlier ++ g ∷ [])) ≡ false
    one_given earlier g c h = ap bad (given_next earlier g) ∙ go (name_eq g.name name) refl
      where
        go : (b : Bool) → name_eq g.name name ≡ b → bad (cond b (with_attribute (given_to name earlier) g.attribute) (given_to name earlier)) ≡ false
        go true e = given_more (given_to name earlier) g.attribute h (subst (λ n. conflicts (given_to n earlier) g.attribute ≡ false) (same_text g.name name (sym e)) c)
        go false e = h

    some_given : (gs earlier : Givings) → conflict_in earlier gs ≡ false → bad (given_to name earlier) ≡ false → bad (given_to name (earlier ++ gs)) ≡ false
    some_given [] earlier c h = ap (λ gs. bad (given_to name gs)) (append-nil earlier) ∙ h
    some_given (g ∷ gs) earlier c h =
        let one = one_given earlier g (or_left (conflicts (given_to g.name earlier) g.attribute) (conflict_in (earlier ++ g ∷ []) gs) c) h in
        ap (λ gs. bad (given_to name gs)) (sym (append_assoc earlier (g ∷ []) gs))
        ∙ some_given gs (earlier ++ g ∷ []) (or_right (conflicts (given_to g.name earlier) g.attribute) (conflict_in (earlier ++ g ∷ []) gs) c) one

    pub all_given : (at : ℕ → Givings) → ((k : ℕ) → conflict_in (before at k) (at k) ≡ false) → (n : ℕ) → bad (given_to name (before at n)) ≡ false
    all_given at none zero = ap (λ b. b && has nothing Q) (has_nothing P)
    all_given at none (suc n) = some_given (at n) (before at n) (none n) (all_given at none n)

-- ---- where names are given what they have

unfoldable pub gives_it : Attribute → Name → Giving → Bool
gives_it a name g = name_eq g.name name && same g.attribute a

pub given_has : (a : Attribute) (name : Name) (gs : Givings) (g0 : Given) → has g0 a ≡ true → has (fold (with_giving name) g0 gs) a ≡ true
given_has a name [] g0 h = h
given_has a name (g ∷ gs) g0 h = given_has a name gs (with_giving name g0 g) (go (name_eq g.name name))
  where
    go : (b : Bool) → has (cond b (with_attribute g0 g.attribute) g0) a ≡ true
    go true = has_with g0 g.attribute a ∙ (ap (λ b. same g.attribute a || b) h ∙ or_true_right (same g.attribute a))
    go false = h

pub given_somewhere : (a : Attribute) (name : Name) (gs : Givings) (g0 : Given) → list_any (gives_it a name) gs ≡ true → has (fold (with_giving name) g0 gs) a ≡ true
unfolding gives_it
given_somewhere a name [] g0 h = cc
given_somewhere a name (g ∷ gs) g0 h = go (name_eq g.name name) refl (same g.attribute a) refl h (given_somewhere a name gs)
  where
    go : (b : Bool) → name_eq g.name name ≡ b → (c : Bool) → same g.attribute a ≡ c → ((b && c) || list_any (gives_it a name) gs) ≡ true
        → ((g0 : Given) → list_any (gives_it a name) gs ≡ true → has (fold (with_giving name) g0 gs) a ≡ true) → has (fold (with_giving name) (cond b (with_attribute g0 g.attribute) g0) gs) a ≡ true
    go true e true f h rest = given_has a name gs (with_attribute g0 g.attribute) (has_with g0 g.attribute a ∙ ap (λ b. b || has g0 a) f)
    go true e false f h rest = rest (with_attribute g0 g.attribute) h
    go false e c f h rest = rest g0 h

pub any_left : (a b : Bool) → a ≡ true → (a || b) ≡ true
any_left a b h = ap (λ a. a || b) h

pub any_right : (a b : Bool) → b ≡ true → (a || b) ≡ true
any_right a b h = ap (λ b. a || b) h ∙ or_true_right a

pub below_suc : (k n : ℕ) → k < suc n → (k ≡ n) ⊎ (k < n)
below_suc zero zero l = inl refl
below_suc zero (suc n) l = inr (omega arith)
below_suc (suc k) zero l = absurd (omega arith)
below_suc (suc k) (suc n) l = ⊎_elim (λ e. inl (ap suc e)) (λ m. inr (omega arith)) (below_suc k n (omega arith))

pub before_any : {A : Type 0} (test : A → Bool) (at : ℕ → List A) (n k : ℕ) → k < n → list_any test (at k) ≡ true → list_any test (before at n) ≡ true
before_any test at zero k l h = absurd (omega arith)
before_any test at (suc n) k l h =
    any-append test (before at n) (at n)
    ∙ ⊎_elim (λ e. any_right (list_any test (before at n)) (list_any test (at n)) (subst (λ k. list_any test (at k) ≡ true) e h))
    (λ m. any_left (list_any test (before at n)) (list_any test (at n)) (before_any test at n k m h)) (below_suc k n l)

-- what was given stays given
pub given_stays : (A : Attribute) (name : Name) (earlier gs : Givings) → has (given_to name earlier) A ≡ true → has (given_to name (earlier ++ gs)) A ≡ true
given_stays A name earlier gs h = ap (λ x. has x A) (fold-append (with_giving name) nothing earlier gs) ∙ given_has A name gs (given_to name earlier) h

-- What is given once isn't given again.
pub given_once : (A : Attribute) (name : Name) → is_once A ≡ true → (gs earlier : Givings) → has (given_to name earlier) A ≡ true → list_any (gives_it A name) gs ≡ true → conflict_in earlier gs ≡ false → ⊥
unfolding gives_it
given_once A name one [] earlier h k c = cc
given_once A name one (g ∷ gs) earlier h k c =
    go (name_eq g.name name && same g.attribute A) refl k (λ k. given_once A name one gs (earlier ++ g ∷ []) (given_stays A name earlier (g ∷ []) h) k (or_right (conflicts (given_to g.name earlier) g.attribute) (conflict_in (earlier ++ g ∷ []) gs) c))
  where
    again : (b : Bool) → b ≡ true → (if b then is_once A else is_excluded (given_to name earlier) A) ≡ true
    again true h = one
    again false h = cc

    contra : true ≡ false → ⊥
    contra e = cc

    here : g.name ≡ name → g.attribute ≡ A → ⊥
    here n a =
        let no : conflicts (given_to g.name earlier) g.attribute ≡ false = or_left (conflicts (given_to g.name earlier) g.attribute) (conflict_in (earlier ++ g ∷ []) gs) c in
        let same_one : conflicts (given_to g.name earlier) g.attribute ≡ conflicts (given_to name earlier) A = λ i. conflicts (given_to (n i) earlier) (a i) in
        contra (sym (same_one ∙ again (has (given_to name earlier) A) h) ∙ no)

    go : (b : Bool) → (name_eq g.name name && same g.attribute A) ≡ b → (b || list_any (gives_it A name) gs) ≡ true → (list_any (gives_it A name) gs ≡ true → ⊥) → ⊥
    go true e k rest = let x = both_true (name_eq g.name name) (same g.attribute A) e in here (same_text g.name name (sym x.0)) (same_is g.attribute A x.1)
    go false e k rest = rest k

-- ---- how names occur

-- this name in this manner
unfoldable pub occurs_so : Manner → Name → Occurrence → Bool
occurs_so m name o = is_manner m o.manner && name_eq name o.name

pub manner_is : (a b : Manner) → is_manner a b ≡ true → a ≡ b
manner_is manner.ResultName manner.ResultName h = refl
manner_is manner.Dummy manner.Dummy h = refl
manner_is manner.Dimensioned manner.Dimensioned h = refl
manner_is manner.Defined manner.Defined h = refl
manner_is manner.External manner.External h = refl
manner_is manner.Intrinsic manner.Intrinsic h = refl
manner_is manner.Called manner.Called h = refl
manner_is manner.Listed manner.Listed h = refl
manner_is manner.Plain manner.Plain h = refl
manner_is a b h = cc

pub among_more : (known : List Name) (x name : Name) → is_among (with_name known x) name ≡ true → (is_among known name ≡ true) ⊎ (name_eq name x ≡ true)
among_more known x name h = go (is_among known x) h
  where
    go : (b : Bool) → is_among (if b then known else known ++ x ∷ []) name ≡ true → (is_among known name ≡ true) ⊎ (name_eq name x ≡ true)
    go true h = inl h
    go false h = split (is_among known name) refl (sym (any-append (name_eq name) known (x ∷ [])) ∙ h)
      where
        split : (b : Bool) → is_among known name ≡ b → (is_among known name || (name_eq name x || false)) ≡ true → (is_among known name ≡ true) ⊎ (name_eq name x ≡ true)
        split true e h = inl e
        split false e h = inr (last (name_eq name x) (sym (ap (λ b. b || (name_eq name x || false)) e) ∙ h))
          where
            last : (b : Bool) → (b || false) ≡ true → b ≡ true
            last true h = refl
            last false h = h

pub among_fold : (xs known : List Name) (name : Name) → is_among (fold with_name known xs) name ≡ true → (is_among known name ≡ true) ⊎ (is_among xs name ≡ true)
among_fold [] known name h = inl h
among_fold (x ∷ xs) known name h =
    ⊎_elim (λ e. ⊎_elim (λ k. inl k) (λ k. inr (any_left (name_eq name x) (is_among xs name) k)) (among_more known x name e))
    (λ e. inr (any_right (name_eq name x) (is_among xs name) e)) (among_fold xs (with_name known x) name h)

pub among_distinct : (xs : List Name) (name : Name) → is_among (distinct xs) name ≡ true → is_among xs name ≡ true
among_distinct xs name h = ⊎_elim (λ e. absurd (contra e)) (λ e. e) (among_fold xs [] name h)
  where
    contra : false ≡ true → ⊥
    contra e = cc

pub among_names : (m : Manner) (name : Name) (all : Occurrences) → is_among (names_that m all) name ≡ true → list_any (occurs_so m name) all ≡ true
unfolding occurs_so
among_names m name [] h = h
among_names m name (o ∷ all) h = go (is_manner m o.manner) h (among_names m name all)
  where
    go : (b : Bool) → is_among ((if b then o.name ∷ [] else []) ++ names_that m all) name ≡ true → (is_among (names_that m all) name ≡ true → list_any (occurs_so m name) all ≡ true) → ((b && name_eq name o.name) || list_any (occurs_so m name) all) ≡ true
    go true h rest = split (name_eq name o.name) h
      where
        split : (c : Bool) → (c || is_among (names_that m all) name) ≡ true → (c || list_any (occurs_so m name) all) ≡ true
        split true h = refl
        split false h = rest h
    go false h rest = rest h

pub record Place (test : Occurrence → Bool) (ss : List Stmt) : Type 0 where
  pub at : ℕ
  pub statement : Stmt
  pub stands : slice_get ss at ≡ Some statement
  pub has_it : list_any test (in_statement statement) ≡ true

pub placed_in : (test : Occurrence → Bool) (ss : List Stmt) → list_any test (flat_map in_statement ss) ≡ true → Place test ss
placed_in test [] h = cc
placed_in test (s ∷ ss) h = go (list_any test (in_statement s)) refl (sym (any-append test (in_statement s) (flat_map in_statement ss)) ∙ h) (placed_in test ss)
  where
    go : (b : Bool) → list_any test (in_statement s) ≡ b → (list_any test (in_statement s) || list_any test (flat_map in_statement ss)) ≡ true → (list_any test (flat_map in_statement ss) ≡ true → Place test ss) → Place test (s ∷ ss)
    go true e h rest = record { at = 0; statement = s; stands = refl; has_it = e }
    go false e h rest =
        let x : Place test ss = rest (sym (ap (λ b. b || list_any test (flat_map in_statement ss)) e) ∙ h) in
        record { at = suc x.at; statement = x.statement; stands = x.stands; has_it = x.has_it }

-- what an occurrence gives
pub given_by_name : (a : Attributes) (m : Manner) (name : Name) (A : Attribute) → by_manner a m name ≡ Some A → (all : Occurrences) → list_any (occurs_so m name) all ≡ true → list_any (gives_it A name) (flat_map (by_occurrence a) all) ≡ true
unfolding occurs_so gives_it
given_by_name a m name A g [] h = cc
given_by_name a m name A g (o ∷ all) h =
    any-append (gives_it A name) (by_occurrence a o) (flat_map (by_occurrence a) all)
    ∙ go (is_manner m o.manner) refl (name_eq name o.name) refl h (given_by_name a m name A g all)
  where
    itself : list_any (gives_it A name) (gives_if name (Some A)) ≡ true
    itself = ap (λ b. (b && same A A) || false) (nat_list_eq_equiv.refl name) ∙ ap (λ b. b || false) (same_self A)

    go : (b : Bool) → is_manner m o.manner ≡ b → (c : Bool) → name_eq name o.name ≡ c → ((b && c) || list_any (occurs_so m name) all) ≡ true → (list_any (occurs_so m name) all ≡ true → list_any (gives_it A name) (flat_map (by_occurrence a) all) ≡ true)
        → (list_any (gives_it A name) (by_occurrence a o) || list_any (gives_it A name) (flat_map (by_occurrence a) all)) ≡ true
    go true e true f h rest =
        let same_manner : m ≡ o.manner = manner_is m o.manner e in
        let same_name : name ≡ o.name = same_text name o.name (sym f) in
        let here : list_any (gives_it A name) (gives_if o.name (by_manner a o.manner o.name)) ≡ true = subst (λ n. list_any (gives_it A name) (gives_if n (by_manner a o.manner n)) ≡ true) same_name (subst (λ m. list_any (gives_it A name) (gives_if name (by_manner a m name)) ≡ true) same_manner (ap (λ x. list_any (gives_it A name) (gives_if name x)) g ∙ itself)) in
        any_left (list_any (gives_it A name) (by_occurrence a o)) (list_any (gives_it A name) (flat_map (by_occurrence a) all)) here
    go true e false f h rest = any_right (list_any (gives_it A name) (by_occurrence a o)) (list_any (gives_it A name) (flat_map (by_occurrence a) all)) (rest h)
    go false e c f h rest = any_right (list_any (gives_it A name) (by_occurrence a o)) (list_any (gives_it A name) (flat_map (by_occurrence a) all)) (rest h)
