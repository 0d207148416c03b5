-- The list of what may begin after a statement has exactly the statements that may follow it.
use Rattle.std.proofs.Common.{◌≡◌, ℕ, zero, suc, ◌||◌, ◌⊎◌, inl, inr, ⊎_elim, Bool, true, false, cond, nat_eq, None, Some, List, [], ◌∷◌, ◌++◌, slice_get, refl, sym, ◌∙◌, ap, subst, arith}
use Rattle.std.specs.List.{list_any, fold}
use Rattle.std.proofs.lemmas.List.Folds.{list_any-append}
use Rattle.std.proofs.lemmas.Bool.Decides.{nat_tests}
use Rattle.f77_tree.specs.declared.unit.Stmt.{Stmt}
use Rattle.f77_flow.specs.Graph.{Point, At, Inside, Test, Advance, follow}
use Rattle.f77_flow.specs.Next as n
use Rattle.f77_flow.specs.Next.{IsBetween, Begin, EachBegins, Leads, MayFollow, HasFollowers, add_once, IsNext}

abbrev has : ℕ → List ℕ → Bool
has j js = list_any (nat_eq j) js

or_false : (b : Bool) → (b || false) ≡ b
or_false true = refl
or_false false = refl

or_cases : (a b : Bool) → (a || b) ≡ true → (a ≡ true) ⊎ (b ≡ true)
or_cases true b h = inl refl
or_cases false b h = inr h

or_left : (a b : Bool) → a ≡ true → (a || b) ≡ true
or_left a b h = ap (λ x. x || b) h

or_right : (a b : Bool) → b ≡ true → (a || b) ≡ true
or_right true b h = refl
or_right false b h = h

is_same : (j k : ℕ) → nat_eq j k ≡ true → j ≡ k
is_same j k h = grind (arith, nat_tests)

same_is : (j k : ℕ) → j ≡ k → nat_eq j k ≡ true
same_is j k h = grind (arith, nat_tests)

some_is : {p q : Point} → Some p ≡ Some q → p ≡ q
some_is e = cc

-- one of some points leads to j
record One (u : List Stmt) (j : ℕ) (ps : List Point) : Type 0 where
  point : Point
  way : ℕ
  among : slice_get ps way ≡ Some point
  leads : Leads u j point

later : (u : List Stmt) (j : ℕ) (p : Point) (ps qs : List Point) → qs ≡ p ∷ ps → One u j ps → One u j qs
later u j p ps qs e one = record { point = one.point; way = suc one.way; among = ap (λ xs. slice_get xs (suc one.way)) e ∙ one.among; leads = one.leads }

here : (u : List Stmt) (j : ℕ) (p : Point) (ps qs : List Point) → qs ≡ p ∷ ps → Leads u j p → One u j qs
here u j p ps qs e leads = record { point = p; way = 0; among = ap (λ xs. slice_get xs 0) e; leads = leads }

mutual
  sound : (u : List Stmt) (j : ℕ) (p : Point) (js : List ℕ) → Begin u p js → has j js ≡ true → Leads u j p
  sound u j p js (n.at k at is) h = n.begins (at ∙ ap At (sym (is_same j k (sym (or_false (nat_eq j k)) ∙ (sym (ap (has j) is) ∙ h)))))
  sound u j p js (n.between between each) h = let one = each_sound u j (follow u p) js each h in n.goes one.way between one.among one.leads

  each_sound : (u : List Stmt) (j : ℕ) (ps : List Point) (js : List ℕ) → EachBegins u ps js → has j js ≡ true → One u j ps
  each_sound u j ps js (n.done none empty) h = let no : false ≡ true = sym (ap (has j) empty) ∙ h in cc
  each_sound u j ps js (n.more {qs = qs} {is = is} {ks = ks} {p = p} front begin others all) h =
      ⊎_elim (λ (first : has j is ≡ true). here u j p qs ps front (sound u j p is begin first))
      (λ (rest : has j ks ≡ true). later u j p qs ps front (each_sound u j qs ks others rest))
      (or_cases (has j is) (has j ks) (sym (list_any-append (nat_eq j) is ks) ∙ (sym (ap (has j) all) ∙ h)))

passes : (u : List Stmt) (j : ℕ) (p : Point) → Leads u j p → IsBetween p → One u j (follow u p)
passes u j p (n.begins at) between = absurd (subst IsBetween at between)
passes u j p (n.goes {q = q} way _ among leads) between = record { point = q; way = way; among = among; leads = leads }

point_number : Point → ℕ
point_number (At k) = k
point_number (Inside k) = k
point_number (Test d) = d
point_number (Advance d) = d

stays : (u : List Stmt) (j k : ℕ) (p : Point) → Leads u j p → p ≡ At k → j ≡ k
unfolding point_number
stays u j k p (n.begins at) e = ap point_number (sym at ∙ e)
stays u j k p (n.goes way between among leads) e = absurd (subst IsBetween e between)

mutual
  complete : (u : List Stmt) (j : ℕ) (p : Point) (js : List ℕ) → Begin u p js → Leads u j p → has j js ≡ true
  complete u j p js (n.at k at is) leads = ap (has j) is ∙ (or_false (nat_eq j k) ∙ same_is j k (stays u j k p leads at))
  complete u j p js (n.between between each) leads = let one = passes u j p leads between in each_complete u j (follow u p) js each one.way one.point one.among one.leads

  each_complete : (u : List Stmt) (j : ℕ) (ps : List Point) (js : List ℕ) → EachBegins u ps js → (way : ℕ) (q : Point) → slice_get ps way ≡ Some q → Leads u j q → has j js ≡ true
  each_complete u j ps js (n.done none empty) way q among leads = let no : None ≡ Some q = sym (ap (λ xs. slice_get xs way) none) ∙ among in cc
  each_complete u j ps js (n.more {qs = qs} {is = is} {ks = ks} {p = p} front begin others all) zero q among leads =
      let same : p ≡ q = some_is (sym (ap (λ xs. slice_get xs 0) front) ∙ among) in
      ap (has j) all ∙ (list_any-append (nat_eq j) is ks ∙ or_left (has j is) (has j ks) (complete u j p is begin (subst (Leads u j) (sym same) leads)))
  each_complete u j ps js (n.more {qs = qs} {is = is} {ks = ks} {p = p} front begin others all) (suc way) q among leads =
      ap (has j) all ∙ (list_any-append (nat_eq j) is ks ∙ or_right (has j is) (has j ks) (each_complete u j qs ks others way q (sym (ap (λ xs. slice_get xs (suc way)) front) ∙ among) leads))

or_assoc : (a b c : Bool) → ((a || b) || c) ≡ (a || (b || c))
or_assoc true b c = refl
or_assoc false b c = refl

absorbs : (a b : Bool) → (b ≡ true → a ≡ true) → (a || b) ≡ a
absorbs true b h = refl
absorbs false true h = sym (h refl)
absorbs false false h = refl

has_add : (j k : ℕ) (js : List ℕ) (b : Bool) → has k js ≡ b → has j (cond b js (js ++ k ∷ [])) ≡ (has j js || nat_eq j k)
has_add j k js true e = sym (absorbs (has j js) (nat_eq j k) (λ same. subst (λ i. has i js ≡ true) (sym (is_same j k same)) e))
has_add j k js false e = list_any-append (nat_eq j) js (k ∷ []) ∙ ap (λ b. has j js || b) (or_false (nat_eq j k))

has_once : (j : ℕ) (js ks : List ℕ) → has j (fold add_once js ks) ≡ (has j js || has j ks)
has_once j js [] = sym (or_false (has j js))
has_once j js (k ∷ ks) = has_once j (add_once js k) ks ∙ (ap (λ b. b || has j ks) (has_add j k js (has k js) refl) ∙ or_assoc (has j js) (nat_eq j k) (has j ks))

pub followers : (u : List Stmt) (k : ℕ) (js : List ℕ) → IsNext u k js → HasFollowers u k js
followers u k js is = λ j.
    let same : has j js ≡ has j is.all = ap (has j) is.once ∙ has_once j [] is.all in (
      λ h. let one = each_sound u j (follow u (At k)) is.all is.begin (sym same ∙ h) in record { point = one.point; way = one.way; follows = one.among; leads = one.leads },
      λ may. same ∙ each_complete u j (follow u (At k)) is.all is.begin may.way may.point may.follows may.leads,
    )
