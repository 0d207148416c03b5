-- The names that are kept.
use Rattle.std.proofs.Common.{◌≡◌, ℕ, arith, ◌+◌, ◌==◌, ◌&&◌, ◌||◌, Bool, true, false, cond, List, [], ◌∷◌, ◌++◌, fold, refl, sym, ap, ◌∙◌, append_assoc, subst}
use Rattle.std.specs.List.{list_any}
use Rattle.std.proofs.lemmas.Bool.Decides.{nat_tests}
use Rattle.std.proofs.lemmas.List.{map-append}
use Rattle.f77_tree.specs.declared.form.Form.{out-Form}
use Rattle.f77_tree.specs.declared.unit.Stmt.{Stmt}
use Rattle.f77_store.specs.declared.storage.Slot.{Slot}
use Rattle.f77_values.specs.Tables.{Name, name_eq, is_among, with_name, distinct}
use Rattle.f77_values.proofs.SameNames.{same_name}
use Rattle.f77_semantics.specs.Data.{keeps_all, is_kept_name, kept}
use Rattle.interp_data.specs.Cells.{kept_slots, names_kept}

pub none_left : (a b : ℕ) → (a + b == 0) ≡ ((a == 0) && (b == 0))
none_left a b = grind (arith, nat_tests)

pub fold-append : (known xs ys : List Name) → fold with_name known (xs ++ ys) ≡ fold with_name (fold with_name known xs) ys
fold-append known [] ys = refl
fold-append known (x ∷ xs) ys = fold-append (with_name known x) xs ys

or_false : (b : Bool) → b ≡ (b || false)
or_false true = refl
or_false false = refl

or_assoc : (a b c : Bool) → ((a || b) || c) ≡ (a || (b || c))
or_assoc true b c = refl
or_assoc false b c = refl

any-last : (p : Name → Bool) (xs : List Name) (x : Name) → list_any p (xs ++ x ∷ []) ≡ (list_any p xs || p x)
any-last p [] x = sym (or_false (p x))
any-last p (y ∷ ys) x = ap (λ b. p y || b) (any-last p ys x) ∙ sym (or_assoc (p y) (list_any p ys) (p x))

or_there : (a b : Bool) → (b ≡ true → a ≡ true) → a ≡ (a || b)
or_there true b h = refl
or_there false true h = h refl
or_there false false h = refl

-- a name more
among-more : (known : List Name) (x q : Name) → is_among (with_name known x) q ≡ (is_among known q || name_eq q x)
among-more known x q = go (is_among known x) refl
  where
    go : (b : Bool) → is_among known x ≡ b → is_among (cond b known (known ++ x ∷ [])) q ≡ (is_among known q || name_eq q x)
    go true e = or_there (is_among known q) (name_eq q x) (λ h. let same : q ≡ x = same_name q x h in subst (λ n. is_among known n ≡ true) (sym same) e)
    go false e = any-last (name_eq q) known x

among-all : (known xs : List Name) (q : Name) → is_among (fold with_name known xs) q ≡ (is_among known q || is_among xs q)
among-all known [] q = or_false (is_among known q)
among-all known (x ∷ xs) q = among-all (with_name known x) xs q ∙ (ap (λ b. b || is_among xs q) (among-more known x q) ∙ or_assoc (is_among known q) (name_eq q x) (is_among xs q))

pub among-distinct : (xs : List Name) (q : Name) → is_among (distinct xs) q ≡ is_among xs q
among-distinct xs q = among-all [] xs q

-- what is kept by a test that says whether all is kept and whether a name is among these
pub kept_by : (statements : List Stmt) (slots : List Slot) (all : Bool) (names : List Name)
    → all ≡ list_any (λ s. keeps_all (out-Form s.form)) statements → names ≡ distinct (names_kept statements)
    → kept_slots (λ name. all || is_among names name) slots ≡ kept statements slots
kept_by statements slots all names a n =
    let test : (q : Name) → (all || is_among names q) ≡ is_kept_name statements q = λ q. ap (λ b. b || is_among names q) a ∙ ap (λ b. list_any (λ s. keeps_all (out-Form s.form)) statements || b) (ap (λ ns. is_among ns q) n ∙ among-distinct (names_kept statements) q) in
    λ i. kept_slots (λ q. test q i) slots

pub ruleset keeping = (none_left, fold-append, append_assoc, map-append)
