-- The table of what names have been given is what the givings so far gave.
use Rattle.std.proofs.Common.{◌≡◌, ℕ, ◌+◌, Bool, true, false, cond, ◌||◌, [], ◌∷◌, ◌++◌, Some, None, refl, sym, ap, ◌∙◌, fold, nat_eq, slice_get, unwrap_or, add-one}
use Rattle.std.specs.Cmp.Lexicographic.{same_text}
use Rattle.std.proofs.lemmas.Cmp.{nat_list_eq_equiv}
use Rattle.std.proofs.lemmas.List.Sums.{fold-append}
use Rattle.f77_tree.specs.declared.unit.Stmt.{Stmt}
use Rattle.f77_tree.specs.declared.unit.Unit.{Unit}
use Rattle.f77_names.specs.declared.attributes.Attributes.{Attributes}
use Rattle.f77_values.specs.Tables.{Name, name_eq, Told, what, with_told}
use Rattle.check_names.specs.declared.attribute.Given.{Given}
use Rattle.check_names.specs.declared.givings.Giving.{Giving}
use Rattle.check_names.specs.Exclusions.{nothing, with_attribute, conflicts}
use Rattle.check_names.specs.Givings.{Givings}
use Rattle.check_names.specs.Conflicts.{with_giving, given_to, conflict_in, given_by, given_at, conflicts_at}
use Rattle.check_names.specs.Places.{where_stands, before}
use Rattle.check_names.specs.Tables.{told_to, noted, conflict_with}

once_or_again : {A : Type 0} (c : Bool) (x y w : A) → cond c x w ≡ cond c x (cond c y w)
once_or_again true x y w = refl
once_or_again false x y w = refl

either_order : {A : Type 0} (a b : Bool) (x y w : A) → (a ≡ true → b ≡ false) → cond a x (cond b y w) ≡ cond b y (cond a x w)
either_order true true x y w h = let e : true ≡ false = h refl in absurd (cc)
either_order true false x y w h = refl
either_order false b x y w h = refl

looked : (k q : Name) (v : Given) (es : Told Given) → what (with_told es k v) q ≡ cond (name_eq k q) (Some v) (what es q)
looked k q v [] = ap (λ b. cond b (Some v) None) (nat_list_eq_equiv.symm q k)
looked k q v (e ∷ es) = split (name_eq k e.0) refl (looked k q v es)
  where
    split : (b : Bool) → name_eq k e.0 ≡ b → what (with_told es k v) q ≡ cond (name_eq k q) (Some v) (what es q) → what (cond b ((e.0, v) ∷ es) (e ∷ with_told es k v)) q ≡ cond (name_eq k q) (Some v) (cond (name_eq q e.0) (Some e.1) (what es q))
    split true h hyp =
        let t : name_eq q e.0 ≡ name_eq k q = nat_list_eq_equiv.symm q e.0 ∙ sym (nat_list_eq_equiv.congr k e.0 q h) in
        ap (λ c. cond c (Some v) (what es q)) t ∙ (once_or_again (name_eq k q) (Some v) (Some e.1) (what es q) ∙ ap (λ c. cond (name_eq k q) (Some v) (cond c (Some e.1) (what es q))) (sym t))
    split false h hyp =
        ap (λ w. cond (name_eq q e.0) (Some e.1) w) hyp
        ∙ either_order (name_eq q e.0) (name_eq k q) (Some e.1) (Some v) (what es q) (λ t. nat_list_eq_equiv.symm k q ∙ (nat_list_eq_equiv.congr q e.0 k t ∙ (nat_list_eq_equiv.symm e.0 k ∙ h)))

told_noted : (q : Name) (table : Told Given) (g : Giving) → told_to q (noted table g) ≡ with_giving q (told_to q table) g
told_noted q table g =
    ap (λ x. unwrap_or x nothing) (looked g.name q (with_attribute (told_to g.name table) g.attribute) table)
    ∙ by_name (name_eq g.name q) refl
  where
    by_name : (b : Bool) → name_eq g.name q ≡ b → unwrap_or (cond b (Some (with_attribute (told_to g.name table) g.attribute)) (what table q)) nothing ≡ cond b (with_attribute (told_to q table) g.attribute) (told_to q table)
    by_name true h = ap (λ n. with_attribute (told_to n table) g.attribute) (same_text g.name q (sym h))
    by_name false h = refl

told_all : (q : Name) (table : Told Given) (gs : Givings) → told_to q (fold noted table gs) ≡ fold (with_giving q) (told_to q table) gs
told_all q table [] = refl
told_all q table (g ∷ gs) = told_all q (noted table g) gs ∙ ap (λ x. fold (with_giving q) x gs) (told_noted q table g)

told_given : (q : Name) (gs : Givings) → told_to q (fold noted [] gs) ≡ given_to q gs
told_given q gs = told_all q [] gs

conflict_same : (earlier gs : Givings) → conflict_with (fold noted [] earlier) gs ≡ conflict_in earlier gs
conflict_same earlier [] = refl
conflict_same earlier (g ∷ gs) =
    ap (λ x. conflicts x g.attribute || conflict_with (noted (fold noted [] earlier) g) gs) (told_given g.name earlier)
    ∙ (ap (λ t. conflicts (given_to g.name earlier) g.attribute || conflict_with t gs) (sym (fold-append noted [] earlier (g ∷ [])))
    ∙ ap (λ b. conflicts (given_to g.name earlier) g.attribute || b) (conflict_same (earlier ++ g ∷ []) gs))

given_here : (a : Attributes) (u : Unit) (k : ℕ) (s : Stmt) (first : Bool) → slice_get u.statements k ≡ Some s → first ≡ nat_eq k 0 → given_by a u first s ≡ given_at a u k
given_here a u k s first stands f = ap (λ b. given_by a u b s) f ∙ ap (where_stands [] (given_by a u (nat_eq k 0))) (sym stands)

pub table_next : (a : Attributes) (u : Unit) (k : ℕ) (s : Stmt) (first : Bool) (old new : Told Given) → slice_get u.statements k ≡ Some s → first ≡ nat_eq k 0 → old ≡ fold noted [] (before (given_at a u) k) → new ≡ fold noted old (given_by a u first s) → new ≡ fold noted [] (before (given_at a u) (k + 1))
table_next a u k s first old new stands f o n =
    rw add-one (n ∙ (ap (λ t. fold noted t (given_by a u first s)) o
    ∙ (ap (λ gs. fold noted (fold noted [] (before (given_at a u) k)) gs) (given_here a u k s first stands f)
    ∙ sym (fold-append noted [] (before (given_at a u) k) (given_at a u k)))))

pub conflict_here : (a : Attributes) (u : Unit) (k : ℕ) (s : Stmt) (first : Bool) (old : Told Given) (b : Bool) → slice_get u.statements k ≡ Some s → first ≡ nat_eq k 0 → old ≡ fold noted [] (before (given_at a u) k) → b ≡ conflict_with old (given_by a u first s) → b ≡ conflicts_at a u k
conflict_here a u k s first old b stands f o n =
    n ∙ (ap (λ t. conflict_with t (given_by a u first s)) o
    ∙ (ap (λ gs. conflict_with (fold noted [] (before (given_at a u) k)) gs) (given_here a u k s first stands f)
    ∙ conflict_same (before (given_at a u) k) (given_at a u k)))
