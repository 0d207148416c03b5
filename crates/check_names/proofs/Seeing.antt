-- The names that were seen, and the constants that are known, before a statement.
use Rattle.std.proofs.Common.{◌≡◌, ℕ, ◌+◌, ◌<◌, Bool, false, List, [], ◌∷◌, ◌++◌, Some, length, take, fold, refl, sym, ap, ◌∙◌, nat_eq, slice_get, get_or, add-one}
use Rattle.std.specs.List.{list_any}
use Rattle.std.proofs.lemmas.List.Sums.{fold_more}
use Rattle.f77_tree.specs.declared.form.Form.TheViews.{out-Form}
use Rattle.f77_tree.specs.declared.unit.Stmt.{Stmt}
use Rattle.f77_tree.specs.declared.unit.Unit.{Unit}
use Rattle.f77_tree.specs.declared.unit.Value.{Value}
use Rattle.f77_names.specs.declared.attributes.Attributes.{Attributes}
use Rattle.f77_names.specs.declared.facts.Facts.{Facts}
use Rattle.f77_values.specs.Tables.{Name, Told, with_name}
use Rattle.f77_values.specs.Constants.{constants, with_statement}
use Rattle.f77_names.specs.Occurrences.{Occurrences}
use Rattle.check_names.specs.Places.{where_stands, before, in_text, occurrences_at}
use Rattle.check_names.specs.Untyped.{names_in, seen_before, is_new_untyped, untyped_at}
use Rattle.check_names.specs.LargeArrays.{has_large, large_at}

text_here : (u : Unit) (k : ℕ) (s : Stmt) (first : Bool) → slice_get u.statements k ≡ Some s → first ≡ nat_eq k 0 → in_text u first s ≡ occurrences_at u k
text_here u k s first stands f = ap (λ b. in_text u b s) f ∙ ap (where_stands [] (in_text u (nat_eq k 0))) (sym stands)

seen_more : (known : List Name) (xs ys : Occurrences) → fold with_name (fold with_name known (names_in xs)) (names_in ys) ≡ fold with_name known (names_in (xs ++ ys))
seen_more known [] ys = refl
seen_more known (o ∷ xs) ys = seen_more (with_name known o.name) xs ys

pub seen_next : (u : Unit) (k : ℕ) (s : Stmt) (first : Bool) (old new : List Name) → slice_get u.statements k ≡ Some s → first ≡ nat_eq k 0 → old ≡ seen_before u k → new ≡ fold with_name old (names_in (in_text u first s)) → new ≡ seen_before u (k + 1)
seen_next u k s first old new stands f o n =
    rw add-one (n ∙ (ap (λ known. fold with_name known (names_in (in_text u first s))) o
    ∙ (ap (λ all. fold with_name (seen_before u k) (names_in all)) (text_here u k s first stands f)
    ∙ seen_more [] (before (occurrences_at u) k) (occurrences_at u k))))

pub untyped_here : (f : Facts) (u : Unit) (k : ℕ) (s : Stmt) (first : Bool) (old : List Name) (b : Bool) → slice_get u.statements k ≡ Some s → first ≡ nat_eq k 0 → old ≡ seen_before u k → b ≡ list_any (is_new_untyped u f old) (in_text u first s) → b ≡ untyped_at f u k
untyped_here f u k s first old b stands e o n =
    n ∙ (ap (λ known. list_any (is_new_untyped u f known) (in_text u first s)) o
    ∙ ap (list_any (is_new_untyped u f (seen_before u k))) (text_here u k s first stands e))

pub next_constants : (items : List Stmt) (k : ℕ) (s : Stmt) (old new : Told Value) → k < length items → s ≡ get_or items k s → old ≡ constants (take k items) → new ≡ with_statement old s → new ≡ constants (take (k + 1) items)
next_constants items k s old new l is o n =
    n ∙ (ap (λ t. with_statement t s) o ∙ (ap (with_statement (constants (take k items))) is ∙ sym (fold_more with_statement [] items k s l)))

pub large_here : (a : Attributes) (u : Unit) (items : List Stmt) (k : ℕ) (s : Stmt) (old : Told Value) (b : Bool) → items ≡ u.statements → slice_get u.statements k ≡ Some s → old ≡ constants (take k items) → b ≡ has_large a old (out-Form s.form) → b ≡ large_at a u k
large_here a u items k s old b e stands o n =
    n ∙ (ap (λ t. has_large a t (out-Form s.form)) (o ∙ ap (λ xs. constants (take k xs)) e)
    ∙ ap (where_stands false (λ x. has_large a (constants (take k u.statements)) (out-Form x.form))) (sym stands))
