-- Arrays by their parts.
use Rattle.std.proofs.Common.{◌≡◌, ℕ, zero, suc, ◌+◌, ◌<◌, List, [], ◌∷◌, ◌++◌, length, take, get_or, refl, ap, sym, subst, ◌∙◌, arith}
use Rattle.std.proofs.lemmas.List.{take_more}
use Rattle.serde_json.specs.Data.{Data, array, Items, no_items, item}
use Rattle.serde_json.specs.View.{view, items_view}
use Rattle.serde_json.specs.declared.value.Value.{Value}
use Rattle.serde_json.specs.Events.{items_len}
use Rattle.serde_json.proofs.Views.{items_len-items_view}
use Rattle.obj_form.specs.Grammar.{IsArrayOf, Never, Parts, Writes, two, three}

-- one more behind
abbrev pub behind : Items → Data → Items
behind no_items d = item d no_items
behind (item e ds) d = item e (behind ds d)

abbrev pub items_in : Data → Items
items_in (array ds) = ds
items_in _ = no_items

pub items_view-push : (vs : List Value) (v : Value) → items_view (vs ++ v ∷ []) ≡ behind (items_view vs) (view v)
items_view-push [] v = refl
items_view-push (w ∷ vs) v = ap (item (view w)) (items_view-push vs v)

pub Parts-push : {A : Type 0} (Is : Data → A → Type 0) (ds : Items) (xs : List A) (d : Data) (x : A)
    → Parts Is ds xs → Is d x → Parts Is (behind ds d) (xs ++ x ∷ [])
Parts-push Is no_items [] d x h is = (is, tt)
Parts-push Is no_items (y ∷ xs) d x h is = absurd h
Parts-push Is (item e ds) [] d x h is = absurd h
Parts-push Is (item e ds) (y ∷ xs) d x h is = (h.0, Parts-push Is ds xs d x h.1 is)

Parts-last : {A : Type 0} (Is : Data → A → Type 0) (ds : Items) (xs : List A) (x : A)
    → Parts Is ds (xs ++ x ∷ []) → (es : Items) × (d : Data) × (ds ≡ behind es d) × Parts Is es xs × Is d x
Parts-last Is no_items [] x h = absurd h
Parts-last Is no_items (y ∷ xs) x h = absurd h
Parts-last Is (item d no_items) [] x h = (no_items, d, refl, tt, h.0)
Parts-last Is (item d (item e ds)) [] x h = absurd h.1
Parts-last Is (item d ds) (y ∷ xs) x h =
    let later = Parts-last Is ds xs x h.1 in
    (item d later.0, later.1, ap (item d) later.2, (h.0, later.3), later.4)

-- writing one more part
pub more_values : {A : Type 0} (Is : Data → A → Type 0) (vs : List Value) (v : Value) (xs : List A) (i : ℕ) (x : A) → i < length xs
    → ((ds : Items) → Parts Is ds (take i xs) → items_view vs ≡ ds) → Writes Is (view v) (get_or xs i x)
    → (ds : Items) → Parts Is ds (take (i + 1) xs) → items_view (vs ++ v ∷ []) ≡ ds
more_values Is vs v xs i x within front writes ds h =
    let parts = Parts-last Is ds (take i xs) (get_or xs i x) (subst (Parts Is ds) (take_more xs i x within) h) in
    items_view-push vs v
    ∙ ap (λ d. behind (items_view vs) d) (writes parts.1 parts.4)
    ∙ ap (λ es. behind es parts.1) (front parts.0 parts.3)
    ∙ sym parts.2

-- reading one more part
pub more_parts : {A : Type 0} (Is : Data → A → Type 0) (vs : List Value) (xs : List A) (i : ℕ) (v : Value) (x : A) → i < length vs
    → Parts Is (items_view (take i vs)) xs → Is (view (get_or vs i v)) x → Parts Is (items_view (take (i + 1) vs)) (xs ++ x ∷ [])
more_parts Is vs xs i v x within front is =
    let longer : items_view (take (i + 1) vs) ≡ behind (items_view (take i vs)) (view (get_or vs i v)) =
    ap items_view (take_more vs i v within) ∙ items_view-push (take i vs) (get_or vs i v) in
    subst (λ ds. Parts Is ds (xs ++ x ∷ [])) (sym longer) (Parts-push Is (items_view (take i vs)) xs (view (get_or vs i v)) x front is)

part_at : {A : Type 0} (Is : Data → A → Type 0) (vs : List Value) (xs : List A) (i : ℕ) (v : Value) → i < length vs
    → Parts Is (items_view vs) xs → (x : A) × Is (view (get_or vs i v)) x
part_at Is [] xs i v within h = absurd (omega arith)
part_at Is (w ∷ vs) [] i v within h = absurd h
part_at Is (w ∷ vs) (x ∷ xs) zero v within h = (x, h.0)
part_at Is (w ∷ vs) (x ∷ xs) (suc i) v within h = part_at Is vs xs i v (omega arith) h.1

-- where a part is none, the array is none
pub no_part : {A : Type 0} (Is : Data → A → Type 0) (d : Data) (vs : List Value) (i : ℕ) (v : Value) → array (items_view vs) ≡ d → i < length vs
    → Never Is (view (get_or vs i v)) → Never (IsArrayOf Is) d
no_part Is d vs i v e within never xs h =
    let same : items_view vs ≡ h.0 = ap items_in (e ∙ h.1) in
    let found = part_at Is vs xs i v within (subst (λ ds. Parts Is ds xs) (sym same) h.2) in
    never found.0 found.1

-- writing no part
pub no_values : {A : Type 0} (Is : Data → A → Type 0) (ds : Items) → Parts Is ds [] → no_items ≡ ds
no_values Is no_items h = refl
no_values Is (item d ds) h = absurd h

-- ---- arrays of two and three

pub two_here : (vs : List Value) (v w : Value) → length vs ≡ 2 → array (items_view vs) ≡ two (view (get_or vs 0 v)) (view (get_or vs 1 w))
two_here [] v w h = absurd (omega (arith, h))
two_here (a ∷ []) v w h = absurd (omega (arith, h))
two_here (a ∷ b ∷ []) v w h = refl
two_here (a ∷ b ∷ c ∷ vs) v w h = absurd (omega (arith, h))

pub two_parts : (vs : List Value) (a b : Data) → array (items_view vs) ≡ two a b → length vs ≡ 2
two_parts vs a b e = sym (items_len-items_view vs) ∙ ap (λ d. items_len (items_in d)) e

pub three_here : (vs : List Value) (v w x : Value) → length vs ≡ 3
    → array (items_view vs) ≡ three (view (get_or vs 0 v)) (view (get_or vs 1 w)) (view (get_or vs 2 x))
three_here [] v w x h = absurd (omega (arith, h))
three_here (a ∷ []) v w x h = absurd (omega (arith, h))
three_here (a ∷ b ∷ []) v w x h = absurd (omega (arith, h))
three_here (a ∷ b ∷ c ∷ []) v w x h = refl
three_here (a ∷ b ∷ c ∷ d ∷ vs) v w x h = absurd (omega (arith, h))

pub three_parts : (vs : List Value) (a b c : Data) → array (items_view vs) ≡ three a b c → length vs ≡ 3
three_parts vs a b c e = sym (items_len-items_view vs) ∙ ap (λ d. items_len (items_in d)) e
