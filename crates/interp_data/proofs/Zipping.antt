-- Runs of places and of values that go together one by one.
use Rattle.std.proofs.Common.{◌≡◌, ℕ, zero, suc, ◌+◌, ◌-◌, ◌≤◌, List, [], ◌∷◌, ◌++◌, flat_map, length, refl, sym, ap, ◌∙◌, arith, append_assoc, append-nil}
use Rattle.std.specs.List.{repeat, zip}
use Rattle.std.proofs.lemmas.Grind.{flat_map-append}
use Rattle.std.proofs.lemmas.List.{nil_from_length}
use Rattle.f77_tree.specs.declared.unit.Value.{Value}
use Rattle.f77_semantics.specs.declared.storage.Base.{Base}
use Rattle.f77_semantics.specs.Data.{beyond}
use Rattle.interp_data.specs.declared.spans.Places.{Places}
use Rattle.interp_data.specs.declared.spans.Repeated.{Repeated}
use Rattle.interp_data.specs.Spans.{places_from, given_from, places_of, values_of}

pub zip-none : (xs : List Base) → zip {X = Value} xs [] ≡ []
zip-none [] = refl
zip-none (x ∷ xs) = refl

-- so many values: as many as there are places, or more
pub values_last : (b : Base) (skip a more : ℕ) (v : Value) (xs : List Base) (ys : List Value)
    → zip (places_from b skip a ++ xs) (repeat (a + more) (v ∷ []) ++ ys) ≡ given_from b skip a v ++ zip xs (repeat more (v ∷ []) ++ ys)
values_last b skip zero more v xs ys = let e : 0 + more ≡ more = omega arith in ap (λ n. zip xs (repeat n (v ∷ []) ++ ys)) e
values_last b skip (suc a) more v xs ys =
    let e : suc a + more ≡ suc (a + more) = omega arith in
    ap (λ n. zip (places_from b skip (suc a) ++ xs) (repeat n (v ∷ []) ++ ys)) e ∙ ap (λ zs. (beyond b skip, v) ∷ zs) (values_last b (skip + 1) a more v xs ys)

-- or fewer
pub places_last : (b : Base) (skip c more : ℕ) (v : Value) (xs : List Base) (ys : List Value)
    → zip (places_from b skip (c + more) ++ xs) (repeat c (v ∷ []) ++ ys) ≡ given_from b skip c v ++ zip (places_from b (skip + c) more ++ xs) ys
places_last b skip zero more v xs ys =
    let e : 0 + more ≡ more = omega arith in
    let f : skip + 0 ≡ skip = omega arith in
    ap (λ n. zip (places_from b skip n ++ xs) ys) e ∙ ap (λ s. zip (places_from b s more ++ xs) ys) (sym f)
places_last b skip (suc c) more v xs ys =
    let e : suc c + more ≡ suc (c + more) = omega arith in
    let f : (skip + 1) + c ≡ skip + suc c = omega arith in
    ap (λ n. zip (places_from b skip n ++ xs) (repeat (suc c) (v ∷ []) ++ ys)) e
    ∙ ap (λ zs. (beyond b skip, v) ∷ zs) (places_last b (skip + 1) c more v xs ys ∙ ap (λ s. given_from b (skip + 1) c v ++ zip (places_from b s more ++ xs) ys) f)

pub values_beyond : (b : Base) (skip a c : ℕ) (v : Value) (xs : List Base) (ys : List Value) → a ≤ c
    → zip (places_from b skip a ++ xs) (repeat c (v ∷ []) ++ ys) ≡ given_from b skip a v ++ zip xs (repeat (c - a) (v ∷ []) ++ ys)
values_beyond b skip a c v xs ys h =
    let e : a + (c - a) ≡ c = omega arith in
    ap (λ n. zip (places_from b skip a ++ xs) (repeat n (v ∷ []) ++ ys)) (sym e) ∙ values_last b skip a (c - a) v xs ys

pub places_beyond : (b : Base) (skip a c : ℕ) (v : Value) (xs : List Base) (ys : List Value) → c ≤ a
    → zip (places_from b skip a ++ xs) (repeat c (v ∷ []) ++ ys) ≡ given_from b skip c v ++ zip (places_from b (skip + c) (a - c) ++ xs) ys
places_beyond b skip a c v xs ys h =
    let e : c + (a - c) ≡ a = omega arith in
    ap (λ n. zip (places_from b skip n ++ xs) (repeat c (v ∷ []) ++ ys)) (sym e) ∙ places_last b skip c (a - c) v xs ys

-- no place is left
pub values_all : (b : Base) (skip a c : ℕ) (v : Value) (ys : List Value) → a ≤ c → zip (places_from b skip a) (repeat c (v ∷ []) ++ ys) ≡ given_from b skip a v
values_all b skip a c v ys h =
    ap (λ xs. zip xs (repeat c (v ∷ []) ++ ys)) (sym (append-nil (places_from b skip a)))
    ∙ (values_beyond b skip a c v [] ys h ∙ append-nil (given_from b skip a v))

-- no value is left
pub places_all : (b : Base) (skip a c : ℕ) (v : Value) (xs : List Base) → c ≤ a → zip (places_from b skip a ++ xs) (repeat c (v ∷ [])) ≡ given_from b skip c v
places_all b skip a c v xs h =
    ap (λ ys. zip (places_from b skip a ++ xs) ys) (sym (append-nil (repeat c (v ∷ []))))
    ∙ (places_beyond b skip a c v xs [] h
    ∙ (ap (λ zs. given_from b skip c v ++ zs) (zip-none (places_from b (skip + c) (a - c) ++ xs)) ∙ append-nil (given_from b skip c v)))

-- a run that is the last, since no place or no value is left
pub places_end : (b : Base) (skip a c : ℕ) (v : Value) (ps : List Places) (ys : List Value) (old new : List (Base × Value)) → a ≤ c → length ps ≡ 0 → new ≡ old ++ given_from b skip a v
    → new ≡ old ++ zip (places_from b skip a ++ flat_map places_of ps) (repeat c (v ∷ []) ++ ys)
places_end b skip a c v ps ys old new h none run =
    run
    ∙ (ap (λ zs. old ++ zs) (sym (values_all b skip a c v ys h))
    ∙ (ap (λ xs. old ++ zip xs (repeat c (v ∷ []) ++ ys)) (sym (append-nil (places_from b skip a)))
    ∙ ap (λ (qs : List Places). old ++ zip (places_from b skip a ++ flat_map places_of qs) (repeat c (v ∷ []) ++ ys)) (sym (nil_from_length ps none))))

pub values_end : (b : Base) (skip a c : ℕ) (v : Value) (xs : List Base) (vs : List Repeated) (old new : List (Base × Value)) → c ≤ a → length vs ≡ 0 → new ≡ old ++ given_from b skip c v
    → new ≡ old ++ zip (places_from b skip a ++ xs) (repeat c (v ∷ []) ++ flat_map values_of vs)
values_end b skip a c v xs vs old new h none run =
    run
    ∙ (ap (λ zs. old ++ zs) (sym (places_all b skip a c v xs h))
    ∙ (ap (λ ys. old ++ zip (places_from b skip a ++ xs) ys) (sym (append-nil (repeat c (v ∷ []))))
    ∙ ap (λ (ws : List Repeated). old ++ zip (places_from b skip a ++ xs) (repeat c (v ∷ []) ++ flat_map values_of ws)) (sym (nil_from_length vs none))))

-- no value at all
pub nothing_given : (xs : List Base) (vs : List Repeated) (old : List (Base × Value)) → length vs ≡ 0 → old ≡ old ++ zip xs (flat_map values_of vs)
nothing_given xs vs old none =
    sym (append-nil old) ∙ (ap (λ zs. old ++ zs) (sym (zip-none xs)) ∙ ap (λ (ws : List Repeated). old ++ zip xs (flat_map values_of ws)) (sym (nil_from_length vs none)))

pub ruleset zipping = (flat_map-append, append_assoc, append-nil)

pub ruleset pairing = (zipping, values_beyond, places_beyond, values_all, places_all, zip-none)
