-- Extents whose product has no room.
use Rattle.std.proofs.Common.{◌≡◌, ℕ, ◌<◌, ◌*◌, List, [], ◌∷◌, Option, None, Some, ℤ, nat_lt, Bool, true, false, if◌then◌else◌, refl, sym, ap, ◌∙◌}
use Rattle.std.proofs.lemmas.Bool.{lt-ltb}
use Rattle.std.proofs.Math.Nat.{div-eq_of_lt}
use Rattle.run_model.specs.Acts.{Act, Done, Fail, Undefined, and_then}
use Rattle.f77_semantics.specs.declared.storage.Extent.{Extent}
use Rattle.f77_semantics.specs.Units.{filled, product, total}
use Rattle.interp_calls.specs.Bounds.{excess, shape_in}

abbrev Sizes : Type 0
Sizes = List (ℤ × Option ℕ)

abbrev has_star : Sizes → Bool
has_star [] = false
has_star ((x, None) ∷ es) = true
has_star ((x, Some n) ∷ es) = has_star es

abbrev shape_of : Sizes → List Extent
shape_of [] = []
shape_of ((x, None) ∷ es) = shape_of es
shape_of ((x, Some n) ∷ es) = record { lower = x; size = n } ∷ shape_of es

starred : (es : Sizes) → has_star es ≡ true → filled 0 es ≡ Fail (Undefined 4)
starred [] e = absurd cc
starred ((x, None) ∷ es) e = refl
starred ((x, Some n) ∷ es) e = ap (λ (a : Act (List Extent)). and_then a (λ rest. Done (record { lower = x; size = n } ∷ rest))) (starred es e)

star_fails : (es : Sizes) → has_star es ≡ true → excess es ≡ Undefined 4
star_fails [] e = absurd cc
star_fails ((x, None) ∷ es) e = refl
star_fails ((x, Some n) ∷ es) e = star_fails es e

plain : (es : Sizes) → has_star es ≡ false → filled 0 es ≡ Done (shape_of es)
plain [] e = refl
plain ((x, None) ∷ es) e = absurd cc
plain ((x, Some n) ∷ es) e = ap (λ (a : Act (List Extent)). and_then a (λ rest. Done (record { lower = x; size = n } ∷ rest))) (plain es e)

same_total : (es : Sizes) → has_star es ≡ false → total (shape_of es) ≡ product es
same_total [] e = refl
same_total ((x, None) ∷ es) e = absurd cc
same_total ((x, Some n) ∷ es) e = ap (λ (k : ℕ). n * k) (same_total es e)

plain_fails : (es : Sizes) → has_star es ≡ false → excess es ≡ Undefined 3
plain_fails [] e = refl
plain_fails ((x, None) ∷ es) e = absurd cc
plain_fails ((x, Some n) ∷ es) e = plain_fails es e

abbrev checked : ℕ → List Extent → Act (List Extent)
checked long shape = if nat_lt long (total shape) then Fail (Undefined 3) else Done shape

abbrev with_star : ℕ → Sizes → ℕ → Act (List Extent)
with_star long es star = and_then (filled star es) (checked long)

none_left : (long : ℕ) (es : Sizes) → long < product es → (b : Bool) → has_star es ≡ b → with_star long es 0 ≡ Fail (excess es)
none_left long es less true e = ap (λ (a : Act (List Extent)). and_then a (checked long)) (starred es e) ∙ ap (λ r. Fail r) (sym (star_fails es e))
none_left long es less false e =
    let beyond : nat_lt long (total (shape_of es)) ≡ true = ap (λ (k : ℕ). nat_lt long k) (same_total es e) ∙ lt-ltb long (product es) less in
    let checks : checked long (shape_of es) ≡ Fail (Undefined 3) = ap (λ (b : Bool). if b then Fail (Undefined 3) else Done (shape_of es)) beyond in
    ap (λ (a : Act (List Extent)). and_then a (checked long)) (plain es e) ∙ (checks ∙ ap (λ r. Fail r) (sym (plain_fails es e)))

-- With a product of the known extents above the length of the actual, nothing is left for `*`, and without `*` there is no room.
pub no_room : (long : ℕ) (es : Sizes) → long < product es → shape_in long es ≡ Fail (excess es)
no_room long es less = ap (λ (star : ℕ). with_star long es star) (div-eq_of_lt less) ∙ none_left long es less (has_star es) refl
