-- Areas with one member more.
use Rattle.std.proofs.Common.{◌≡◌, ℕ, ◌+◌, ◌<◌, min, List, [], ◌∷◌, ◌++◌, length, take, drop, get_or, Bool, true, false, if◌then◌else◌, fold, map, refl, ap, sym, ◌∙◌, arith, add-zero}
use Rattle.std.proofs.lemmas.List.{take_more, drop_more}
use Rattle.std.proofs.lemmas.List.Sums.{sum_by_more}
use Rattle.f77_values.proofs.SameNames.{same_name}
use Rattle.f77_store.specs.declared.areas.Member.{Member}
use Rattle.f77_store.specs.declared.areas.Place.{Place}
use Rattle.f77_values.specs.Tables.{Name, name_eq, Told, with_pair, distinct, most, saturated}
use Rattle.f77_store.specs.Areas.{total, units_in, placed, place_at, so_far, AreTotals, counted, blocks}

adds : (t s : ℕ) → min (min t most + s) most ≡ min (t + s) most
adds t s = omega arith

pub totals_more : (size : Name → ℕ) (members : List Member) (i : ℕ) (m : Member) (old new : Told ℕ) (from units sum : ℕ)
    → i < length members → m ≡ get_or members i m → AreTotals size (take i members) old
    → from ≡ so_far old m.block → units ≡ size m.name → sum ≡ min (from + units) most
    → ((q : Name) → so_far new q ≡ (if name_eq m.block q then sum else so_far old q))
    → AreTotals size (take (i + 1) members) new
totals_more size members i m old new from units sum h e a f u s n q = go (name_eq m.block q) refl
  where
    more : total size q (take (i + 1) members) ≡ total size q (take i members) + units_in size q m
    more = sum_by_more (units_in size q) members i m h ∙ ap (λ x. total size q (take i members) + units_in size q x) (sym e)

    go : (b : Bool) → name_eq m.block q ≡ b → so_far new q ≡ saturated (total size q (take (i + 1) members))
    go true t =
        let from-is : from ≡ saturated (total size q (take i members)) = f ∙ (ap (so_far old) (same_name m.block q t) ∙ a q) in
        let sum-is : sum ≡ min (saturated (total size q (take i members)) + size m.name) most = s ∙ (ap (λ x. min (x + units) most) from-is ∙ ap (λ x. min (saturated (total size q (take i members)) + x) most) u) in
        n q
        ∙ (ap (λ b. if b then sum else so_far old q) t
        ∙ (sum-is
        ∙ (adds (total size q (take i members)) (size m.name)
        ∙ sym (ap saturated (more ∙ ap (λ b. total size q (take i members) + (if b then size m.name else 0)) t)))))
    go false t =
        n q
        ∙ (ap (λ b. if b then sum else so_far old q) t
        ∙ (a q
        ∙ sym (ap saturated (more ∙ (ap (λ b. total size q (take i members) + (if b then size m.name else 0)) t ∙ add-zero (total size q (take i members)))))))

pub places_more : (size : Name → ℕ) (members : List Member) (i : ℕ) (m : Member) (old new all : Told Place) (from : ℕ)
    → i < length members → m ≡ get_or members i m → from ≡ saturated (total size m.block (take i members)) → new ≡ with_pair old (place_at m from)
    → fold with_pair old (placed size (take i members) (drop i members)) ≡ all
    → fold with_pair new (placed size (take (i + 1) members) (drop (i + 1) members)) ≡ all
places_more size members i m old new all from h e f n a =
    let before = take_more members i m h in
    let behind = drop_more members i m h in
    ap (λ x. fold with_pair x (placed size (take (i + 1) members) (drop (i + 1) members))) (n ∙ ap (λ x. with_pair old (place_at m x)) f)
    ∙ (ap (λ x. fold with_pair (with_pair old (place_at m (saturated (total size m.block (take i members))))) (placed size x (drop (i + 1) members))) (before ∙ ap (λ x. take i members ++ x ∷ []) (sym e))
    ∙ (sym (ap (λ x. fold with_pair old (placed size (take i members) x)) (behind ∙ ap (λ x. x ∷ drop (i + 1) members) (sym e)))
    ∙ a))

pub blocks_are : (size : Name → ℕ) (members : List Member) (totals : Told ℕ) (names : List Name) (all : List (Name × ℕ))
    → AreTotals size members totals → names ≡ distinct (map (λ m. m.block) members) → all ≡ map (counted totals) names → all ≡ blocks size members
blocks_are size members totals names all t n e =
    e
    ∙ (ap (map (counted totals)) n
    ∙ ap (λ f. map f (distinct (map (λ m. m.block) members))) (λ i block. (block, t block i)))
