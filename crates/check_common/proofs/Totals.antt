-- Blocks with one member more.
use Rattle.std.proofs.Common.{◌≡◌, ℕ, ◌+◌, ◌*◌, ◌^◌, ◌<◌, ◌≤◌, List, [], ◌∷◌, ◌++◌, length, take, drop, get_or, Bool, true, false, if◌then◌else◌, fold, ap, sym, ◌∙◌, refl, arith, add-zero}
use Rattle.std.proofs.lemmas.List.{take_more, drop_more}
use Rattle.std.proofs.lemmas.List.Sums.{sum_by_more}
use Rattle.f77_values.proofs.SameNames.{same_name}
use Rattle.f77_store.specs.declared.areas.Member.{Member}
use Rattle.f77_values.specs.Tables.{Name, name_eq, Told, with_pair}
use Rattle.f77_store.specs.Areas.{total, units_in, so_far}
use Rattle.check_common.specs.declared.places.Start.{Start}
use Rattle.check_common.specs.Places.{start_at, started, AreExact}

pub totals_more : (size : Name → ℕ) (members : List Member) (i : ℕ) (m : Member) (old new : Told ℕ) (from units sum : ℕ)
    → i < length members → m ≡ get_or members i m → AreExact size (take i members) old
    → from ≡ so_far old m.block → units ≡ size m.name → sum ≡ from + units
    → ((q : Name) → so_far new q ≡ (if name_eq m.block q then sum else so_far old q))
    → AreExact size (take (i + 1) members) new
totals_more size members i m old new from units sum h e a f u s n q = go (name_eq m.block q) refl
  where
    more : total size q (take (i + 1) members) ≡ total size q (take i members) + units_in size q m
    more = sum_by_more (units_in size q) members i m h ∙ ap (λ x. total size q (take i members) + units_in size q x) (sym e)

    go : (b : Bool) → name_eq m.block q ≡ b → so_far new q ≡ total size q (take (i + 1) members)
    go true t =
        let from-is : from ≡ total size q (take i members) = f ∙ (ap (so_far old) (same_name m.block q t) ∙ a q) in
        n q
        ∙ (ap (λ b. if b then sum else so_far old q) t
        ∙ (s ∙ (ap (λ x. x + units) from-is
        ∙ (ap (λ x. total size q (take i members) + x) u
        ∙ sym (more ∙ ap (λ b. total size q (take i members) + (if b then size m.name else 0)) t)))))
    go false t =
        n q
        ∙ (ap (λ b. if b then sum else so_far old q) t
        ∙ (a q
        ∙ sym (more ∙ (ap (λ b. total size q (take i members) + (if b then size m.name else 0)) t ∙ add-zero (total size q (take i members))))))

pub starts_more : (size : Name → ℕ) (members : List Member) (i : ℕ) (m : Member) (old new all : Told Start) (from : ℕ)
    → i < length members → m ≡ get_or members i m → from ≡ total size m.block (take i members) → new ≡ with_pair old (start_at m from)
    → fold with_pair old (started size (take i members) (drop i members)) ≡ all
    → fold with_pair new (started size (take (i + 1) members) (drop (i + 1) members)) ≡ all
starts_more size members i m old new all from h e f n a =
    let before = take_more members i m h in
    let behind = drop_more members i m h in
    ap (λ x. fold with_pair x (started size (take (i + 1) members) (drop (i + 1) members))) (n ∙ ap (λ x. with_pair old (start_at m x)) f)
    ∙ (ap (λ x. fold with_pair (with_pair old (start_at m (total size m.block (take i members)))) (started size x (drop (i + 1) members))) (before ∙ ap (λ x. take i members ++ x ∷ []) (sym e))
    ∙ (sym (ap (λ x. fold with_pair old (started size (take i members) x)) (behind ∙ ap (λ x. x ∷ drop (i + 1) members) (sym e)))
    ∙ a))

-- ---- no total reaches the limit

pub below_limit : (n i size : ℕ) → n ≤ i * 4294967295 → i < size → size ≤ 18446744073709551615 → n < 2 ^ 96
below_limit n i size h l s = omega arith

pub small_more : (i from sum : ℕ) (old new : Told ℕ) (block : Name)
    → ((q : Name) → so_far old q ≤ i * 4294967295) → from ≡ so_far old block → sum ≤ from + 4294967295
    → ((q : Name) → so_far new q ≡ (if name_eq block q then sum else so_far old q))
    → (q : Name) → so_far new q ≤ (i + 1) * 4294967295
small_more i from sum old new block a f s n q = go (name_eq block q) refl
  where
    go : (b : Bool) → name_eq block q ≡ b → so_far new q ≤ (i + 1) * 4294967295
    go true t =
        let is : so_far new q ≡ sum = n q ∙ ap (λ b. if b then sum else so_far old q) t in
        let before = a block in
        omega (arith, is, before, f, s)
    go false t =
        let is : so_far new q ≡ so_far old q = n q ∙ ap (λ b. if b then sum else so_far old q) t in
        let before = a q in
        omega (arith, is, before)

pub ruleset limits = (below_limit)
