-- The storage of a program, from its parts.
use Rattle.std.proofs.Common.{◌≡◌, ℕ, ◌+◌, ◌<◌, min, List, [], ◌∷◌, ◌++◌, length, take, drop, get_or, map, flat_map, sum_by, ap, sym, ◌∙◌, arith, append_assoc}
use Rattle.std.proofs.lemmas.List.{drop_more}
use Rattle.std.proofs.lemmas.List.Sums.{sum_by_more}
use Rattle.f77_tree.specs.declared.unit.Unit.{Unit as SourceUnit}
use Rattle.f77_store.specs.Areas.{so_far}
use Rattle.f77_store.specs.Layouts.{blocks, local_size}
use Rattle.f77_values.specs.Tables.{Name, Told, distinct}
use Rattle.prog_check.specs.Limits.{most, all_blocks, largest, common_storage, storage}

pub local_more : (f : SourceUnit → ℕ) (units : List SourceUnit) (i : ℕ) (u : SourceUnit) (old size new : ℕ) → i < length units → u ≡ get_or units i u → old ≡ min (sum_by f (take i units)) most → size ≡ f u → new ≡ min (old + size) most
    → new ≡ min (sum_by f (take (i + 1) units)) most
local_more f units i u old size new h e o s n =
    let more : sum_by f (take (i + 1) units) ≡ sum_by f (take i units) + f u = sum_by_more f units i u h ∙ ap (λ x. sum_by f (take i units) + f x) (sym e) in
    omega (arith, more, o, s, n)

pub blocks_more : {A : Type 0} (f : SourceUnit → List A) (units : List SourceUnit) (i : ℕ) (u : SourceUnit) (old new all : List A) → i < length units → u ≡ get_or units i u → new ≡ old ++ f u
    → old ++ flat_map f (drop i units) ≡ all → new ++ flat_map f (drop (i + 1) units) ≡ all
blocks_more f units i u old new all h e n a =
    ap (λ x. x ++ flat_map f (drop (i + 1) units)) n
    ∙ (append_assoc old (f u) (flat_map f (drop (i + 1) units))
    ∙ (ap (λ us. old ++ flat_map f us) (sym (drop_more units i u h ∙ ap (λ x. x ∷ drop (i + 1) units) (sym e)))
    ∙ a))

pub storage_is : (units : List SourceUnit) (local : ℕ) (all : List (Name × ℕ)) (names : List Name) (sizes : Told ℕ) (sum : ℕ)
    → local ≡ min (sum_by local_size units) most → all ≡ all_blocks units → names ≡ distinct (map (λ m. m.0) all) → ((q : Name) → so_far sizes q ≡ largest all q)
    → sum ≡ min (local + sum_by (so_far sizes) names) most → sum ≡ min (storage units) most
storage_is units local all names sizes sum l b n t s =
    let f : so_far sizes ≡ largest all = λ i q. t q i in
    let shared : sum_by (so_far sizes) names ≡ common_storage (all_blocks units) = ap (λ f. sum_by f names) f ∙ (ap (sum_by (largest all)) n ∙ ap common_storage b) in
    s ∙ (ap (λ x. min (local + x) most) shared ∙ (ap (λ x. min (x + common_storage (all_blocks units)) most) l ∙ adds (sum_by local_size units) (common_storage (all_blocks units))))
  where
    adds : (x y : ℕ) → min (min x most + y) most ≡ min (x + y) most
    adds x y = omega arith
