-- The locations before the ends of areas are those of a list.
use Rattle.std.proofs.Common.{◌≡◌, ℕ, zero, suc, ◌+◌, ◌<◌, Bool, true, false, cond, ◌||◌, Option, Some, None, List, [], ◌∷◌, ◌++◌, map, flat_map, length, slice_get, refl, sym, ap, ◌∙◌, subst, arith, if◌then◌else◌, nat_lt}
use Rattle.std.specs.List.{list_any, range_with_len}
use Rattle.std.proofs.lemmas.Bool.Decides.{nat_tests}
use Rattle.std.proofs.lemmas.Option.{slice_get_within}
use Rattle.run_model.specs.Storage.{Area, Block, Local, Fresh, Loc}
use Rattle.f77_tree.specs.declared.unit.Unit.{Unit as SourceUnit}
use Rattle.f77_values.proofs.SameNames.{same_name}
use Rattle.f77_values.specs.Tables.{Name, name_eq, is_among, distinct}
use Rattle.f77_store.specs.Layouts.{local_size}
use Rattle.f77_semantics.specs.Program.{Terms}
use Rattle.prog_check.specs.Limits.{all_blocks, largest}
use Rattle.store_laws.proofs.Told.{distinct_among}
use Rattle.sound_units.specs.Units.{passed, actuals_at}
use Rattle.area_laws.specs.Areas.{unit_named, count, passes, local_units, fresh_units, area_size, stretch, fresh_locations, site_locations, unit_locations, block_locations, locations, OneOf}
use Rattle.area_laws.specs.Laws.{AreasAreFinite}
use Rattle.area_laws.proofs.Limits.{largest_zero, any_names}

one_left : {A : Type 0} (xs ys : List A) (x : A) → OneOf xs x → OneOf (xs ++ ys) x
one_left xs ys x h = go xs h.at h.is
  where
    go : (zs : List _) (k : ℕ) → slice_get zs k ≡ Some x → OneOf (zs ++ ys) x
    go [] k e = cc
    go (z ∷ zs) zero e = record { at = 0; is = e }
    go (z ∷ zs) (suc k) e = let r = go zs k e in record { at = suc r.at; is = r.is }

one_right : {A : Type 0} (xs ys : List A) (x : A) → OneOf ys x → OneOf (xs ++ ys) x
one_right [] ys x h = h
one_right (z ∷ xs) ys x h = let r = one_right xs ys x h in record { at = suc r.at; is = r.is }

one_flat : {A B : Type 0} (g : A → List B) (xs : List A) (x : A) (y : B) → OneOf xs x → OneOf (g x) y → OneOf (flat_map g xs) y
one_flat g xs x y h k = go xs h.at h.is
  where
    some_is : {A : Type 0} (x y : A) → Some x ≡ Some y → x ≡ y
    some_is x y e = cc

    go : (zs : List _) (i : ℕ) → slice_get zs i ≡ Some x → OneOf (flat_map g zs) y
    go [] i e = cc
    go (z ∷ zs) zero e = one_left (g z) (flat_map g zs) y (subst (λ x. OneOf (g x) y) (sym (some_is z x e)) k)
    go (z ∷ zs) (suc i) e = one_right (g z) (flat_map g zs) y (go zs i e)

in_range : (a n k : ℕ) → k < n → OneOf (range_with_len a n) (a + k)
in_range a zero k lt = absurd (omega (arith, lt))
in_range a (suc n) zero lt = record { at = 0; is = (let e : a ≡ a + 0 = omega arith in ap Some e) }
in_range a (suc n) (suc k) lt =
    let r = in_range (a + 1) n k (omega (arith, lt)) in
    let e : (a + 1) + k ≡ a + suc k = omega arith in
    record { at = suc r.at; is = r.is ∙ ap Some e }

from_zero : (n k : ℕ) → k < n → OneOf (range_with_len 0 n) k
from_zero n k lt = let e : 0 + k ≡ k = omega arith in subst (OneOf (range_with_len 0 n)) e (in_range 0 n k lt)

in_stretch : (a : Area) (n o : ℕ) → o < n → OneOf (stretch a n) (record { area = a; offset = o })
in_stretch a n o lt = mapped (range_with_len 0 n) (from_zero n o lt).at (from_zero n o lt).is
  where
    mapped : (xs : List ℕ) (i : ℕ) → slice_get xs i ≡ Some o → OneOf {A = Loc} (map (λ o. record { area = a; offset = o }) xs) (record { area = a; offset = o })
    mapped [] i e = cc
    mapped (x ∷ xs) zero e = record { at = 0; is = (let same : x ≡ o = cc in λ i. Some (record { area = a; offset = same i })) }
    mapped (x ∷ xs) (suc i) e = let r = mapped xs i e in record { at = suc r.at; is = r.is }

-- ---- units and sites

record Holder (units : List SourceUnit) (v : Name) (u : SourceUnit) : Type 0 where
  one : OneOf units u
  name_is : u.name ≡ v

holder : (units : List SourceUnit) (v : Name) (u : SourceUnit) → unit_named units v ≡ Some u → Holder units v u
holder [] v u e = cc
holder (x ∷ units) v u e = go (name_eq x.name v) refl e (holder units v u)
  where
    go : (b : Bool) → name_eq x.name v ≡ b → cond b (Some x) (unit_named units v) ≡ Some u → (unit_named units v ≡ Some u → Holder units v u) → Holder (x ∷ units) v u
    go true t e rest = let same : x ≡ u = cc in record { one = record { at = 0; is = e }; name_is = ap (λ (u : SourceUnit). u.name) (sym same) ∙ same_name x.name v t }
    go false t e rest = let r = rest e in record { one = record { at = suc r.one.at; is = r.one.is }; name_is = r.name_is }

-- a site that passes something is in the table
listed_site : (u : SourceUnit) (s j : ℕ) → j < passes u s → s < suc (length (passed u))
listed_site u zero j lt = omega arith
listed_site u (suc s) j lt = go (slice_get (passed u) s) refl
  where
    go : (o : Option Terms) → slice_get (passed u) s ≡ o → suc s < suc (length (passed u))
    go None e = let none : count (actuals_at (slice_get (passed u) s)) ≡ 0 = ap (λ o. count (actuals_at o)) e in absurd (omega (arith, lt, none))
    go (Some es) e = let b = slice_get_within (passed u) s es e in omega (arith, b)

in_local : (units : List SourceUnit) (v : Name) (o : ℕ) → o < local_units (unit_named units v) → OneOf (flat_map unit_locations units) (record { area = Local v; offset = o })
in_local units v o lt = go (unit_named units v) refl lt
  where
    go : (x : Option SourceUnit) → unit_named units v ≡ x → o < local_units x → OneOf (flat_map unit_locations units) (record { area = Local v; offset = o })
    go None e lt = absurd (omega (arith, lt))
    go (Some u) e lt =
        let h = holder units v u e in
        one_flat unit_locations units u (record { area = Local v; offset = o }) h.one
        (one_left (stretch (Local u.name) (local_size u)) (flat_map (site_locations u) (range_with_len 0 (suc (length (passed u))))) (record { area = Local v; offset = o })
        (subst (λ n. OneOf (stretch (Local u.name) (local_size u)) (record { area = Local n; offset = o })) h.name_is (in_stretch (Local u.name) (local_size u) o lt)))

in_fresh : (units : List SourceUnit) (v : Name) (s j o : ℕ) → o < fresh_units (unit_named units v) s j → OneOf (flat_map unit_locations units) (record { area = Fresh v s j; offset = o })
in_fresh units v s j o lt = go (unit_named units v) refl lt
  where
    place : (u : SourceUnit) → (b : Bool) → nat_lt j (passes u s) ≡ b → o < (if b then 1 else 0) → (j < passes u s) × (o < 1)
    place u true t lt = (grind (arith, nat_tests, t), lt)
    place u false t lt = absurd (omega (arith, lt))

    go : (x : Option SourceUnit) → unit_named units v ≡ x → o < fresh_units x s j → OneOf (flat_map unit_locations units) (record { area = Fresh v s j; offset = o })
    go None e lt = absurd (omega (arith, lt))
    go (Some u) e lt =
        let h = holder units v u e in
        let p = place u (nat_lt j (passes u s)) refl lt in
        one_flat unit_locations units u (record { area = Fresh v s j; offset = o }) h.one
        (one_right (stretch (Local u.name) (local_size u)) (flat_map (site_locations u) (range_with_len 0 (suc (length (passed u))))) (record { area = Fresh v s j; offset = o })
        (one_flat (site_locations u) (range_with_len 0 (suc (length (passed u)))) s (record { area = Fresh v s j; offset = o }) (from_zero (suc (length (passed u))) s (listed_site u s j p.0))
        (one_flat (fresh_locations u s) (range_with_len 0 (passes u s)) j (record { area = Fresh v s j; offset = o }) (from_zero (passes u s) j p.0)
        (subst (λ n. OneOf (stretch (Fresh u.name s j) 1) (record { area = Fresh n s j; offset = o })) h.name_is (in_stretch (Fresh u.name s j) 1 o p.1)))))

-- ---- blocks

one_among : (names : List Name) (b : Name) → is_among names b ≡ true → OneOf names b
one_among [] b h = cc
one_among (n ∷ names) b h = go (name_eq b n) refl h (one_among names b)
  where
    go : (t : Bool) → name_eq b n ≡ t → (t || is_among names b) ≡ true → (is_among names b ≡ true → OneOf names b) → OneOf (n ∷ names) b
    go true t h rest = record { at = 0; is = ap Some (sym (same_name b n t)) }
    go false t h rest = let r = rest h in record { at = suc r.at; is = r.is }

in_block : (units : List SourceUnit) (b : Name) (o : ℕ) → o < largest (all_blocks units) b → OneOf (flat_map (block_locations units) (distinct (map (λ b. b.0) (all_blocks units)))) (record { area = Block b; offset = o })
in_block units b o lt = go (list_any (λ (x : Name × ℕ). name_eq b x.0) (all_blocks units)) refl
  where
    go : (t : Bool) → list_any (λ (x : Name × ℕ). name_eq b x.0) (all_blocks units) ≡ t → OneOf (flat_map (block_locations units) (distinct (map (λ b. b.0) (all_blocks units)))) (record { area = Block b; offset = o })
    go true t =
        one_flat (block_locations units) (distinct (map (λ b. b.0) (all_blocks units))) b (record { area = Block b; offset = o })
        (one_among (distinct (map (λ b. b.0) (all_blocks units))) b (distinct_among (map (λ b. b.0) (all_blocks units)) b (any_names b (all_blocks units) t))) (in_stretch (Block b) (largest (all_blocks units) b) o lt)
    go false t = let none = largest_zero b (all_blocks units) 0 t in absurd (omega (arith, lt, none))

pub areas_finite : AreasAreFinite
areas_finite units l h = go l.area l.offset h
  where
    go : (a : Area) (o : ℕ) → o < area_size units a → OneOf (locations units) (record { area = a; offset = o })
    go (Block b) o lt = one_right (flat_map unit_locations units) (flat_map (block_locations units) (distinct (map (λ b. b.0) (all_blocks units)))) (record { area = Block b; offset = o }) (in_block units b o lt)
    go (Local v) o lt = one_left (flat_map unit_locations units) (flat_map (block_locations units) (distinct (map (λ b. b.0) (all_blocks units)))) (record { area = Local v; offset = o }) (in_local units v o lt)
    go (Fresh v s j) o lt = one_left (flat_map unit_locations units) (flat_map (block_locations units) (distinct (map (λ b. b.0) (all_blocks units)))) (record { area = Fresh v s j; offset = o }) (in_fresh units v s j o lt)
