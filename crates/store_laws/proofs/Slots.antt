-- Where the slots of a unit lie: those of COMMON among the members of blocks, the others among the local ones.
use Rattle.std.proofs.Common.{◌≡◌, ℕ, zero, suc, ◌+◌, ◌<◌, ◌≤◌, Bool, true, false, not, ◌&&◌, ◌||◌, Option, Some, None, List, [], ◌∷◌, map, flat_map, slice_get, refl, sym, ap, ◌∙◌, subst, arith, ◌⊎◌, inl, inr, is_some, if◌then◌else◌, nat_lt}
use Rattle.std.specs.List.{list_any}
use Rattle.std.proofs.lemmas.Bool.Decides.{nat_tests}
use Rattle.f77_tree.specs.declared.unit.Unit.{Unit as SourceUnit}
use Rattle.f77_values.specs.Tables.{Name, name_eq, what, Told, most, saturated}
use Rattle.f77_names.specs.declared.facts.Facts.{Facts}
use Rattle.f77_names.specs.declared.roles.Known.{Known}
use Rattle.f77_names.specs.Declarations.{declarations}
use Rattle.f77_names.specs.Occurrences.{occurrences}
use Rattle.f77_names.specs.Roles.{facts, role, known, in_order, names}
use Rattle.f77_store.specs.declared.areas.Member.{Member}
use Rattle.f77_store.specs.declared.areas.Place.{Place}
use Rattle.f77_store.specs.declared.storage.Area.TheVariants.{Local, Common}
use Rattle.f77_store.specs.declared.storage.Slot.{Slot}
use Rattle.f77_store.specs.Areas.{total, commons}
use Rattle.f77_store.specs.Layouts.{is_variable, is_dummy, is_local, local_member, common_area, from_of, either_place, dummy_slot, own_slot, slot_of, sizes, common_places, local_members, local_places, slots}
use Rattle.store_laws.specs.Laws.{IsStored, size_in, IsCounted, SlotsLieWithin, SlotsStandApart}
use Rattle.store_laws.proofs.Lists.{Each, each_both, each_flat, each_flat_at, each_at, each_middle, Pairs, pairs_both, pairs_at, contra, any-append, Differs, distinct_differ}
use Rattle.store_laws.proofs.Told.{name_self}
use Rattle.store_laws.proofs.Placed.{Stands, place_is, place_known, lies_within, stand_apart, block_size}

some_is : {A : Type 0} (x y : A) → Some x ≡ Some y → x ≡ y
some_is x y e = cc

-- what stands in the list of names also stands in what is made of each of them
any_made : {A : Type 0} (test : Member → Bool) (g : A → List Member) (xs : List A) (i : ℕ) (x : A) → slice_get xs i ≡ Some x → list_any test (g x) ≡ true → list_any test (flat_map g xs) ≡ true
any_made test g [] i x e h = cc
any_made test g (y ∷ xs) zero x e h = any-append test (g y) (flat_map g xs) ∙ left (list_any test (g y)) (subst (λ x. list_any test (g x) ≡ true) (sym (some_is y x e)) h)
  where
    left : (b : Bool) → b ≡ true → (b || list_any test (flat_map g xs)) ≡ true
    left true h = refl
    left false h = contra (sym h)
any_made test g (y ∷ xs) (suc i) x e h = any-append test (g y) (flat_map g xs) ∙ right (list_any test (g y)) (any_made test g xs i x e h)
  where
    right : (b : Bool) → list_any test (flat_map g xs) ≡ true → (b || list_any test (flat_map g xs)) ≡ true
    right true h = refl
    right false h = h

-- what is said of places and sizes, said of slots
told : (s t : Slot) {a b m n : ℕ} → s.from ≡ a → s.size ≡ m → t.from ≡ b → t.size ≡ n → (a + m ≤ b) ⊎ (b + n ≤ a) → (s.from + s.size ≤ t.from) ⊎ (t.from + t.size ≤ s.from)
told s t fs ss ft st (inl h) = inl (omega (arith, fs, ss, ft, h))
told s t fs ss ft st (inr h) = inr (omega (arith, fs, ft, st, h))

module _ (u : SourceUnit) where
  abbrev f : Facts
  f = facts u

  abbrev common : List Member
  common = commons (declarations u.statements)

  abbrev own : List Member
  own = local_members f common (names u)

  abbrev common_at : Told Place
  common_at = common_places f common

  abbrev own_at : Told Place
  own_at = local_places f common (names u)

  -- the place of a slot among the members of its area
  data Lies (s : Slot) : Type 0 where
    in_common : (p : Place) → Stands (sizes f) common (s.name, p) → s.area ≡ Common p.block → s.from ≡ p.from → s.size ≡ sizes f s.name → Lies s
    in_own : (p : Place) → Stands (sizes f) own (s.name, p) → p.block ≡ [] → s.area ≡ Local → s.from ≡ p.from → s.size ≡ sizes f s.name → Lies s

  -- local members have no block
  no_block : Each (λ (m : Member). m.block ≡ []) own
  no_block = each_flat (λ (m : Member). m.block ≡ []) (local_member f common_at) (λ k. one k (is_local f common_at k)) (names u)
    where
      one : (k : Known) (b : Bool) → Each (λ (m : Member). m.block ≡ []) (if b then record { block = []; name = k.name } ∷ [] else [])
      one k true = (refl, tt)
      one k false = tt

  local_known : (i : ℕ) (name : Name) → slice_get (names u) i ≡ Some (known f name) → is_dummy f (known f name) ≡ false → is_variable (role f name) ≡ true → what common_at name ≡ None → list_any (λ (m : Member). name_eq name m.name) own ≡ true
  local_known i name e d v c = any_made (λ m. name_eq name m.name) (local_member f common_at) (names u) i (known f name) e (subst (λ b. list_any (λ (m : Member). name_eq name m.name) (if b then record { block = []; name = name } ∷ [] else []) ≡ true) (sym is) (ap (λ b. b || false) (name_self name)))
    where
      is : is_local f common_at (known f name) ≡ true
      is = λ j. v j && (not (d j) && not (is_some (c j)))

  is_blank : (name : Name) (p : Place) → Stands (sizes f) own (name, p) → p.block ≡ []
  is_blank name p s = sym s.block_is ∙ each_middle (λ (m : Member). m.block ≡ []) s.before s.member s.behind (subst (Each (λ (m : Member). m.block ≡ [])) s.splits no_block)

  own_lies : (i : ℕ) (name : Name) → slice_get (names u) i ≡ Some (known f name) → is_dummy f (known f name) ≡ false → is_variable (role f name) ≡ true → Lies (own_slot f common_at own_at (known f name))
  own_lies i name e d v = go (what common_at name) refl
    where
      there : (o : Option Place) → is_some o ≡ true → (p : Place) × (o ≡ Some p)
      there None h = cc
      there (Some p) h = (p, refl)

      go : (o : Option Place) → what common_at name ≡ o → Lies (own_slot f common_at own_at (known f name))
      go (Some p) e = in_common p (place_is (sizes f) common name p e) (ap common_area e) (ap (λ o. from_of (either_place o (what own_at name))) e) refl
      go None c =
          let x = there (what own_at name) (place_known (sizes f) own name (local_known i name e d v c)) in
          let s : Stands (sizes f) own (name, x.0) = place_is (sizes f) own name x.0 x.1 in
          in_own x.0 s (is_blank name x.0 s) (ap common_area c) ((λ j. from_of (either_place (c j) (what own_at name))) ∙ ap from_of x.1) refl

  -- a slot that has storage lies in its area
  abbrev LiesIfStored : Slot → Type 0
  LiesIfStored s = IsStored s.area → Lies s

  slots_of_lie : (i : ℕ) (k : Known) → slice_get (names u) i ≡ Some k → Each LiesIfStored (slot_of f common_at own_at k)
  slots_of_lie i k e = subst (λ k. Each LiesIfStored (slot_of f common_at own_at k)) (sym (from_known i k e)) (go (is_dummy f (known f k.name)) refl (is_variable (role f k.name)) refl)
    where
      mapped : (ns : List Name) (i : ℕ) (k : Known) → slice_get (map (known f) ns) i ≡ Some k → k ≡ known f k.name
      mapped [] i k e = cc
      mapped (n ∷ ns) zero k e = let s : known f n ≡ k = some_is (known f n) k e in sym s ∙ ap (λ (k : Known). known f k.name) s
      mapped (n ∷ ns) (suc i) k e = mapped ns i k e

      from_known : (i : ℕ) (k : Known) → slice_get (names u) i ≡ Some k → k ≡ known f k.name
      from_known i k e = mapped (in_order (occurrences u)) i k e

      go : (d : Bool) → is_dummy f (known f k.name) ≡ d → (v : Bool) → is_variable (role f k.name) ≡ v
          → Each LiesIfStored (if d then dummy_slot f (known f k.name) ∷ [] else (if v then own_slot f common_at own_at (known f k.name) ∷ [] else []))
      go true h v w = ((λ stored. absurd stored), tt)
      go false h true w = ((λ stored. own_lies i k.name (e ∙ ap Some (from_known i k e)) h w), tt)
      go false h false w = tt

  all_lie : Each LiesIfStored (slots u)
  all_lie = each_flat_at LiesIfStored (slot_of f common_at own_at) (names u) slots_of_lie

  -- ---- the names of slots

  abbrev NamesDiffer : Slot → Slot → Type 0
  NamesDiffer s t = Differs s.name t.name

  abbrev slots_for : Name → List Slot
  slots_for name = slot_of f common_at own_at (known f name)

  named_so : (P : Slot → Type 0) (name : Name) → ((s : Slot) → s.name ≡ name → P s) → Each P (slots_for name)
  named_so P name h = go (is_dummy f (known f name)) (is_variable (role f name))
    where
      go : (d v : Bool) → Each P (if d then dummy_slot f (known f name) ∷ [] else (if v then own_slot f common_at own_at (known f name) ∷ [] else []))
      go true v = (h (dummy_slot f (known f name)) refl, tt)
      go false true = (h (own_slot f common_at own_at (known f name)) refl, tt)
      go false false = tt

  one_slot : (name : Name) → Pairs NamesDiffer (slots_for name)
  one_slot name = go (is_dummy f (known f name)) (is_variable (role f name))
    where
      go : (d v : Bool) → Pairs NamesDiffer (if d then dummy_slot f (known f name) ∷ [] else (if v then own_slot f common_at own_at (known f name) ∷ [] else []))
      go true v = (tt, tt)
      go false true = (tt, tt)
      go false false = tt

  others : (name : Name) (ns : List Name) → Each (Differs name) ns → Each (λ s. Differs name s.name) (flat_map (slot_of f common_at own_at) (map (known f) ns))
  others name [] h = tt
  others name (n ∷ ns) h =
      each_both (λ (s : Slot). Differs name s.name) (slots_for n) (flat_map (slot_of f common_at own_at) (map (known f) ns)) (named_so (λ s. Differs name s.name) n (λ s e. subst (Differs name) (sym e) h.0)) (others name ns h.1)

  named_apart : (ns : List Name) → Pairs Differs ns → Pairs NamesDiffer (flat_map (slot_of f common_at own_at) (map (known f) ns))
  named_apart [] h = tt
  named_apart (n ∷ ns) h =
      pairs_both NamesDiffer (slots_for n) (flat_map (slot_of f common_at own_at) (map (known f) ns)) (one_slot n) (named_apart ns h.1)
      (named_so (λ s. Each (NamesDiffer s) (flat_map (slot_of f common_at own_at) (map (known f) ns))) n (λ s e. subst (λ m. Each (λ (t : Slot). Differs m t.name) (flat_map (slot_of f common_at own_at) (map (known f) ns))) (sym e) (others n ns h.0)))

  slots_differ : Pairs NamesDiffer (slots u)
  slots_differ = named_apart (in_order (occurrences u)) (distinct_differ (map (λ o. o.name) (occurrences u)))

  -- ---- within their areas, and apart

  common_size : (s : Slot) (p : Place) → Stands (sizes f) common (s.name, p) → s.area ≡ Common p.block → size_in u s.area ≡ saturated (total (sizes f) p.block common)
  common_size s p x a = ap (size_in u) a ∙ block_size (sizes f) common s.name p x

  own_size : (s : Slot) (p : Place) → p.block ≡ [] → s.area ≡ Local → size_in u s.area ≡ saturated (total (sizes f) p.block own)
  own_size s p b a = ap (size_in u) a ∙ ap (λ block. saturated (total (sizes f) block own)) (sym b)

  within : (s : Slot) → Lies s → IsCounted u s.area → s.from + s.size ≤ size_in u s.area
  within s (in_common p x a fr sz) counted =
      let e = common_size s p x a in
      let l = lies_within (sizes f) common s.name p x (subst (λ n. n < most) e counted) in
      omega (arith, e, l, fr, sz)
  within s (in_own p x b a fr sz) counted =
      let e = own_size s p b a in
      let l = lies_within (sizes f) own s.name p x (subst (λ n. n < most) e counted) in
      omega (arith, e, l, fr, sz)

  clash : {A : Type 0} (block : Name) → Common block ≡ Local → A
  clash block e = cc

  same_block : (a b : Name) → Common a ≡ Common b → a ≡ b
  same_block a b e = cc

  apart : (s t : Slot) → Lies s → Lies t → Differs s.name t.name → s.area ≡ t.area → IsCounted u s.area → (s.from + s.size ≤ t.from) ⊎ (t.from + t.size ≤ s.from)
  apart s t (in_common p x a fr sz) (in_common q y b fr2 sz2) differ same counted =
      told s t fr sz fr2 sz2 (stand_apart (sizes f) common s.name t.name p q x y (same_block p.block q.block (sym a ∙ (same ∙ b))) differ (subst (λ n. n < most) (common_size s p x a) counted))
  apart s t (in_own p x none a fr sz) (in_own q y none2 b fr2 sz2) differ same counted =
      told s t fr sz fr2 sz2 (stand_apart (sizes f) own s.name t.name p q x y (none ∙ sym none2) differ (subst (λ n. n < most) (own_size s p none a) counted))
  apart s t (in_common p x a fr sz) (in_own q y none b fr2 sz2) differ same counted = clash p.block (sym a ∙ (same ∙ b))
  apart s t (in_own p x none a fr sz) (in_common q y b fr2 sz2) differ same counted = clash q.block (sym b ∙ (sym same ∙ a))

pub slots_within : SlotsLieWithin
slots_within u i s x = within u s (each_at (LiesIfStored u) (slots u) i s (all_lie u) x.stands x.stored) x.counted

pub slots_apart : SlotsStandApart
slots_apart u i j s t x y differ same = go (nat_lt i j) refl
  where
    lies_s : Lies u s
    lies_s = each_at (LiesIfStored u) (slots u) i s (all_lie u) x.stands x.stored

    lies_t : Lies u t
    lies_t = each_at (LiesIfStored u) (slots u) j t (all_lie u) y.stands y.stored

    swapped : (t.from + t.size ≤ s.from) ⊎ (s.from + s.size ≤ t.from) → (s.from + s.size ≤ t.from) ⊎ (t.from + t.size ≤ s.from)
    swapped (inl h) = inr h
    swapped (inr h) = inl h

    go : (b : Bool) → nat_lt i j ≡ b → (s.from + s.size ≤ t.from) ⊎ (t.from + t.size ≤ s.from)
    go true e = let lt : i < j = grind (arith, nat_tests) in apart u s t lies_s lies_t (pairs_at (NamesDiffer u) (slots u) i j s t (slots_differ u) lt x.stands y.stands) same x.counted
    go false e =
        let le : j ≤ i = grind (arith, nat_tests) in
        let lt : j < i = other le in
        swapped (apart u t s lies_t lies_s (pairs_at (NamesDiffer u) (slots u) j i t s (slots_differ u) lt y.stands x.stands) (sym same) y.counted)
      where
        other : j ≤ i → j < i
        other le = cases (nat_lt j i) refl
          where
            cases : (b : Bool) → nat_lt j i ≡ b → j < i
            cases true e = grind (arith, nat_tests)
            cases false e = let ge : i ≤ j = grind (arith, nat_tests) in absurd (differ (omega (arith, le, ge)))
