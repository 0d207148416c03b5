-- The slots of a unit of an accepted program lie in the areas of the program.
use Rattle.std.proofs.Common.{◌≡◌, ℕ, suc, ◌<◌, ◌≤◌, Bool, true, false, cond, Option, Some, None, List, [], ◌∷◌, map, flat_map, slice_get, refl, sym, ap, ◌∙◌, subst, arith, unwrap_or, if◌then◌else◌}
use Rattle.f77_tree.specs.declared.unit.Unit.{Unit as SourceUnit}
use Rattle.f77_values.proofs.SameNames.{same_name}
use Rattle.f77_values.specs.Tables.{Name, name_eq, is_among, what, Told, most}
use Rattle.f77_names.specs.declared.facts.Facts.{Facts}
use Rattle.f77_names.specs.declared.roles.Role.{Role}
use Rattle.f77_names.specs.declared.roles.Role.TheVariants as roles
use Rattle.f77_names.specs.Declarations.{declarations}
use Rattle.f77_names.specs.Occurrences.{occurrences}
use Rattle.f77_names.specs.Roles.{facts, bounds_of, constant_of, is_intrinsic, is_function, role, known, in_order, names}
use Rattle.f77_store.specs.declared.areas.Place.{Place}
use Rattle.f77_store.specs.declared.storage.Area.{Area}
use Rattle.f77_store.specs.declared.storage.Area.TheVariants.{Dummy, Local, Common}
use Rattle.f77_store.specs.declared.storage.Slot.{Slot}
use Rattle.f77_store.specs.Areas.{size_of, commons}
use Rattle.f77_store.specs.Layouts.{is_array, is_variable, is_dummy, dummy_slot, own_slot, slot_of, common_places, local_places, slots, local_size, blocks}
use Rattle.f77_semantics.specs.Terms.{Meant, AnArray, base_at, base_of, extent_of, bounds_at, intrinsic_meant, meant_as}
use Rattle.f77_tree.specs.declared.unit.Value.{Value}
use Rattle.f77_values.specs.Sizes.{Bounds as DeclaredBounds}
use Rattle.f77_semantics.specs.declared.storage.Bounds.{Bounds}
use Rattle.f77_semantics.specs.declared.storage.Bounds.TheVariants.{Known, AtEntry}
use Rattle.f77_semantics.specs.Units.{total}
use Rattle.f77_semantics.specs.Source.{slot_named}
use Rattle.f77_check.specs.UnitFaults.{IsSound}
use Rattle.prog_check.specs.Limits.{all_blocks, largest}
use Rattle.store_laws.specs.Laws.{IsStored, size_in}
use Rattle.store_laws.proofs.Lists.{Each, each_both, each_at}
use Rattle.store_laws.proofs.Slots.{slots_within}
use Rattle.store_laws.proofs.Single.{scalars_single}
use Rattle.sound_units.specs.Accepted.{IsTextOf}
use Rattle.sound_units.specs.Units.{meant_of}
use Rattle.sound_units.proofs.Fitting.{array_size}
use Rattle.area_laws.proofs.Bases.{BaseIn}
use Rattle.area_laws.proofs.Limits.{block_le}
use Rattle.area_laws.proofs.Texts.{MeantIn}

-- a slot that is found by a name
record Found (all : List Slot) (name : Name) (s : Slot) : Type 0 where
  at : ℕ
  stands : slice_get all at ≡ Some s
  name_is : name ≡ s.name

found : (all : List Slot) (name : Name) (s : Slot) → slot_named all name ≡ Some s → Found all name s
found [] name s e = cc
found (x ∷ all) name s e = go (name_eq name x.name) refl e (found all name s)
  where
    some_is : (x y : Slot) → Some x ≡ Some y → x ≡ y
    some_is x y e = cc

    go : (b : Bool) → name_eq name x.name ≡ b → cond b (Some x) (slot_named all name) ≡ Some s → (slot_named all name ≡ Some s → Found all name s) → Found (x ∷ all) name s
    go true t e rest = record { at = 0; stands = e; name_is = same_name name x.name t ∙ ap (λ (x : Slot). x.name) (some_is x s e) }
    go false t e rest = let r = rest e in record { at = suc r.at; stands = r.stands; name_is = r.name_is }

-- known bounds have no more elements than the array has units
abbrev pub Sized : Bounds → ℕ → Type 0
Sized (Known es) n = total es ≤ n
Sized (AtEntry k) n = Unit {0}

abbrev pub SizedIn : Meant → Type 0
SizedIn (AnArray ty a) = Sized a.bounds a.length
SizedIn _ = Unit {0}

-- the bounds in a role are those that are told
role_bounds : (array constant intrinsic function called external : Bool) (told bounds : DeclaredBounds) (v : Value)
    → (if array then roles.Array told
    else (if constant then roles.Constant v
    else (if intrinsic then roles.Intrinsic
    else (if function then roles.Function
    else (if called then roles.Subroutine
    else (if external then roles.Procedure
    else roles.Scalar)))))) ≡ roles.Array bounds → told ≡ bounds
role_bounds true c i f d x told bounds v e = cc
role_bounds false true i f d x told bounds v e = cc
role_bounds false false true f d x told bounds v e = cc
role_bounds false false false true d x told bounds v e = cc
role_bounds false false false false true x told bounds v e = cc
role_bounds false false false false false true told bounds v e = cc
role_bounds false false false false false false told bounds v e = cc

module _ (units : List SourceUnit) (place : ℕ) (u : SourceUnit) (stands : slice_get units place ≡ Some u) (sound : IsSound u) (text : IsTextOf u) (local_counted : local_size u < most) (block_counted : (b : Name) → largest (all_blocks units) b < most) where
  abbrev f : Facts
  f = facts u

  abbrev common_at : Told Place
  common_at = common_places f (commons (declarations u.statements))

  abbrev own_at : Told Place
  own_at = local_places f (commons (declarations u.statements)) (names u)

  -- what a slot has of its name
  record OfName (s : Slot) : Type 0 where
    array : s.is_array ≡ is_array (role f s.name)
    own : IsStored s.area → is_among f.attributes.dummies s.name ≡ false
    size : IsStored s.area → s.size ≡ size_of f.shapes s.name

  one_of_name : (name : Name) → Each OfName (slot_of f common_at own_at (known f name))
  one_of_name name = go (is_dummy f (known f name)) refl (is_variable (role f name))
    where
      go : (d : Bool) → is_dummy f (known f name) ≡ d → (v : Bool) → Each OfName (if d then dummy_slot f (known f name) ∷ [] else (if v then own_slot f common_at own_at (known f name) ∷ [] else []))
      go true e v = (record { array = refl; own = λ stored. absurd stored; size = λ stored. absurd stored }, tt)
      go false e true = (record { array = refl; own = λ stored. e; size = λ stored. refl }, tt)
      go false e false = tt

  all_of_names : (ns : List Name) → Each OfName (flat_map (slot_of f common_at own_at) (map (known f) ns))
  all_of_names [] = tt
  all_of_names (n ∷ ns) = each_both OfName (slot_of f common_at own_at (known f n)) (flat_map (slot_of f common_at own_at) (map (known f) ns)) (one_of_name n) (all_of_names ns)

  of_name : (i : ℕ) (s : Slot) → slice_get (slots u) i ≡ Some s → OfName s
  of_name i s e = each_at OfName (slots u) i s (all_of_names (in_order (occurrences u))) e

  -- a slot with storage has at least one unit, and lies in its area
  some_units : (i : ℕ) (s : Slot) → slice_get (slots u) i ≡ Some s → IsStored s.area → 1 ≤ s.size
  some_units i s e stored =
      let x = of_name i s e in
      let h = array_size u sound text s.name (x.own stored) in
      let a = h.0 in
      let b = h.1 in
      let z = x.size stored in
      omega (arith, a, b, z)

  slot_in : (i : ℕ) (s : Slot) → slice_get (slots u) i ≡ Some s → BaseIn units u (base_of s) s.size
  slot_in i s e = go s.area refl
    where
      go : (a : Area) → s.area ≡ a → BaseIn units u (base_at a s.from) s.size
      go (Dummy k) is = tt
      go Local is =
          let stored : IsStored s.area = subst IsStored (sym is) tt in
          let size_is : size_in u s.area ≡ local_size u = ap (size_in u) is in
          let w = slots_within u i s (record { stands = e; stored = stored; counted = omega (arith, size_is, local_counted) }) in
          (some_units i s e stored, omega (arith, size_is, w))
      go (Common b) is =
          let stored : IsStored s.area = subst IsStored (sym is) tt in
          let size_is : size_in u s.area ≡ unwrap_or (what (blocks u) b) 0 = ap (size_in u) is in
          let l = block_le units place u b stands in
          let c = block_counted b in
          let w = slots_within u i s (record { stands = e; stored = stored; counted = omega (arith, size_is, l, c) }) in
          (some_units i s e stored, omega (arith, size_is, l, w))

  intrinsic_in : (o : _) → MeantIn units u (intrinsic_meant o)
  intrinsic_in None = tt
  intrinsic_in (Some i) = tt

  -- what a name stands for lies in the areas
  pub meant_fits : (name : Name) → MeantIn units u (meant_of u name)
  meant_fits name = go (role f name) refl (slot_named (slots u) name) refl
    where
      scalar_in : (s : Slot) → role f name ≡ roles.Scalar → slot_named (slots u) name ≡ Some s → BaseIn units u (base_of s) 1
      scalar_in s r e =
          let x = found (slots u) name s e in
          let y = of_name x.at s x.stands in
          let scalar : s.is_array ≡ false = y.array ∙ (ap (λ n. is_array (role f n)) (sym x.name_is) ∙ ap is_array r) in
          subst (BaseIn units u (base_of s)) (scalars_single u x.at s x.stands scalar) (slot_in x.at s x.stands)

      go : (r : Role) → role f name ≡ r → (o : Option Slot) → slot_named (slots u) name ≡ o → MeantIn units u (meant_as f.constants name r o)
      go (roles.Constant v) e o h = tt
      go roles.Intrinsic e o h = intrinsic_in _
      go roles.Function e o h = tt
      go (roles.Array bounds) e (Some s) h = let x = found (slots u) name s h in slot_in x.at s x.stands
      go (roles.Array bounds) e None h = tt
      go roles.Scalar e (Some s) h = scalar_in s e h
      go roles.Scalar e None h = tt
      go roles.Subroutine e o h = tt
      go roles.Procedure e o h = tt

  -- An array with known bounds has a storage unit for each of its elements.
  pub meant_sized : (name : Name) → SizedIn (meant_of u name)
  meant_sized name = go (role f name) refl (slot_named (slots u) name) refl
    where
      intrinsic_sized : (o : _) → SizedIn (intrinsic_meant o)
      intrinsic_sized None = tt
      intrinsic_sized (Some i) = tt

      told_is : (bounds : DeclaredBounds) → role f name ≡ roles.Array bounds → bounds_of (what f.shapes name) ≡ bounds
      told_is bounds e =
          role_bounds (is_among f.attributes.arrays name) (is_among f.attributes.constants name) (is_intrinsic f.attributes name) (is_function f.attributes name) (is_among f.attributes.called name) (is_among f.attributes.external name)
          (bounds_of (what f.shapes name)) bounds (constant_of (what f.constants name)) e

      fits : (bounds : DeclaredBounds) (s : Slot) → role f name ≡ roles.Array bounds → slot_named (slots u) name ≡ Some s → IsStored s.area → total (map (extent_of f.constants) bounds) ≤ s.size
      fits bounds s r e stored =
          let x = found (slots u) name s e in
          let y = of_name x.at s x.stands in
          let h = (array_size u sound text s.name (y.own stored)).1 in
          let z = y.size stored in
          let t : total (map (extent_of f.constants) (bounds_of (what f.shapes s.name))) ≡ total (map (extent_of f.constants) bounds) = ap (λ n. total (map (extent_of f.constants) (bounds_of (what f.shapes n)))) (sym x.name_is) ∙ ap (λ b. total (map (extent_of f.constants) b)) (told_is bounds r) in
          omega (arith, h, z, t)

      at_area : (bounds : DeclaredBounds) (s : Slot) → role f name ≡ roles.Array bounds → slot_named (slots u) name ≡ Some s → (a : Area) → s.area ≡ a → Sized (bounds_at f.constants bounds a) s.size
      at_area bounds s r e (Dummy k) is = tt
      at_area bounds s r e Local is = fits bounds s r e (subst IsStored (sym is) tt)
      at_area bounds s r e (Common b) is = fits bounds s r e (subst IsStored (sym is) tt)

      go : (r : Role) → role f name ≡ r → (o : Option Slot) → slot_named (slots u) name ≡ o → SizedIn (meant_as f.constants name r o)
      go (roles.Constant v) e o h = tt
      go roles.Intrinsic e o h = intrinsic_sized _
      go roles.Function e o h = tt
      go (roles.Array bounds) e (Some s) h = at_area bounds s e h s.area refl
      go (roles.Array bounds) e None h = tt
      go roles.Scalar e (Some s) h = tt
      go roles.Scalar e None h = tt
      go roles.Subroutine e o h = tt
      go roles.Procedure e o h = tt
