-- The slot of a variable or an array: it is found by the name, and has the name's type and its place.
use Rattle.std.proofs.Common.{◌≡◌, Bool, true, false, cond, ◌||◌, Some, List, [], ◌∷◌, ◌++◌, map, flat_map, find, refl, ap, ◌∙◌, subst, unwrap_or, if◌then◌else◌}
use Rattle.std.specs.List.{list_any}
use Rattle.f77_tree.specs.declared.unit.Ty.{Ty}
use Rattle.f77_tree.specs.declared.unit.Ty.TheVariants as types
use Rattle.f77_tree.specs.declared.unit.Unit.{Unit as SourceUnit}
use Rattle.f77_store.specs.declared.areas.Place.{Place}
use Rattle.f77_names.specs.declared.occurrences.Occurrence.{Occurrence}
use Rattle.f77_names.specs.declared.facts.Facts.{Facts}
use Rattle.f77_store.specs.declared.storage.Slot.{Slot}
use Rattle.f77_store.specs.Areas.{commons}
use Rattle.f77_names.specs.Declarations.{declarations}
use Rattle.f77_store.specs.Layouts.{is_dummy, is_variable, dummy_slot, own_slot, slot_of, common_places, local_places, slots}
use Rattle.f77_values.specs.Tables.{Name, name_eq, is_among, Told}
use Rattle.f77_names.specs.Occurrences.{occurrences}
use Rattle.f77_names.specs.Roles.{facts, role, type_of, known, in_order, names}
use Rattle.f77_semantics.specs.Source.{slot_named}
use Rattle.sound_units.proofs.Lists.{any-map}
use Rattle.sound_units.proofs.Tables.{name_self, name_is, distinct_among}

-- this name
abbrev pub names_so : Name → Occurrence → Bool
names_so name o = name_eq name o.name

module _ (f : Facts) (commons_at own_at : Told Place) (name : Name) where
  abbrev sought : Slot → Bool
  sought s = name_eq name s.name

  abbrev slots_of : List Name → List Slot
  slots_of ns = flat_map (slot_of f commons_at own_at) (map (known f) ns)

  skipped : (d v : Bool) (x y : Slot) (rest : List Slot) → name_eq name x.name ≡ false → name_eq name y.name ≡ false → find sought ((if d then x ∷ [] else (if v then y ∷ [] else [])) ++ rest) ≡ find sought rest
  skipped true v x y rest h k = ap (λ b. cond b (Some x) (find sought rest)) h
  skipped false true x y rest h k = ap (λ b. cond b (Some y) (find sought rest)) k
  skipped false false x y rest h k = refl

  met : (d v : Bool) (x y : Slot) (rest : List Slot) → name_eq name x.name ≡ true → name_eq name y.name ≡ true → v ≡ true → find sought ((if d then x ∷ [] else (if v then y ∷ [] else [])) ++ rest) ≡ Some (if d then x else y)
  met true v x y rest h k e = ap (λ b. cond b (Some x) (find sought rest)) h
  met false true x y rest h k e = ap (λ b. cond b (Some y) (find sought rest)) k
  met false false x y rest h k e = cc

  abbrev pub slot_there : Slot
  slot_there = if is_dummy f (known f name) then dummy_slot f (known f name) else own_slot f commons_at own_at (known f name)

  slot_found : (ns : List Name) → is_variable (role f name) ≡ true → is_among ns name ≡ true → find sought (slots_of ns) ≡ Some slot_there
  slot_found [] v h = cc
  slot_found (n ∷ ns) v h = go (name_eq name n) refl h (slot_found ns v)
    where
      go : (b : Bool) → name_eq name n ≡ b → (b || is_among ns name) ≡ true → (is_among ns name ≡ true → find sought (slots_of ns) ≡ Some slot_there) → find sought (slots_of (n ∷ ns)) ≡ Some slot_there
      go true e h rest =
          subst (λ n. find sought (slots_of (n ∷ ns)) ≡ Some slot_there) (name_is name n e)
          (met (is_dummy f (known f name)) (is_variable (role f name)) (dummy_slot f (known f name)) (own_slot f commons_at own_at (known f name)) (slots_of ns) (name_self name) (name_self name) v)
      go false e h rest = skipped (is_dummy f (known f n)) (is_variable (role f n)) (dummy_slot f (known f n)) (own_slot f commons_at own_at (known f n)) (slots_of ns) e e ∙ rest h

  -- The slot has the type of its name.
  pub slot_type : (ty : Ty) → type_of f name ≡ Some ty → slot_there.ty ≡ ty
  slot_type ty e = go (is_dummy f (known f name)) ∙ ap (λ o. unwrap_or o types.Integer) e
    where
      go : (d : Bool) → (if d then dummy_slot f (known f name) else own_slot f commons_at own_at (known f name)).ty ≡ unwrap_or (type_of f name) types.Integer
      go true = refl
      go false = refl

module _ (u : SourceUnit) where
  abbrev pub commons_of : Told Place
  commons_of = common_places (facts u) (commons (declarations u.statements))

  abbrev pub locals_of : Told Place
  locals_of = local_places (facts u) (commons (declarations u.statements)) (names u)

  -- the slot of a name
  abbrev pub slot_for : Name → Slot
  slot_for name = slot_there (facts u) commons_of locals_of name

  -- A variable or an array that occurs has a slot.
  pub slot_is : (name : Name) → list_any (names_so name) (occurrences u) ≡ true → is_variable (role (facts u) name) ≡ true → slot_named (slots u) name ≡ Some (slot_for name)
  slot_is name h v = slot_found (facts u) commons_of locals_of name (in_order (occurrences u)) v
      (distinct_among (map (λ o. o.name) (occurrences u)) name (any-map (name_eq name) (λ (o : Occurrence). o.name) (occurrences u) ∙ h))
