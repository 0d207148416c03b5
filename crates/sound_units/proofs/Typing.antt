-- In a unit without fault 13 the names that programs compute with have a type.
use Rattle.std.proofs.Common.{◌≡◌, ℕ, zero, suc, Bool, true, false, not, ◌&&◌, ◌||◌, Some, List, [], ◌∷◌, refl, sym, ap, ◌∙◌, subst, is_some}
use Rattle.std.specs.List.{list_any}
use Rattle.f77_tree.specs.declared.unit.Ty.{Ty}
use Rattle.f77_tree.specs.declared.unit.Unit.{Unit as SourceUnit}
use Rattle.f77_names.specs.declared.occurrences.Occurrence.{Occurrence}
use Rattle.f77_names.specs.declared.facts.Facts.{Facts}
use Rattle.f77_values.specs.Tables.{Name, name_eq, is_among}
use Rattle.f77_names.specs.Occurrences.{Occurrences}
use Rattle.f77_names.specs.Roles.{facts}
use Rattle.f77_names.specs.Types.{name_word, storage_type}
use Rattle.check_names.specs.Places.{before, occurrences_at}
use Rattle.check_names.specs.Untyped.{has_type, lacks_type, is_new_untyped, names_in, seen_before}
use Rattle.sound_units.proofs.Giving.{among_distinct}
use Rattle.sound_units.proofs.Lists.{any-map, any-append, or_left, or_right, untrue}
use Rattle.sound_units.proofs.Slots.{names_so}
use Rattle.sound_units.proofs.Tables.{name_is, opposite, known}

module _ (u : SourceUnit) (none : (k : ℕ) → list_any (is_new_untyped u (facts u) (seen_before u k)) (occurrences_at u k) ≡ false) where
  abbrev f : Facts
  f = facts u

  -- a name that stands here for the first time
  new_typed : (seen : List Name) (name : Name) (all : Occurrences) → list_any (is_new_untyped u f seen) all ≡ false → list_any (names_so name) all ≡ true → is_among seen name ≡ false → lacks_type u f name ≡ false
  new_typed seen name [] h k n = cc
  new_typed seen name (o ∷ all) h k n = go (name_eq name o.name) refl k (λ k. new_typed seen name all (or_right (is_new_untyped u f seen o) _ h) k n)
    where
      here : name ≡ o.name → (not (is_among seen o.name) && lacks_type u f o.name) ≡ false → lacks_type u f name ≡ false
      here e h = ap (λ b. not b && lacks_type u f name) (sym n) ∙ subst (λ n. (not (is_among seen n) && lacks_type u f n) ≡ false) (sym e) h

      go : (b : Bool) → name_eq name o.name ≡ b → (b || list_any (names_so name) all) ≡ true → (list_any (names_so name) all ≡ true → lacks_type u f name ≡ false) → lacks_type u f name ≡ false
      go true e k rest = here (name_is name o.name e) (or_left (is_new_untyped u f seen o) (list_any (is_new_untyped u f seen) all) h)
      go false e k rest = rest k

  typed_before : (n : ℕ) (name : Name) → list_any (names_so name) (before (occurrences_at u) n) ≡ true → lacks_type u f name ≡ false
  typed_before zero name h = cc
  typed_before (suc n) name h = go (list_any (names_so name) (before (occurrences_at u) n)) refl (sym (any-append (names_so name) (before (occurrences_at u) n) (occurrences_at u n)) ∙ h) (typed_before n name)
    where
      unseen : list_any (names_so name) (before (occurrences_at u) n) ≡ false → is_among (seen_before u n) name ≡ false
      unseen e = untrue (is_among (seen_before u n) name) (λ t.
          opposite (list_any (names_so name) (before (occurrences_at u) n))
          (sym (any-map (name_eq name) (λ (o : Occurrence). o.name) (before (occurrences_at u) n)) ∙ among_distinct (names_in (before (occurrences_at u) n)) name t) e)

      go : (b : Bool) → list_any (names_so name) (before (occurrences_at u) n) ≡ b → (b || list_any (names_so name) (occurrences_at u n)) ≡ true → (list_any (names_so name) (before (occurrences_at u) n) ≡ true → lacks_type u f name ≡ false) → lacks_type u f name ≡ false
      go true e h rest = rest e
      go false e h rest = new_typed (seen_before u n) name (occurrences_at u n) (none n) h (unseen e)

  -- A name that occurs and that programs compute with has a type.
  pub typed : (n : ℕ) (name : Name) → list_any (names_so name) (before (occurrences_at u) n) ≡ true → has_type u (facts u).attributes name ≡ true → (ty : Ty) × (storage_type (name_word (facts u).words (facts u).letters name) ≡ Some ty)
  typed n name h t = known (storage_type (name_word f.words f.letters name)) (go (has_type u f.attributes name) (is_some (storage_type (name_word f.words f.letters name))) t (typed_before n name h))
    where
      go : (a b : Bool) → a ≡ true → (a && not b) ≡ false → b ≡ true
      go true true t h = refl
      go true false t h = cc
      go false b t h = cc
