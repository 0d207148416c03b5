-- Each name of a unit with thin statements is a variable of its local area, in the order of first appearance.
use Rattle.std.proofs.Common.{◌≡◌, ℕ, suc, ◌+◌, ◌≤◌, Bool, true, false, not, cond, ◌||◌, if◌then◌else◌, Some, None, List, [], ◌∷◌, ◌++◌, length, map, flat_map, fold, refl, sym, ap, ◌∙◌, arith, append_assoc, append-nil}
use Rattle.std.specs.List.{list_any, position_or_len}
use Rattle.std.specs.Cmp.Lexicographic.{same_text}
use Rattle.std.proofs.lemmas.Cmp.{nat_list_eq_equiv}
use Rattle.std.proofs.lemmas.List.{map-append}
use Rattle.std.proofs.lemmas.List.Sums.{fold-append, sum_by-cons, prefix_len-le-length}
use Rattle.std.proofs.lemmas.List.Folds.{list_any-append}
use Rattle.run_model.specs.Storage.{Name, name_eq}
use Rattle.f77_tree.specs.declared.unit.Ty.TheVariants as types
use Rattle.f77_tree.specs.declared.unit.Unit.{Unit as SourceUnit}
use Rattle.f77_store.specs.declared.areas.Member.{Member}
use Rattle.f77_store.specs.declared.areas.Place.{Place}
use Rattle.f77_names.specs.declared.roles.Known.{Known}
use Rattle.f77_names.specs.declared.roles.Role.TheVariants.{Scalar}
use Rattle.f77_store.specs.declared.storage.Slot.{Slot}
use Rattle.f77_values.specs.Tables.{is_among, with_name, distinct, Told, what, with_told, with_pair, told, saturated}
use Rattle.f77_store.specs.Areas.{total, place_at, placed, places, commons}
use Rattle.f77_names.specs.Declarations.{declarations}
use Rattle.f77_names.specs.Roles.{facts, known}
use Rattle.f77_store.specs.Layouts.{from_of, locals, own_slot, slot_of, sizes, slots_with, local_size_with, slots, local_size}
use Rattle.f77_semantics.specs.declared.storage.Base.TheVariants.{Own}
use Rattle.f77_semantics.specs.Terms.{Variable, meant_as}
use Rattle.f77_semantics.specs.Source.{slot_named, meant_in}
use Rattle.thin_form.specs.declared.statement.Statement.{Statement}
use Rattle.thin_code.specs.Layout.{statement_names, names_of, offset_of}
use Rattle.thin_meaning.specs.Units.{IsThinUnit}
use Rattle.thin_meaning.proofs.Naming.{thin_facts, facts_are, names_are, declarations_are, integer}

-- ---- tests of names

same : (p q : Name) → name_eq p q ≡ true → p ≡ q
same p q e = same_text p q (sym e)

itself : (p : Name) → name_eq p p ≡ true
itself p = nat_list_eq_equiv.refl p

or_true : (a b : Bool) → (a || b) ≡ true → a ≡ false → b ≡ true
or_true true b e f = cc
or_true false b e f = e

-- ---- first places

-- a place that is found stays
found_stays : (p : Name → Bool) (xs ys : List Name) → list_any p xs ≡ true → position_or_len p (xs ++ ys) ≡ position_or_len p xs
found_stays p [] ys h = cc
found_stays p (x ∷ xs) ys h = go (p x) refl (found_stays p xs ys)
  where
    go : (b : Bool) → p x ≡ b → (list_any p xs ≡ true → position_or_len p (xs ++ ys) ≡ position_or_len p xs) → cond (not (p x)) (1 + position_or_len p (xs ++ ys)) 0 ≡ cond (not (p x)) (1 + position_or_len p xs) 0
    go true e ih = ap (λ b. cond (not b) (1 + position_or_len p (xs ++ ys)) 0) e ∙ sym (ap (λ b. cond (not b) (1 + position_or_len p xs) 0) e)
    go false e ih = ap (λ n. cond (not (p x)) (1 + n) 0) (ih (or_true (p x) (list_any p xs) h e))

-- a name that is new stands last
new_last : (p : Name → Bool) (xs : List Name) (y : Name) → list_any p xs ≡ false → p y ≡ true → position_or_len p (xs ++ y ∷ []) ≡ length xs
new_last p [] y h k = ap (λ b. cond (not b) (1 + 0) 0) k
new_last p (x ∷ xs) y h k = go (p x) refl h (new_last p xs y)
  where
    go : (b : Bool) → p x ≡ b → (p x || list_any p xs) ≡ false → (list_any p xs ≡ false → p y ≡ true → position_or_len p (xs ++ y ∷ []) ≡ length xs) → cond (not (p x)) (1 + position_or_len p (xs ++ y ∷ [])) 0 ≡ suc (length xs)
    go true e h ih = let z : true ≡ false = sym (ap (λ b. b || list_any p xs) e) ∙ h in cc
    go false e h ih =
        let rest : list_any p xs ≡ false = sym (ap (λ b. b || list_any p xs) e) ∙ h in
        let n : position_or_len p (xs ++ y ∷ []) ≡ length xs = ih rest k in
        ap (λ b. cond (not b) (1 + position_or_len p (xs ++ y ∷ [])) 0) e ∙ (omega (arith, n))

-- ---- what is told of names

told_there : {A : Type 0} (es : Told A) (k : Name) (v : A) → what (with_told es k v) k ≡ Some v
told_there [] k v = ap (λ b. cond b (Some v) None) (itself k)
told_there (e ∷ es) k v = go (name_eq k e.0) refl (told_there es k v)
  where
    go : (b : Bool) → name_eq k e.0 ≡ b → what (with_told es k v) k ≡ Some v → what (cond b ((e.0, v) ∷ es) (e ∷ with_told es k v)) k ≡ Some v
    go true t ih = ap (λ b. cond b (Some v) (what es k)) t
    go false t ih = ap (λ b. cond b (Some e.1) (what (with_told es k v) k)) t ∙ ih

told_elsewhere : {A : Type 0} (es : Told A) (k : Name) (v : A) (q : Name) → name_eq q k ≡ false → what (with_told es k v) q ≡ what es q
told_elsewhere [] k v q n = ap (λ b. cond b (Some v) None) n
told_elsewhere (e ∷ es) k v q n = go (name_eq k e.0) refl (told_elsewhere es k v q n)
  where
    go : (b : Bool) → name_eq k e.0 ≡ b → what (with_told es k v) q ≡ what es q → what (cond b ((e.0, v) ∷ es) (e ∷ with_told es k v)) q ≡ what (e ∷ es) q
    go true t ih =
        let other : name_eq q e.0 ≡ false = ap (name_eq q) (sym (same k e.0 t)) ∙ n in
        ap (λ b. cond b (Some v) (what es q)) other ∙ sym (ap (λ b. cond b (Some e.1) (what es q)) other)
    go false t ih = ap (cond (name_eq q e.0) (Some e.1)) ih

-- ---- storage

abbrev member : Name → Member
member name = record { block = []; name = name }

abbrev place : ℕ → Place
place k = record { block = []; from = saturated k }

pub total_is : (ns : List Name) → total (sizes thin_facts) [] (map member ns) ≡ length ns
total_is [] = refl
total_is (n ∷ ns) = sum_by-cons _ (member n) (map member ns) ∙ (let t = total_is ns in omega (arith, t))

placed_push : (before xs : List Member) (x : Member) → placed (sizes thin_facts) before (xs ++ x ∷ []) ≡ placed (sizes thin_facts) before xs ++ place_at x (saturated (total (sizes thin_facts) x.block (before ++ xs))) ∷ []
placed_push before [] x = ap (λ m. place_at x (saturated (total (sizes thin_facts) x.block m)) ∷ []) (sym (append-nil before))
placed_push before (y ∷ xs) x =
    ap (λ ps. place_at y (saturated (total (sizes thin_facts) y.block before)) ∷ ps) (placed_push (before ++ y ∷ []) xs x
    ∙ ap (λ m. placed (sizes thin_facts) (before ++ y ∷ []) xs ++ place_at x (saturated (total (sizes thin_facts) x.block m)) ∷ []) (append_assoc before (y ∷ []) xs))

abbrev own_places : List Name → Told Place
own_places ns = places (sizes thin_facts) (map member ns)

-- one name more
own_more : (ns : List Name) (n : Name) → own_places (ns ++ n ∷ []) ≡ with_told (own_places ns) n (place (length ns))
own_more ns n =
    ap (λ ms. told (placed (sizes thin_facts) [] ms)) (map-append member ns (n ∷ []))
    ∙ (ap told (placed_push [] (map member ns) (member n))
    ∙ (fold-append with_pair [] (placed (sizes thin_facts) [] (map member ns)) (place_at (member n) (saturated (total (sizes thin_facts) [] (map member ns))) ∷ [])
    ∙ ap (λ k. with_told (own_places ns) n (place k)) (total_is ns)))

-- Each of these names has its place.
pub record Placed (ns : List Name) : Type 0 where
  pub at : (q : Name) → is_among ns q ≡ true → what (own_places ns) q ≡ Some (place (offset_of ns q))

placed_none : Placed []
placed_none = record { at = λ q h. cc }

placed_more : (ns : List Name) (n : Name) → is_among ns n ≡ false → Placed ns → Placed (ns ++ n ∷ [])
placed_more ns n new p = record { at = λ q h. ap (λ t. what t q) (own_more ns n) ∙ go q (is_among ns q) refl (sym (list_any-append (name_eq q) ns (n ∷ [])) ∙ h) }
  where
    or_none : (b : Bool) → (b || false) ≡ true → b ≡ true
    or_none true e = e
    or_none false e = e

    go : (q : Name) (b : Bool) → is_among ns q ≡ b → (is_among ns q || (name_eq q n || false)) ≡ true → what (with_told (own_places ns) n (place (length ns))) q ≡ Some (place (offset_of (ns ++ n ∷ []) q))
    go q true e h = old (name_eq q n) refl
      where
        old : (b : Bool) → name_eq q n ≡ b → what (with_told (own_places ns) n (place (length ns))) q ≡ Some (place (offset_of (ns ++ n ∷ []) q))
        old true t = let z : true ≡ false = sym e ∙ (ap (is_among ns) (same q n t) ∙ new) in cc
        old false t = told_elsewhere (own_places ns) n (place (length ns)) q t ∙ (p.at q e ∙ ap (λ k. Some (place k)) (sym (found_stays (name_eq q) ns (n ∷ []) e)))
    go q false e h =
        let is : name_eq q n ≡ true = or_none (name_eq q n) (or_true (is_among ns q) (name_eq q n || false) h e) in
        let at : offset_of (ns ++ n ∷ []) q ≡ length ns = new_last (name_eq q) ns n e is in
        ap (λ q. what (with_told (own_places ns) n (place (length ns))) q) (same q n is)
        ∙ (told_there (own_places ns) n (place (length ns)) ∙ ap (λ k. Some (place k)) (sym at))

placed_with : (ns : List Name) (n : Name) → Placed ns → Placed (with_name ns n)
placed_with ns n p = go (is_among ns n) refl
  where
    go : (b : Bool) → is_among ns n ≡ b → Placed (if b then ns else ns ++ n ∷ [])
    go true e = p
    go false e = placed_more ns n e p

placed_all : (ns more : List Name) → Placed ns → Placed (fold with_name ns more)
placed_all ns [] p = p
placed_all ns (n ∷ more) p = placed_all (with_name ns n) more (placed_with ns n p)

pub placed_names : (all : List Name) → Placed (distinct all)
placed_names all = placed_all [] all placed_none

-- ---- slots

abbrev knowns : List Name → List Known
knowns ns = map (known thin_facts) ns

members_are : (ns : List Name) → locals thin_facts [] (knowns ns) ≡ map member ns
members_are [] = refl
members_are (n ∷ ns) = ap (λ ms. member n ∷ ms) (members_are ns)

abbrev slot : Told Place → Name → Slot
slot own n = own_slot thin_facts [] own (known thin_facts n)

slots_are : (own : Told Place) (ns : List Name) → flat_map (slot_of thin_facts [] own) (knowns ns) ≡ map (slot own) ns
slots_are own [] = refl
slots_are own (n ∷ ns) = ap (λ ss. slot own n ∷ ss) (slots_are own ns)

pub thin_slots : (ns : List Name) → slots_with thin_facts [] (knowns ns) ≡ map (slot (own_places ns)) ns
thin_slots ns = ap (λ ms. flat_map (slot_of thin_facts [] (places (sizes thin_facts) ms)) (knowns ns)) (members_are ns) ∙ slots_are (own_places ns) ns

pub thin_size : (ns : List Name) → local_size_with thin_facts [] (knowns ns) ≡ saturated (length ns)
thin_size ns = ap (λ ms. saturated (total (sizes thin_facts) [] ms)) (members_are ns) ∙ ap saturated (total_is ns)

found_slot : (own : Told Place) (ns : List Name) (name : Name) → is_among ns name ≡ true → slot_named (map (slot own) ns) name ≡ Some (slot own name)
found_slot own [] name h = cc
found_slot own (n ∷ ns) name h = go (name_eq name n) refl (found_slot own ns name)
  where
    go : (b : Bool) → name_eq name n ≡ b → (is_among ns name ≡ true → slot_named (map (slot own) ns) name ≡ Some (slot own name)) → cond (name_eq name n) (Some (slot own n)) (slot_named (map (slot own) ns) name) ≡ Some (slot own name)
    go true e ih = ap (λ b. cond b (Some (slot own n)) (slot_named (map (slot own) ns) name)) e ∙ ap (λ n. Some (slot own n)) (sym (same name n e))
    go false e ih = ap (λ b. cond b (Some (slot own n)) (slot_named (map (slot own) ns) name)) e ∙ ih (or_true (name_eq name n) (is_among ns name) h e)

-- ---- what the names stand for

module _ (u : SourceUnit) (body : List Statement) (is : IsThinUnit u body) where
  no_commons : commons (declarations u.statements) ≡ []
  no_commons = ap commons (declarations_are u body is)

  slots_of_unit : slots u ≡ map (slot (own_places (names_of body))) (names_of body)
  slots_of_unit = (λ i. slots_with (facts_are u body is i) (no_commons i) (names_are u body is i)) ∙ thin_slots (names_of body)

  pub size_of_unit : local_size u ≡ saturated (length (names_of body))
  size_of_unit = (λ i. local_size_with (facts_are u body is i) (no_commons i) (names_are u body is i)) ∙ thin_size (names_of body)

  below : (n k : ℕ) → k ≤ n → n ≤ 16777216 → saturated k ≡ k
  below n k l m = omega (arith, l, m)

  offset_is : (name : Name) → length (names_of body) ≤ 16777216 → saturated (offset_of (names_of body) name) ≡ offset_of (names_of body) name
  offset_is name few = below (length (names_of body)) (offset_of (names_of body) name) (prefix_len-le-length (λ x. not (name_eq name x)) (names_of body)) few

  -- a name that stands in the text
  pub meant : length (names_of body) ≤ 16777216 → (name : Name) → is_among (names_of body) name ≡ true → meant_in (facts u) (slots u) name ≡ Variable types.Integer (Own (offset_of (names_of body) name))
  meant few name h =
      let ns = names_of body in
      let own = own_places ns in
      (λ i. meant_in (facts_are u body is i) (slots_of_unit i) name)
      ∙ (ap (meant_as [] name Scalar) (found_slot own ns name h)
      ∙ ((λ i. Variable (integer name i) (Own (from_of (what_is i))))
      ∙ ap (λ k. Variable types.Integer (Own k)) (offset_is name few)))
    where
      what_is : what (own_places (names_of body)) name ≡ Some (place (offset_of (names_of body) name))
      what_is = (placed_names (flat_map statement_names body)).at name h
