-- A name whose declarators give it bounds is among the arrays, so what is no array has one storage unit.
use Rattle.std.proofs.Common.{◌≡◌, ◌==◌, Bool, true, false, ◌&&◌, ◌||◌, Option, Some, None, List, [], ◌∷◌, ◌++◌, length, map, flat_map, refl, sym, ap, ◌∙◌, subst, if◌then◌else◌}
use Rattle.std.specs.List.{list_any}
use Rattle.std.proofs.lemmas.Grind.{flat_map-append}
use Rattle.f77_tree.specs.declared.form.Declarator.{Declarator}
use Rattle.f77_tree.specs.declared.form.Form.{Form, out-Form, out-roll-Form, ind-Form, fold-roll-Form}
use Rattle.f77_tree.specs.declared.form.Form.TheFolds.{map-Form}
use Rattle.f77_tree.specs.declared.form.Form.TheOpen.{Form-F}
use Rattle.f77_tree.specs.declared.form.TypeWord.{TypeWord}
use Rattle.f77_tree.specs.declared.unit.Stmt.{Stmt}
use Rattle.f77_tree.specs.declared.unit.Unit.{Unit as SourceUnit}
use Rattle.f77_tree.specs.declared.unit.Value.{Value}
use Rattle.f77_values.specs.Tables.{Name, name_eq, is_among, what, Told}
use Rattle.f77_values.specs.Constants.{with_statement}
use Rattle.f77_names.specs.declared.declarations.Shape.{Shape}
use Rattle.f77_names.specs.declared.facts.Facts.{Facts}
use Rattle.f77_names.specs.declared.occurrences.Manner.TheVariants.{Dimensioned, Plain}
use Rattle.f77_names.specs.declared.occurrences.Occurrence.{Occurrence}
use Rattle.f77_names.specs.Declarations.{word_of, declared, of_head, in_block as block_told, in_form as form_told, declarations_from, declarations, shape_told}
use Rattle.f77_names.specs.Occurrences.{Occurrences, is_manner, names_that, in_bound, in_declarator, in_block, form_step, in_form, in_statement, in_head, occurrences}
use Rattle.f77_names.specs.declared.roles.Role.{Role}
use Rattle.f77_names.specs.declared.roles.Role.TheVariants.{Scalar, Array, Constant, Intrinsic, Function, Subroutine, Procedure}
use Rattle.f77_names.specs.Roles.{facts, bounds_of, constant_of, is_intrinsic, is_function, role, known, in_order, names}
use Rattle.f77_store.specs.declared.areas.Place.{Place}
use Rattle.f77_store.specs.declared.storage.Slot.{Slot}
use Rattle.f77_store.specs.Areas.{units_of, commons}
use Rattle.f77_store.specs.Layouts.{is_array, is_variable, is_dummy, dummy_slot, own_slot, slot_of, common_places, local_places, slots}
use Rattle.store_laws.specs.Laws.{ScalarsAreSingle}
use Rattle.store_laws.proofs.Lists.{Each, each_both, each_at, any-append, contra}
use Rattle.store_laws.proofs.Told.{name_self, first_each, what_each, distinct_among}

-- ---- a declarator with bounds makes its name an array

module _ (name : Name) where
  -- the name stands in a declarator with bounds
  abbrev given : Occurrence → Bool
  given o = is_manner Dimensioned o.manner && name_eq name o.name

  any_left : (a b : Bool) → a ≡ true → (a || b) ≡ true
  any_left true b h = refl
  any_left false b h = contra (sym h)

  any_right : (a b : Bool) → b ≡ true → (a || b) ≡ true
  any_right true b h = refl
  any_right false b h = h

  among_arrays : (all : Occurrences) → list_any given all ≡ true → is_among (names_that Dimensioned all) name ≡ true
  among_arrays [] h = h
  among_arrays (o ∷ all) h = go (is_manner Dimensioned o.manner) h (among_arrays all)
    where
      go : (b : Bool) → ((b && name_eq name o.name) || list_any given all) ≡ true → (list_any given all ≡ true → is_among (names_that Dimensioned all) name ≡ true) → is_among ((if b then o.name ∷ [] else []) ++ names_that Dimensioned all) name ≡ true
      go true h rest = split (name_eq name o.name) h
        where
          split : (c : Bool) → (c || list_any given all) ≡ true → (c || is_among (names_that Dimensioned all) name) ≡ true
          split true h = refl
          split false h = rest h
      go false h rest = rest h

-- What is told of shapes is told of names that are given so here.
abbrev GivenIn : Occurrences → Name × Shape → Type 0
GivenIn all pair = list_any (given pair.0) all ≡ true

to_left : (xs ys : Occurrences) (pair : Name × Shape) → GivenIn xs pair → GivenIn (xs ++ ys) pair
to_left xs ys pair h = any-append (given pair.0) xs ys ∙ any_left pair.0 (list_any (given pair.0) xs) (list_any (given pair.0) ys) h

to_right : (xs ys : Occurrences) (pair : Name × Shape) → GivenIn ys pair → GivenIn (xs ++ ys) pair
to_right xs ys pair h = any-append (given pair.0) xs ys ∙ any_right pair.0 (list_any (given pair.0) xs) (list_any (given pair.0) ys) h

weaker : {A : Type 0} (P Q : A → Type 0) → ((x : A) → P x → Q x) → (xs : List A) → Each P xs → Each Q xs
weaker P Q g [] h = tt
weaker P Q g (x ∷ xs) h = (g x h.0, weaker P Q g xs h.1)

one_told : (named : Told Value) (word : Option TypeWord) (block : Option Name) (d : Declarator) → Each (GivenIn (in_declarator d)) (shape_told (declared named word block d))
one_told named word block d = go (length d.bounds == 0)
  where
    go : (b : Bool)
        → Each (GivenIn (record { name = d.name; manner = if b then Plain else Dimensioned } ∷ flat_map in_bound d.bounds)) (if b then [] else (d.name, record { bounds = d.bounds; size = (declared named word block d).size }) ∷ [])
    go true = tt
    go false = (ap (λ b. b || list_any (given d.name) (flat_map in_bound d.bounds)) (name_self d.name), tt)

list_told : (named : Told Value) (word : Option TypeWord) (block : Option Name) (all : List Declarator) → Each (GivenIn (flat_map in_declarator all)) (flat_map shape_told (map (declared named word block) all))
list_told named word block [] = tt
list_told named word block (d ∷ all) =
    each_both (GivenIn (flat_map in_declarator (d ∷ all))) (shape_told (declared named word block d)) (flat_map shape_told (map (declared named word block) all))
    (weaker (GivenIn (in_declarator d)) (GivenIn (flat_map in_declarator (d ∷ all))) (to_left (in_declarator d) (flat_map in_declarator all)) (shape_told (declared named word block d)) (one_told named word block d))
    (weaker (GivenIn (flat_map in_declarator all)) (GivenIn (flat_map in_declarator (d ∷ all))) (to_right (in_declarator d) (flat_map in_declarator all)) (flat_map shape_told (map (declared named word block) all)) (list_told named word block all))

blocks_told : (named : Told Value) (blocks : List (Name × List Declarator)) → Each (GivenIn (flat_map in_block blocks)) (flat_map shape_told (flat_map (block_told named) blocks))
blocks_told named [] = tt
blocks_told named (b ∷ blocks) =
    subst (Each (GivenIn (flat_map in_block (b ∷ blocks)))) (sym (flat_map-append shape_told (block_told named b) (flat_map (block_told named) blocks)))
    (each_both (GivenIn (flat_map in_block (b ∷ blocks))) (flat_map shape_told (block_told named b)) (flat_map shape_told (flat_map (block_told named) blocks))
    (weaker (GivenIn (in_block b)) (GivenIn (flat_map in_block (b ∷ blocks))) (to_left (in_block b) (flat_map in_block blocks)) (flat_map shape_told (block_told named b)) (list_told named None (Some b.0) b.1))
    (weaker (GivenIn (flat_map in_block blocks)) (GivenIn (flat_map in_block (b ∷ blocks))) (to_right (in_block b) (flat_map in_block blocks)) (flat_map shape_told (flat_map (block_told named) blocks)) (blocks_told named blocks)))

head_told : (all : Occurrences) (word : Option TypeWord) (name : Name) → Each (GivenIn all) (flat_map shape_told (of_head word name))
head_told all None name = tt
head_told all (Some word) name = tt

abbrev parts : Form-F Form → Occurrences
parts F = form_step (map-Form Form Occurrences in_form F)

layer_told : (named : Told Value) (F : Form-F Form) → Each (GivenIn (parts F)) (flat_map shape_told (form_told named F))
layer_told named (Form-F.Head kind word name dummies) = head_told [] word name
layer_told named (Form-F.Typed ty all) = list_told named (Some (word_of ty)) None all
layer_told named (Form-F.Dimension all) = list_told named None None all
layer_told named (Form-F.Common blocks) = blocks_told named blocks
layer_told named F = tt

abbrev Opens : Form → Type 0
Opens form = in_form form ≡ parts (out-Form form)

opens : (form : Form) → Opens form
opens = ind-Form Opens (λ x y is. fold-roll-Form Occurrences form_step x ∙ ap (λ z. form_step (map-Form Form Occurrences in_form z)) (sym (out-roll-Form x)))

statements_told : (named : Told Value) (ss : List Stmt) → Each (GivenIn (flat_map in_statement ss)) (flat_map shape_told (declarations_from named ss))
statements_told named [] = tt
statements_told named (s ∷ ss) =
    let here : Each (GivenIn (in_statement s)) (flat_map shape_told (form_told named (out-Form s.form))) = subst (λ all. Each (GivenIn all) (flat_map shape_told (form_told named (out-Form s.form)))) (sym (opens s.form)) (layer_told named (out-Form s.form)) in
    subst (Each (GivenIn (flat_map in_statement (s ∷ ss)))) (sym (flat_map-append shape_told (form_told named (out-Form s.form)) (declarations_from (with_statement named s) ss)))
    (each_both (GivenIn (flat_map in_statement (s ∷ ss))) (flat_map shape_told (form_told named (out-Form s.form))) (flat_map shape_told (declarations_from (with_statement named s) ss))
    (weaker (GivenIn (in_statement s)) (GivenIn (flat_map in_statement (s ∷ ss))) (to_left (in_statement s) (flat_map in_statement ss)) (flat_map shape_told (form_told named (out-Form s.form))) here)
    (weaker (GivenIn (flat_map in_statement ss)) (GivenIn (flat_map in_statement (s ∷ ss))) (to_right (in_statement s) (flat_map in_statement ss)) (flat_map shape_told (declarations_from (with_statement named s) ss)) (statements_told (with_statement named s) ss)))

-- the role of a name that is no array
abbrev role_of_others : Facts → Name → Role
role_of_others f name =
    if is_among f.attributes.constants name then Constant (constant_of (what f.constants name))
    else (if is_intrinsic f.attributes name then Intrinsic
    else (if is_function f.attributes name then Function
    else (if is_among f.attributes.called name then Subroutine
    else (if is_among f.attributes.external name then Procedure
    else Scalar))))

module _ (u : SourceUnit) where
  abbrev f : Facts
  f = facts u

  shaped_is_array : (name : Name) (shape : Shape) → what f.shapes name ≡ Some shape → is_among f.attributes.arrays name ≡ true
  shaped_is_array name shape e =
      distinct_among (names_that Dimensioned (occurrences u)) name
      (among_arrays name (occurrences u)
      (to_right (in_head u) (flat_map in_statement u.statements) (name, shape)
      (what_each (GivenIn (flat_map in_statement u.statements)) f.shapes name shape (first_each (GivenIn (flat_map in_statement u.statements)) (flat_map shape_told (declarations u.statements)) [] tt (statements_told [] u.statements)) e)))

  array_is : (name : Name) → is_among f.attributes.arrays name ≡ true → is_array (role f name) ≡ true
  array_is name h = ap (λ b. is_array (if b then Array (bounds_of (what f.shapes name)) else role_of_others f name)) h

  single : (name : Name) → is_array (role f name) ≡ false → units_of (what f.shapes name) ≡ 1
  single name scalar = go (what f.shapes name) refl
    where
      go : (o : Option Shape) → what f.shapes name ≡ o → units_of o ≡ 1
      go None e = refl
      go (Some shape) e = contra (sym (array_is name (shaped_is_array name shape e)) ∙ scalar)

  abbrev common_at : Told Place
  common_at = common_places f (commons (declarations u.statements))

  abbrev own_at : Told Place
  own_at = local_places f (commons (declarations u.statements)) (names u)

  abbrev IsSingle : Slot → Type 0
  IsSingle s = s.is_array ≡ false → s.size ≡ 1

  slots_of_single : (name : Name) → Each IsSingle (slot_of f common_at own_at (known f name))
  slots_of_single name = go (is_dummy f (known f name)) (is_variable (role f name))
    where
      go : (d v : Bool) → Each IsSingle (if d then dummy_slot f (known f name) ∷ [] else (if v then own_slot f common_at own_at (known f name) ∷ [] else []))
      go true v = ((λ e. ap (λ (b : Bool). if b then 0 else 1) e), tt)
      go false true = (single name, tt)
      go false false = tt

  all_single : (ns : List Name) → Each IsSingle (flat_map (slot_of f common_at own_at) (map (known f) ns))
  all_single [] = tt
  all_single (n ∷ ns) = each_both IsSingle (slot_of f common_at own_at (known f n)) (flat_map (slot_of f common_at own_at) (map (known f) ns)) (slots_of_single n) (all_single ns)

pub scalars_single : ScalarsAreSingle
scalars_single u i s e = each_at (IsSingle u) (slots u) i s (all_single u (in_order (occurrences u))) e
