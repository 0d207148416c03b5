-- In a unit that passed its checks each name stands for what its role says.
use Rattle.std.proofs.Common.{◌≡◌, ℕ, suc, ◌-◌, ◌≤◌, ◌==◌, get_or, Bool, true, false, not, ◌&&◌, ◌||◌, nat_lt, Option, Some, None, List, [], ◌∷◌, ◌++◌, length, map, flat_map, take, slice_get, option_map, unwrap_or, refl, sym, ap, ◌∙◌, subst, arith, is_some, if◌then◌else◌}
use Rattle.std.specs.List.{list_any}
use Rattle.std.proofs.lemmas.Grind.{flat_map-append}
use Rattle.std.proofs.lemmas.Option.{slice_get_within, slice_get-get_or}
use Rattle.f77_tree.specs.declared.expr.Expr.{Expr}
use Rattle.f77_tree.specs.declared.form.Declarator.{Declarator}
use Rattle.f77_tree.specs.declared.form.Form.{Form, out-Form}
use Rattle.f77_tree.specs.declared.form.Form.TheFolds.{map-Form}
use Rattle.f77_tree.specs.declared.form.Form.TheOpen.{Form-F}
use Rattle.f77_tree.specs.declared.unit.Stmt.{Stmt}
use Rattle.f77_tree.specs.declared.unit.Ty.{Ty}
use Rattle.f77_tree.specs.declared.unit.Unit.{Unit as SourceUnit}
use Rattle.f77_tree.specs.declared.unit.UnitKind.{UnitKind}
use Rattle.f77_tree.specs.declared.unit.UnitKind.TheVariants as kind
use Rattle.f77_tree.specs.declared.unit.Value.{Value}
use Rattle.f77_store.specs.declared.areas.Place.{Place}
use Rattle.f77_names.specs.declared.attributes.Attributes.{Attributes}
use Rattle.f77_names.specs.declared.declarations.Shape.{Shape}
use Rattle.f77_names.specs.declared.occurrences.Manner.{Manner}
use Rattle.f77_names.specs.declared.occurrences.Manner.TheVariants as manner
use Rattle.f77_names.specs.declared.occurrences.Occurrence.{Occurrence}
use Rattle.f77_names.specs.declared.facts.Facts.{Facts}
use Rattle.f77_names.specs.declared.roles.Role.{Role}
use Rattle.f77_names.specs.declared.roles.Role.TheVariants as role
use Rattle.f77_store.specs.declared.storage.Slot.{Slot}
use Rattle.f77_store.specs.Areas.{units_of, size_of}
use Rattle.f77_values.specs.Constants.{constants}
use Rattle.f77_names.specs.Intrinsics.{intrinsic_of}
use Rattle.f77_store.specs.Layouts.{common_area, dummy_slot, is_array, is_variable as is_variable_role, own_slot, position, slots}
use Rattle.f77_values.specs.Tables.{Name, name_eq, is_among, distinct, Told, what, saturated}
use Rattle.f77_names.specs.Occurrences.{Occurrences, occurs, own_name, in_head, in_statement, occurrences, is_manner, names_that}
use Rattle.f77_names.specs.Roles.{facts, is_applied, is_in_table, is_intrinsic, is_function, bounds_of, constant_of, known as known_as, role as role_of, role_type, type_of}
use Rattle.f77_values.specs.Sizes.{Bounds, elements}
use Rattle.f77_names.specs.Types.{name_word, storage_type}
use Rattle.check_names.specs.declared.attribute.Attribute.TheVariants.{ResultVariable, Array, Constant, Subroutine, Procedure, Intrinsic, Function}
use Rattle.check_names.specs.declared.attribute.Given.{Given}
use Rattle.check_names.specs.Conflicts.{conflict_in, given_by, given_at}
use Rattle.check_names.specs.Exclusions.{has, is_excluded}
use Rattle.check_names.specs.Givings.{Givings, by_form, by_occurrence}
use Rattle.check_names.specs.LargeArrays.{exceeds, is_large, has_large}
use Rattle.check_names.specs.NameFaults.{untyped}
use Rattle.check_names.specs.Places.{where_stands, before, in_text, occurrences_at}
use Rattle.check_names.specs.Untyped.{has_type as is_typed, is_function_kind, is_result, is_variable, is_new_untyped, seen_before, untyped_at}
use Rattle.check_types.specs.declared.breaks.Rule.{Rule}
use Rattle.check_types.specs.declared.breaks.Rule.TheVariants.{Types, Exponents}
use Rattle.f77_names.specs.declared.standings.Standing.TheVariants as standings
use Rattle.check_types.specs.Breaks.{bound_breaks, declarator_breaks, definition_breaks, form_step, form_breaks}
use Rattle.check_types.specs.Overreaching.{definitions_overreach, overreaches_in}
use Rattle.f77_names.specs.Standings.{is_called, standing, standing_of}
use Rattle.check_constants.specs.declared.defined.Defined.{Defined}
use Rattle.check_constants.specs.Needed.{bounds_lack, declarator_lacks, form_lacks, lacks_values}
use Rattle.check_constants.specs.Faults.{in_commons}
use Rattle.f77_semantics.specs.Source.{routine, slot_named}
use Rattle.f77_semantics.specs.Units.{is_array as is_array_of, total as total_of}
use Rattle.f77_semantics.specs.Terms as names
use Rattle.f77_semantics.specs.Terms.{Meant, array_of, base_at, base_of, bounds_at, extent_of, meant_as, intrinsic_meant}
use Rattle.f77_semantics.specs.Effects.{Effects, ScalarOk, ArrayOk_, ArrayOk}
use Rattle.f77_check.specs.UnitFaults.{IsSound, of_names}
use Rattle.prog_texts.specs.Mentions as said
use Rattle.prog_texts.specs.Mentions.{is_dummy_procedure, mentions}
use Rattle.sound_units.specs.Sites.{Each}
use Rattle.sound_units.specs.Texts.{guards_action}
use Rattle.sound_units.specs.Checked.{passing, StandsForVariable, StandsForArray, StandsForConstant, StandsForIntrinsic, StandsForFunction, StandsFor, HasList, IsSubroutine, ListFits, NameFits}
use Rattle.sound_units.specs.Units.{meant_of, effects}
use Rattle.sound_units.specs.Accepted.{IsTextOf, PassesNoProcedure}
use Rattle.sound_units.proofs.Clearing.{clear, not_typed, not_overreaching, not_lacking, not_large}
use Rattle.sound_units.proofs.Defining.{given_constant, kept_value, among_constants, in_its_text, in_unit}
use Rattle.sound_units.proofs.Excluding.{not_conflicting, total, occurrence_gives, among_given, applied_function, clash, role_by, listed_intrinsic, not_intrinsic, no_array, no_constant, no_intrinsic, called_role}
use Rattle.sound_units.proofs.Giving.{Place as Stated, same, and_false_right, any_left, any_right, among_distinct, among_names, before_any, occurs_so, placed_in}
use Rattle.sound_units.proofs.Heads.{all_different, head_dummies, dummy_is_array}
use Rattle.sound_units.proofs.Listing.{ListedAs, Listed, form_listed}
use Rattle.sound_units.proofs.Lists.{or_left, or_right, any-append, untrue}
use Rattle.sound_units.proofs.Manners.{definitions_in, defines, defined_here}
use Rattle.sound_units.proofs.Opening.{opens}
use Rattle.sound_units.proofs.Parameters.{Named, DefinitionsChecked, before_statement, values_are, defined_behind, constants_known}
use Rattle.sound_units.proofs.Shaping.{declarators_in, in_blocks, shape_under, Tells, shape_is, holds_all, holds_some}
use Rattle.sound_units.proofs.Slots.{names_so, commons_of, locals_of, slot_for, slot_is, slot_type}
use Rattle.sound_units.proofs.Tables.{name_self, opposite, each_of, each_at, each_both, each_map, none_of, any_here, any_flat, known, distinct_among, names_among}
use Rattle.sound_units.proofs.Typing.{typed}
use Rattle.sound_units.proofs.Valuing.{ty_of, itself_typed, ConstantKnown}

module _ (u : SourceUnit) (sound : IsSound u) (text : IsTextOf u) where
  abbrev f : Facts
  f = facts u

  abbrev a : Attributes
  a = (facts u).attributes

  abbrev ss : List Stmt
  ss = u.statements

  abbrev meant : Name → Meant
  meant = meant_of u

  abbrev S : Effects
  S = effects u

  pub guards : (k : ℕ) (s : Stmt) → slice_get u.statements k ≡ Some s → guards_action (out-Form s.form) ≡ true
  guards k s e = (text.each k s e).guards

  pub apart : (k : ℕ) → conflict_in (before (given_at (facts u).attributes u) k) (given_at (facts u).attributes u k) ≡ false
  apart k = not_conflicting u sound text k

  -- ---- constants

  -- A named constant that is known at a statement has the value that it has in the whole unit.
  pub keeps_value : (k : ℕ) (name : Name) (v : Value) → what (constants (take k u.statements)) name ≡ Some v → what (constants u.statements) name ≡ Some v
  keeps_value k name v h = kept_value u apart guards k name v h

  constant_array : (name : Name) → has (total u sound text name) Constant ≡ true → has (total u sound text name) Array ≡ true → ⊥
  unfolding same
  constant_array name = clash u sound text Constant Array refl refl (λ g h. or_left _ _ (or_left _ _ (or_left _ _ (or_left _ _ h)))) (λ g h. or_left _ _ (or_left _ _ h)) name

  pub constant_no_array : (name : Name) → is_among (facts u).attributes.constants name ≡ true → is_among (facts u).attributes.arrays name ≡ false
  constant_no_array name c = untrue (is_among a.arrays name) (λ t. constant_array name (among_given u sound text manner.Defined name Constant refl c) (among_given u sound text manner.Dimensioned name Array refl t))

  constant_role : (name : Name) → is_among a.constants name ≡ true → role_of f name ≡ role.Constant (constant_of (what f.constants name))
  constant_role name c =
      let array : is_among a.arrays name ≡ false = constant_no_array name c in
      λ i. role_by u sound text name (array i) (c i) (is_intrinsic a name) (is_function a name) (is_among a.called name) (is_among a.external name)

  -- a constant of a known value
  constant_meant : (name : Name) (v : Value) → is_among a.constants name ≡ true → what f.constants name ≡ Some v → meant name ≡ names.Constant v
  constant_meant name v c h =
      ap (λ r. meant_as f.constants name r (slot_named (slots u) name)) (constant_role name c)
      ∙ ap (λ o. meant_as f.constants name (role.Constant (constant_of o)) (slot_named (slots u) name)) h

  pub known_values : (k : ℕ) (name : Name) (v : Value) → what (constants (take k u.statements)) name ≡ Some v → meant_of u name ≡ names.Constant v
  known_values k name v h = constant_meant name v (given_constant u apart guards k name v h).1 (keeps_value k name v h)

  -- ---- names that occur

  record Occurs (name : Name) : Type 0 where
    found : list_any (names_so name) (occurrences u) ≡ true
    before_end : list_any (names_so name) (before (occurrences_at u) (length ss)) ≡ true

  occurs_in : (k : ℕ) (s : Stmt) → slice_get ss k ≡ Some s → (name : Name) → list_any (names_so name) (in_statement s) ≡ true → Occurs name
  occurs_in k s e name here = record {
    found = in_unit u apart guards (names_so name) k s e here;
    before_end = before_any (names_so name) (occurrences_at u) (length ss) k (slice_get_within ss k s e)
        (ap (λ x. list_any (names_so name) (where_stands [] (in_text u (k == 0)) x)) e ∙ in_its_text u apart guards (names_so name) (k == 0) s here);
  }

  occurs_at : (k : ℕ) (s : Stmt) → slice_get ss k ≡ Some s → (i : ℕ) (o : Occurrence) → slice_get (in_statement s) i ≡ Some o → Occurs o.name
  occurs_at k s e i o at = occurs_in k s e o.name (any_here (names_so o.name) (in_statement s) i o at (name_self o.name))

  first : Stmt
  first = get_or ss 0 text.last

  first_stands : slice_get ss 0 ≡ Some first
  unfolding first
  first_stands = let l = slice_get_within ss (length ss - 1) text.last text.stands in slice_get-get_or ss 0 text.last (omega arith)

  occurs_in_head : (name : Name) → list_any (names_so name) (in_head u) ≡ true → Occurs name
  occurs_in_head name h = record {
    found = any-append (names_so name) (in_head u) (flat_map in_statement ss) ∙ any_left (list_any (names_so name) (in_head u)) (list_any (names_so name) (flat_map in_statement ss)) h;
    before_end = before_any (names_so name) (occurrences_at u) (length ss) 0 (slice_get_within ss 0 first first_stands)
        (ap (λ x. list_any (names_so name) (where_stands [] (in_text u true) x)) first_stands
        ∙ (any-append (names_so name) (in_head u) (in_statement first) ∙ any_left (list_any (names_so name) (in_head u)) (list_any (names_so name) (in_statement first)) h));
  }

  -- ---- types

  nothing_new : (k : ℕ) → list_any (is_new_untyped u f (seen_before u k)) (occurrences_at u k) ≡ false
  nothing_new k = go (slice_get ss k) refl
    where
      go : (o : Option Stmt) → slice_get ss k ≡ o → list_any (is_new_untyped u f (seen_before u k)) (occurrences_at u k) ≡ false
      go None e = ap (λ o. list_any (is_new_untyped u f (seen_before u k)) (where_stands [] (in_text u (k == 0)) o)) e
      go (Some s) e = clear ss (λ s. untyped_at f u k) (λ k. untyped_at f u k ≡ true) 13 0 (λ m h. sound.none m (of_names (untyped h))) k s e (λ t. t)

  -- What occurs and is computed with has a type.
  has_a_type : (name : Name) → Occurs name → is_typed u a name ≡ true → (ty : Ty) × (storage_type (name_word f.words f.letters name) ≡ Some ty)
  has_a_type name x h = typed u nothing_new (length ss) name x.before_end h

  typed_as : (name : Name) (r : Role) (ty : Ty) → role_of f name ≡ r → role_type r (name_word f.words f.letters name) ≡ storage_type (name_word f.words f.letters name) → storage_type (name_word f.words f.letters name) ≡ Some ty → type_of f name ≡ Some ty
  typed_as name r ty is same h = ap (λ r. role_type r (name_word f.words f.letters name)) is ∙ (same ∙ h)

  meant_by : (name : Name) (r : Role) → role_of f name ≡ r → meant name ≡ meant_as f.constants name r (slot_named (slots u) name)
  meant_by name r is = ap (λ r. meant_as f.constants name r (slot_named (slots u) name)) is

  -- ---- functions and intrinsics

  function_stands : (name : Name) → Occurs name → is_function a name ≡ true → role_of f name ≡ role.Function → StandsForFunction f meant S name
  function_stands name x h is =
      let t = has_a_type name x (any_left _ (is_variable a name) (any_left _ (is_result u name) (any_right (is_among a.arrays name || is_among a.constants name) (is_function a name) h))) in
      record { ty = t.0; meant_is = meant_by name role.Function is; type_is = typed_as name role.Function t.0 is refl t.1 }

  intrinsic_stands : (name : Name) → is_intrinsic a name ≡ true → role_of f name ≡ role.Intrinsic → StandsForIntrinsic f meant S name
  intrinsic_stands name h is =
      let i = known (intrinsic_of name) (in_table (is_among a.intrinsic name) (is_some (intrinsic_of name)) (is_applied a name) (is_among a.external name) h) in
      record { function = i.0; meant_is = meant_by name role.Intrinsic is ∙ ap intrinsic_meant i.1; type_is = ap (λ r. role_type r (name_word f.words f.letters name)) is; named = i.1 }
    where
      in_table : (b c d e : Bool) → ((b && c) || (d && (c && not e))) ≡ true → c ≡ true
      in_table b true d e h = refl
      in_table true false true e h = cc
      in_table true false false e h = cc
      in_table false false true e h = cc
      in_table false false false e h = cc

  -- ---- dummies

  dummies_apart : conflict_in [] (by_form (out-Form first.form) ++ ((flat_map (by_occurrence a) (own_name u.kind u.name) ++ flat_map (by_occurrence a) (map (occurs manner.Dummy) u.dummies)) ++ flat_map (by_occurrence a) (in_statement first))) ≡ false
  dummies_apart =
      let types : Givings = by_form (out-Form first.form) in
      let own : Occurrences = own_name u.kind u.name in
      let ds : Occurrences = map (occurs manner.Dummy) u.dummies in
      let head : flat_map (by_occurrence a) (own ++ ds) ≡ flat_map (by_occurrence a) own ++ flat_map (by_occurrence a) ds = flat_map-append (by_occurrence a) own ds in
      let given : given_at a u 0 ≡ types ++ flat_map (by_occurrence a) ((own ++ ds) ++ in_statement first) = ap (where_stands [] (given_by a u true)) first_stands in
      let split : flat_map (by_occurrence a) ((own ++ ds) ++ in_statement first) ≡ (flat_map (by_occurrence a) own ++ flat_map (by_occurrence a) ds) ++ flat_map (by_occurrence a) (in_statement first) =
      flat_map-append (by_occurrence a) (own ++ ds) (in_statement first) ∙ ap (λ gs. gs ++ flat_map (by_occurrence a) (in_statement first)) head in
      ap (λ gs. conflict_in [] (types ++ gs)) (sym split) ∙ (ap (conflict_in []) (sym given) ∙ apart 0)

  -- The dummies of the unit are those of its head, in their order.
  pub dummies_are : (facts u).attributes.dummies ≡ u.dummies
  dummies_are = ap distinct (head_dummies u guards) ∙ all_different a (by_form (out-Form first.form)) (flat_map (by_occurrence a) (own_name u.kind u.name)) (flat_map (by_occurrence a) (in_statement first)) u.dummies dummies_apart

  -- ---- variables

  array_at : (name : Name) → is_among a.dummies name ≡ true → is_array_of (routine u).dummy_arrays (position f name) ≡ is_array (role_of f name)
  array_at name h = dummy_is_array f meant u.dummies name dummies_are text.dummies (subst (λ ns. is_among ns name ≡ true) dummies_are h)

  -- what lies in an area of the unit's own, or in COMMON
  scalar_place : (o : Option Place) (from : ℕ) → ScalarOk S (base_at (common_area o) from)
  scalar_place None from = tt
  scalar_place (Some p) from = tt

  abbrev slot_by : Bool → Name → Slot
  slot_by d name = if d then dummy_slot f (known_as f name) else own_slot f (commons_of u) (locals_of u) (known_as f name)

  scalar_fits : (name : Name) → role_of f name ≡ role.Scalar → (d : Bool) → is_among a.dummies name ≡ d → ScalarOk S (base_of (slot_by d name))
  scalar_fits name is true h = array_at name h ∙ ap is_array is
  scalar_fits name is false h = scalar_place (what (commons_of u) name) _

  variable_stands : (name : Name) (ty : Ty) → Occurs name → role_of f name ≡ role.Scalar → storage_type (name_word f.words f.letters name) ≡ Some ty → StandsForVariable f meant S name
  variable_stands name ty x is t =
      let slot : Slot = slot_for u name in
      let type_is : type_of f name ≡ Some ty = typed_as name role.Scalar ty is refl t in
      let slot_found : slot_named (slots u) name ≡ Some slot = slot_is u name x.found (ap is_variable_role is) in
      let same_ty : slot.ty ≡ ty = slot_type f (commons_of u) (locals_of u) name ty type_is in
      record {
        ty = ty;
        base = base_of slot;
        meant_is = (λ i. meant_as f.constants name (is i) (slot_found i)) ∙ ap (λ ty. names.Variable ty (base_of slot)) same_ty;
        type_is = type_is;
        fits = scalar_fits name is (is_among a.dummies name) refl;
      }

  -- ---- a function's own name

  result_constant : (name : Name) → has (total u sound text name) ResultVariable ≡ true → has (total u sound text name) Constant ≡ true → ⊥
  unfolding same
  result_constant name = clash u sound text ResultVariable Constant refl refl (λ g h. or_right _ _ (or_left _ _ h)) (λ g h. or_right _ _ (or_left _ _ (or_left _ _ h))) name

  result_array : (name : Name) → has (total u sound text name) ResultVariable ≡ true → has (total u sound text name) Array ≡ true → ⊥
  unfolding same
  result_array name = clash u sound text ResultVariable Array refl refl (λ g h. or_left _ _ (or_left _ _ (or_left _ _ h))) (λ g h. or_right _ _ (or_left _ _ h)) name

  called_of : (g : Given) → is_excluded g ResultVariable ≡ false → (g.subroutine || g.procedure || g.intrinsic || g.function) ≡ false
  called_of g h = or_right (g.array || g.dummy || g.constant) _ h

  result_function : (name : Name) → has (total u sound text name) ResultVariable ≡ true → has (total u sound text name) Function ≡ true → ⊥
  unfolding same
  result_function name = clash u sound text ResultVariable Function refl refl (λ g h. or_right (g.subroutine || g.procedure || g.intrinsic) g.function (called_of g h)) (λ g h. or_right _ _ (or_left _ _ (or_left _ _ (or_left _ _ h)))) name

  result_intrinsic : (name : Name) → has (total u sound text name) ResultVariable ≡ true → has (total u sound text name) Intrinsic ≡ true → ⊥
  unfolding same
  result_intrinsic name = clash u sound text ResultVariable Intrinsic refl refl (λ g h. or_right (g.subroutine || g.procedure) g.intrinsic (or_left _ g.function (called_of g h))) (λ g h. or_right _ _ (or_left _ _ (or_left _ _ (or_left _ _ (or_left _ _ h))))) name

  result_procedure : (name : Name) → has (total u sound text name) ResultVariable ≡ true → has (total u sound text name) Procedure ≡ true → ⊥
  unfolding same
  result_procedure name = clash u sound text ResultVariable Procedure refl refl (λ g h. or_right g.subroutine g.procedure (or_left _ g.intrinsic (or_left _ g.function (called_of g h)))) (λ g h. or_right _ _ (or_left _ _ (or_left _ _ h))) name

  result_subroutine : (name : Name) → has (total u sound text name) ResultVariable ≡ true → has (total u sound text name) Subroutine ≡ true → ⊥
  unfolding same
  result_subroutine name = clash u sound text ResultVariable Subroutine refl refl (λ g h. or_left g.subroutine g.procedure (or_left _ g.intrinsic (or_left _ g.function (called_of g h)))) (λ g h. or_right _ _ (or_left _ _ (or_left _ _ (or_left _ _ h)))) name

  abbrev own_occurs : UnitKind → Bool
  own_occurs k = list_any (occurs_so manner.ResultName u.name) (own_name k u.name)

  own_is_there : own_occurs kind.Function ≡ true
  unfolding occurs_so
  own_is_there = ap (λ b. b || false) (name_self u.name)

  result_given : u.kind ≡ kind.Function → has (total u sound text u.name) ResultVariable ≡ true
  result_given is =
      let dummies : Occurrences = map (occurs manner.Dummy) u.dummies in
      let here : list_any (occurs_so manner.ResultName u.name) (own_name u.kind u.name) ≡ true = ap own_occurs is ∙ own_is_there in
      let head : list_any (occurs_so manner.ResultName u.name) (in_head u) ≡ true = any-append (occurs_so manner.ResultName u.name) (own_name u.kind u.name) dummies ∙ any_left (own_occurs u.kind) (list_any (occurs_so manner.ResultName u.name) dummies) here in
      occurrence_gives u sound text manner.ResultName u.name ResultVariable refl
      (any-append (occurs_so manner.ResultName u.name) (in_head u) (flat_map in_statement ss) ∙ any_left (list_any (occurs_so manner.ResultName u.name) (in_head u)) (list_any (occurs_so manner.ResultName u.name) (flat_map in_statement ss)) head)

  result_role : u.kind ≡ kind.Function → role_of f u.name ≡ role.Scalar
  result_role is =
      let given = result_given is in
      let array : is_among a.arrays u.name ≡ false = untrue (is_among a.arrays u.name) (λ c. result_array u.name given (among_given u sound text manner.Dimensioned u.name Array refl c)) in
      let constant : is_among a.constants u.name ≡ false = untrue (is_among a.constants u.name) (λ c. result_constant u.name given (among_given u sound text manner.Defined u.name Constant refl c)) in
      let intrinsic : is_intrinsic a u.name ≡ false = not_intrinsic u sound text u.name (result_intrinsic u.name given) in
      let function : is_function a u.name ≡ false = untrue (is_function a u.name) (λ c. result_function u.name given (applied_function u sound text u.name c)) in
      let called : is_among a.called u.name ≡ false = untrue (is_among a.called u.name) (λ c. result_subroutine u.name given (among_given u sound text manner.Called u.name Subroutine refl c)) in
      let external : is_among a.external u.name ≡ false = untrue (is_among a.external u.name) (λ c. result_procedure u.name given (among_given u sound text manner.External u.name Procedure refl c)) in
      λ i. role_by u sound text u.name (array i) (constant i) (intrinsic i) (function i) (called i) (external i)

  own_named : (k : UnitKind) → k ≡ kind.Function → list_any (names_so u.name) (own_name k u.name) ≡ true
  own_named kind.Function e = ap (λ b. b || false) (name_self u.name)
  own_named k e = cc

  function_kind : (k : UnitKind) → k ≡ kind.Function → is_function_kind k ≡ true
  function_kind kind.Function e = refl
  function_kind k e = cc

  -- A function's own name stands for a variable.
  pub result_stands : u.kind ≡ kind.Function → StandsForVariable (facts u) (meant_of u) (effects u) u.name
  result_stands is =
      let dummies : Occurrences = map (occurs manner.Dummy) u.dummies in
      let head : list_any (names_so u.name) (in_head u) ≡ true = any-append (names_so u.name) (own_name u.kind u.name) dummies ∙ any_left (list_any (names_so u.name) (own_name u.kind u.name)) (list_any (names_so u.name) dummies) (own_named u.kind is) in
      let x : Occurs u.name = occurs_in_head u.name head in
      let result : is_result u u.name ≡ true = λ i. (function_kind u.kind is) i && name_self u.name i in
      let t = has_a_type u.name x (any_left _ (is_variable a u.name) (any_right (is_among a.arrays u.name || is_among a.constants u.name || is_function a u.name) (is_result u u.name) result)) in
      variable_stands u.name t.0 x (result_role is) t.1

  -- ---- constants

  any_weaker : (m : Manner) (name : Name) (all : Occurrences) → list_any (occurs_so m name) all ≡ true → list_any (names_so name) all ≡ true
  unfolding occurs_so
  any_weaker m name [] h = h
  any_weaker m name (o ∷ all) h = go (is_manner m o.manner) (name_eq name o.name) h (any_weaker m name all)
    where
      go : (b c : Bool) → ((b && c) || list_any (occurs_so m name) all) ≡ true → (list_any (occurs_so m name) all ≡ true → list_any (names_so name) all ≡ true) → (c || list_any (names_so name) all) ≡ true
      go b true h rest = refl
      go true false h rest = rest h
      go false false h rest = rest h

  abbrev all_at : Stmt → List (Name × Expr)
  all_at s = definitions_in (out-Form s.form)

  -- a name that PARAMETER defines
  constant_named : (k : ℕ) (s : Stmt) → slice_get ss k ≡ Some s → (name : Name) → list_any (defines name) (all_at s) ≡ true → Named f name
  constant_named k s e name h =
      let c : is_among a.constants name ≡ true = among_constants u apart guards name k s e h in
      let occurs_there : list_any (names_so name) (in_statement s) ≡ true = any_weaker manner.Defined name (in_statement s) (defined_here name s (guards k s e) ∙ h) in
      let x : Occurs name = occurs_in k s e name occurs_there in
      let t = has_a_type name x (any_left _ (is_variable a name) (any_left _ (is_result u name) (any_left _ (is_function a name) (any_right (is_among a.arrays name) (is_among a.constants name) c)))) in
      let is : role_of f name ≡ role.Constant (constant_of (what f.constants name)) = constant_role name c in
      record { ty = t.0; type_is = typed_as name (role.Constant (constant_of (what f.constants name))) t.0 is refl t.1; bare = ap (λ r. is_called (standing r)) is }

  parameter_lacks : (d : Defined) (F : Form-F Form) → form_lacks f (in_commons u) d F ≡ false → lacks_values d (definitions_in F) ≡ false
  parameter_lacks d (Form-F.Parameter all) h = h
  parameter_lacks d F h = refl

  parameter_types : (F : Form-F Form) → form_step f f.constants Types (map-Form Form Bool (form_breaks f f.constants Types) F) ≡ false → list_any (definition_breaks f f.constants Types) (definitions_in F) ≡ false
  parameter_types (Form-F.Parameter all) h = h
  parameter_types F h = refl

  parameter_exponents : (named : Told Value) (form : Form) (F : Form-F Form) → overreaches_in f named form F ≡ false → definitions_overreach named (definitions_in F) ≡ false
  parameter_exponents named form (Form-F.Parameter all) h = h
  parameter_exponents named form F h = refl

  definitions_checked : (k : ℕ) (s : Stmt) → slice_get ss k ≡ Some s → DefinitionsChecked f (before_statement f ss k) (definitions_in (out-Form s.form))
  definitions_checked k s e = record {
    named = each_of (λ (x : Name × Expr). Named f x.0) (all_at s) (λ i x at. constant_named k s e x.0 (any_here (defines x.0) (all_at s) i x at (name_self x.0)));
    lacks = parameter_lacks (before_statement f ss k) (out-Form s.form) (not_lacking u sound k s e);
    types = parameter_types (out-Form s.form) (sym (opens (form_step f f.constants Types) s.form) ∙ not_typed u sound k s e);
    exponents = ap (λ named. definitions_overreach named (all_at s)) (values_are f ss k) ∙ parameter_exponents (constants (take k ss)) s.form (out-Form s.form) (not_overreaching u sound k s e);
  }

  -- What is defined before a statement has a value there.
  pub known_at : (k : ℕ) (name : Name) → is_among (before_statement (facts u) u.statements k).names name ≡ true → ConstantKnown (facts u) (before_statement (facts u) u.statements k).values name
  known_at k = constants_known f ss definitions_checked k

  -- what is known at a statement is known in the whole unit
  pub keeps_defined : (k : ℕ) (name : Name) (v : Value) → what (before_statement (facts u) u.statements k).values name ≡ Some v → what (facts u).constants name ≡ Some v
  keeps_defined k name v h = keeps_value k name v (sym (ap (λ named. what named name) (values_are f ss k)) ∙ h)

  head_defines : (name : Name) → list_any (occurs_so manner.Defined name) (in_head u) ≡ false
  unfolding occurs_so
  head_defines name = none_of (λ (o : Occurrence). is_manner manner.Defined o.manner ≡ false) (occurs_so manner.Defined name) (quiet name) (in_head u)
      (each_both (λ (o : Occurrence). is_manner manner.Defined o.manner ≡ false) (own_name u.kind u.name) (map (occurs manner.Dummy) u.dummies) (own u.kind) (each_map (λ (o : Occurrence). is_manner manner.Defined o.manner ≡ false) (occurs manner.Dummy) (λ n. refl) u.dummies))
    where
      quiet : (name : Name) (o : Occurrence) → is_manner manner.Defined o.manner ≡ false → occurs_so manner.Defined name o ≡ false
      quiet name o h = ap (λ b. b && name_eq name o.name) h

      own : (k : UnitKind) → Each (λ (o : Occurrence). is_manner manner.Defined o.manner ≡ false) (own_name k u.name)
      own kind.Function = (refl, tt)
      own k = tt

  constant_stands : (name : Name) → is_among a.constants name ≡ true → StandsForConstant f meant S name
  constant_stands name c =
      let occurs_there : list_any (occurs_so manner.Defined name) (occurrences u) ≡ true = among_names manner.Defined name (occurrences u) (among_distinct (names_that manner.Defined (occurrences u)) name c) in
      let stated : list_any (occurs_so manner.Defined name) (flat_map in_statement ss) ≡ true =
      sym (ap (λ b. b || list_any (occurs_so manner.Defined name) (flat_map in_statement ss)) (head_defines name)) ∙ (sym (any-append (occurs_so manner.Defined name) (in_head u) (flat_map in_statement ss)) ∙ occurs_there) in
      let x : Stated (occurs_so manner.Defined name) ss = placed_in (occurs_so manner.Defined name) ss stated in
      let defined_there : list_any (defines name) (all_at x.statement) ≡ true = sym (defined_here name x.statement (guards x.at x.statement x.stands)) ∙ x.has_it in
      let v : ConstantKnown f (before_statement f ss (suc x.at)).values name = known_at (suc x.at) name (defined_behind f ss name x.at x.statement x.stands defined_there) in
      record {
        ty = ty_of v.value;
        value = v.value;
        meant_is = constant_meant name v.value c (keeps_defined (suc x.at) name v.value v.is);
        type_is = v.type_is;
        fits = itself_typed v.value;
      }

  -- ---- arrays

  -- a shape has a storage unit for each element of an array that is no dummy, and it has at least one
  abbrev Holds : Name × Shape → Type 0
  Holds p = is_among a.dummies p.0 ≡ false → (1 ≤ total_of (map (extent_of f.constants) p.1.bounds)) × (total_of (map (extent_of f.constants) p.1.bounds) ≤ unwrap_or p.1.size 0)

  pub declared_lacks : (d : Defined) (F : Form-F Form) → form_lacks f (in_commons u) d F ≡ false → list_any (declarator_lacks f (in_commons u) d) (declarators_in F) ≡ false
  declared_lacks d (Form-F.Typed ty all) h = h
  declared_lacks d (Form-F.Dimension all) h = h
  declared_lacks d (Form-F.Common blocks) h = in_blocks (declarator_lacks f (in_commons u) d) blocks h
  declared_lacks d F h = refl

  pub declared_breaks : (named : Told Value) (rule : Rule) (F : Form-F Form) → form_step f named rule (map-Form Form Bool (form_breaks f named rule) F) ≡ false → list_any (declarator_breaks f named rule) (declarators_in F) ≡ false
  declared_breaks named rule (Form-F.Typed ty all) h = h
  declared_breaks named rule (Form-F.Dimension all) h = h
  declared_breaks named rule (Form-F.Common blocks) h = in_blocks (declarator_breaks f named rule) blocks h
  declared_breaks named rule F h = refl

  pub declared_exponents : (named : Told Value) (form : Form) (F : Form-F Form) → form_breaks f named Exponents form ≡ form_step f named Exponents (map-Form Form Bool (form_breaks f named Exponents) F) → overreaches_in f named form F ≡ false
      → list_any (declarator_breaks f named Exponents) (declarators_in F) ≡ false
  declared_exponents named form (Form-F.Parameter all) e h = refl
  declared_exponents named form F e h = declared_breaks named Exponents F (sym e ∙ h)

  declared_large : (named : Told Value) (F : Form-F Form) → has_large a named F ≡ false → list_any (is_large a named) (declarators_in F) ≡ false
  declared_large named (Form-F.Typed ty all) h = h
  declared_large named (Form-F.Dimension all) h = h
  declared_large named (Form-F.Common blocks) h = in_blocks (is_large a named) blocks h
  declared_large named F h = refl

  array_holds : (k : ℕ) (d : Declarator) → declarator_lacks f (in_commons u) (before_statement f ss k) d ≡ false → declarator_breaks f f.constants Types d ≡ false → declarator_breaks f (constants (take k ss)) Exponents d ≡ false → is_large a (constants (take k ss)) d ≡ false
      → Holds (d.name, shape_under (constants (take k ss)) d)
  array_holds k d c t w l own =
      let before_it : Defined = before_statement f ss k in
      let is : before_it.values ≡ constants (take k ss) = values_are f ss k in
      let lacks : bounds_lack f (in_commons u) before_it false d.bounds ≡ false = subst (λ b. bounds_lack f (in_commons u) before_it b d.bounds ≡ false) own c in
      let exponents : list_any (bound_breaks f before_it.values Exponents) d.bounds ≡ false = subst (λ named. list_any (bound_breaks f named Exponents) d.bounds ≡ false) (sym is) w in
      let fits : total_of (map (extent_of f.constants) d.bounds) ≤ unwrap_or (option_map saturated (elements before_it.values d.bounds)) 0 =
      holds_all f (in_commons u) before_it (known_at k) f.constants (keeps_defined k) d.bounds lacks t exponents
      (λ n e. small n (subst (λ o. (exceeds o && not (is_among a.dummies d.name)) ≡ false) (sym (ap (λ named. elements named d.bounds) is) ∙ e) l)) in (
        holds_some f (in_commons u) before_it (known_at k) f.constants (keeps_defined k) d.bounds lacks t exponents,
        subst (λ named. total_of (map (extent_of f.constants) d.bounds) ≤ unwrap_or (option_map saturated (elements named d.bounds)) 0) is fits,
      )
    where
      small : (n : ℕ) → (nat_lt 16777216 n && not (is_among a.dummies d.name)) ≡ false → nat_lt 16777216 n ≡ false
      small n h = go (nat_lt 16777216 n) (is_among a.dummies d.name) h own
        where
          go : (b c : Bool) → (b && not c) ≡ false → c ≡ false → b ≡ false
          go false c h o = refl
          go true true h o = cc
          go true false h o = cc

  each_holds : (k : ℕ) (all : List Declarator) → list_any (declarator_lacks f (in_commons u) (before_statement f ss k)) all ≡ false → list_any (declarator_breaks f f.constants Types) all ≡ false → list_any (declarator_breaks f (constants (take k ss)) Exponents) all ≡ false
      → list_any (is_large a (constants (take k ss))) all ≡ false → Each (Tells Holds (constants (take k ss))) all
  each_holds k [] c t w l = tt
  each_holds k (d ∷ all) c t w l = (
    λ some. array_holds k d (or_left (declarator_lacks f (in_commons u) (before_statement f ss k) d) _ c) (or_left (declarator_breaks f f.constants Types d) _ t) (or_left (declarator_breaks f (constants (take k ss)) Exponents d) _ w) (or_left (is_large a (constants (take k ss)) d) _ l),
    each_holds k all (or_right (declarator_lacks f (in_commons u) (before_statement f ss k) d) _ c) (or_right (declarator_breaks f f.constants Types d) _ t) (or_right (declarator_breaks f (constants (take k ss)) Exponents d) _ w) (or_right (is_large a (constants (take k ss)) d) _ l),
  )

  shape_holds : (name : Name) (shape : Shape) → what f.shapes name ≡ Some shape → Holds (name, shape)
  shape_holds = shape_is Holds ss (λ k s e.
      each_holds k (declarators_in (out-Form s.form)) (declared_lacks (before_statement f ss k) (out-Form s.form) (not_lacking u sound k s e))
      (declared_breaks f.constants Types (out-Form s.form) (sym (opens (form_step f f.constants Types) s.form) ∙ not_typed u sound k s e))
      (declared_exponents (constants (take k ss)) s.form (out-Form s.form) (opens (form_step f (constants (take k ss)) Exponents) s.form) (not_overreaching u sound k s e))
      (declared_large (constants (take k ss)) (out-Form s.form) (not_large u sound k s e)))

  abbrev bounds_for : Name → Bounds
  bounds_for name = bounds_of (what f.shapes name)

  -- A shape that isn't told is that of one element.
  pub array_size : (name : Name) → is_among (facts u).attributes.dummies name ≡ false
      → (1 ≤ total_of (map (extent_of (facts u).constants) (bounds_of (what (facts u).shapes name)))) × (total_of (map (extent_of (facts u).constants) (bounds_of (what (facts u).shapes name))) ≤ size_of (facts u).shapes name)
  array_size name own = go (what f.shapes name) refl
    where
      go : (o : Option Shape) → what f.shapes name ≡ o → (1 ≤ total_of (map (extent_of f.constants) (bounds_of o))) × (total_of (map (extent_of f.constants) (bounds_of o)) ≤ units_of o)
      go None e = (omega arith, omega arith)
      go (Some shape) e = shape_holds name shape e own

  array_place : (name : Name) (o : Option Place) (from : ℕ) (slot : Slot) → base_of slot ≡ base_at (common_area o) from → slot.area ≡ common_area o → total_of (map (extent_of f.constants) (bounds_for name)) ≤ slot.size → ArrayOk S (array_of f.constants (bounds_for name) slot)
  array_place name None from slot b area fits = subst (ArrayOk_ S (array_of f.constants (bounds_for name) slot)) (sym b) (record { extents = map (extent_of f.constants) (bounds_for name); are = ap (bounds_at f.constants (bounds_for name)) area; fits = fits })
  array_place name (Some p) from slot b area fits = subst (ArrayOk_ S (array_of f.constants (bounds_for name) slot)) (sym b) (record { extents = map (extent_of f.constants) (bounds_for name); are = ap (bounds_at f.constants (bounds_for name)) area; fits = fits })

  array_fits : (name : Name) → role_of f name ≡ role.Array (bounds_for name) → (d : Bool) → is_among a.dummies name ≡ d → ArrayOk S (array_of f.constants (bounds_for name) (slot_by d name))
  array_fits name is true h = (refl, array_at name h ∙ ap is_array is)
  array_fits name is false h = array_place name (what (commons_of u) name) _ (own_slot f (commons_of u) (locals_of u) (known_as f name)) refl refl (array_size name h).1

  array_stands : (name : Name) → Occurs name → is_among a.arrays name ≡ true → StandsForArray f meant S name
  array_stands name x h =
      let is : role_of f name ≡ role.Array (bounds_for name) = λ i. role_by u sound text name (h i) (is_among a.constants name) (is_intrinsic a name) (is_function a name) (is_among a.called name) (is_among a.external name) in
      let t = has_a_type name x (any_left _ (is_variable a name) (any_left _ (is_result u name) (any_left _ (is_function a name) (any_left (is_among a.arrays name) (is_among a.constants name) h)))) in
      let slot : Slot = slot_for u name in
      let type_is : type_of f name ≡ Some t.0 = typed_as name (role.Array (bounds_for name)) t.0 is refl t.1 in
      let slot_found : slot_named (slots u) name ≡ Some slot = slot_is u name x.found (ap is_variable_role is) in
      let same_ty : slot.ty ≡ t.0 = slot_type f (commons_of u) (locals_of u) name t.0 type_is in
      record {
        ty = t.0;
        array = array_of f.constants (bounds_for name) slot;
        meant_is = (λ i. meant_as f.constants name (is i) (slot_found i)) ∙ ap (λ ty. names.AnArray ty (array_of f.constants (bounds_for name) slot)) same_ty;
        type_is = type_is;
        fits = array_fits name is (is_among a.dummies name) refl;
      }

  -- ---- any name

  stands_by : (name : Name) → Occurs name → (array constant intrinsic function called external : Bool)
      → is_among a.arrays name ≡ array → is_among a.constants name ≡ constant → is_intrinsic a name ≡ intrinsic → is_function a name ≡ function → is_among a.called name ≡ called → is_among a.external name ≡ external
      → StandsFor f meant S (standing (role_by u sound text name array constant intrinsic function called external)) name
  stands_by name x true constant intrinsic function called external h c i fn cl ex = array_stands name x h
  stands_by name x false true intrinsic function called external h c i fn cl ex = constant_stands name c
  stands_by name x false false true function called external h c i fn cl ex = intrinsic_stands name i (λ j. role_by u sound text name (h j) (c j) (i j) (is_function a name) (is_among a.called name) (is_among a.external name))
  stands_by name x false false false true called external h c i fn cl ex = function_stands name x fn (λ j. role_by u sound text name (h j) (c j) (i j) (fn j) (is_among a.called name) (is_among a.external name))
  stands_by name x false false false false true external h c i fn cl ex = tt
  stands_by name x false false false false false true h c i fn cl ex = tt
  stands_by name x false false false false false false h c i fn cl ex =
      let is : role_of f name ≡ role.Scalar = λ j. role_by u sound text name (h j) (c j) (i j) (fn j) (cl j) (ex j) in
      let variable : is_variable a name ≡ true = (λ j. not (cl j || ex j) && (is_among a.dummies name || not (i j))) ∙ any_right (is_among a.dummies name) true refl in
      let t = has_a_type name x (any_right (is_among a.arrays name || is_among a.constants name || is_function a name || is_result u name) (is_variable a name) variable) in
      variable_stands name t.0 x is t.1

  -- A name that occurs stands for what its role says.
  stands_for : (name : Name) → Occurs name → StandsFor f meant S (standing_of f name) name
  stands_for name x = stands_by name x (is_among a.arrays name) (is_among a.constants name) (is_intrinsic a name) (is_function a name) (is_among a.called name) (is_among a.external name) refl refl refl refl refl refl

  -- ---- lists

  module _ (procedures : PassesNoProcedure u) where
    array_standing : (name : Name) → is_among a.arrays name ≡ true → standing_of f name ≡ standings.Array
    array_standing name h = λ i. standing (role_by u sound text name (h i) (is_among a.constants name) (is_intrinsic a name) (is_function a name) (is_among a.called name) (is_among a.external name))

    function_standing : (name : Name) → is_function a name ≡ true → standing_of f name ≡ standings.Function
    function_standing name e =
        let apart = no_array u sound text (is_among a.arrays name) (is_among a.dummies name) (is_among a.listed name) (is_in_table a name) e in
        let by_list : (is_applied a name && is_in_table a name) ≡ false = ap (λ b. is_applied a name && b) apart.1 ∙ and_false_right (is_applied a name) in
        let intrinsic : is_intrinsic a name ≡ false = (λ i. no_intrinsic u sound text name e i || by_list i) in
        λ i. standing (role_by u sound text name (apart.0 i) (no_constant u sound text name e i) (intrinsic i) (e i) (is_among a.called name) (is_among a.external name))

    constant_intrinsic : (name : Name) → has (total u sound text name) Constant ≡ true → has (total u sound text name) Intrinsic ≡ true → ⊥
    unfolding same
    constant_intrinsic name = clash u sound text Constant Intrinsic refl refl (λ g h. or_right (g.subroutine || g.procedure) g.intrinsic (or_left _ g.function (or_right (g.array || g.dummy || g.result_variable) _ (or_left _ _ h)))) (λ g h. or_right _ _ (or_left _ _ (or_left _ _ (or_left _ _ (or_left _ _ (or_left _ _ h)))))) name

    intrinsic_standing : (name : Name) → is_among a.listed name ≡ true → is_among a.arrays name ≡ false → is_applied a name ≡ true → is_in_table a name ≡ true → standing_of f name ≡ standings.Intrinsic
    intrinsic_standing name listed array applied table =
        let given : has (total u sound text name) Intrinsic ≡ true = among_given u sound text manner.Listed name Intrinsic (listed_intrinsic u sound text name applied table) listed in
        let constant : is_among a.constants name ≡ false = untrue (is_among a.constants name) (λ c. constant_intrinsic name (among_given u sound text manner.Defined name Constant refl c) given) in
        let intrinsic : is_intrinsic a name ≡ true = any_right (is_among a.intrinsic name && is_some (intrinsic_of name)) (is_applied a name && is_in_table a name) (λ i. applied i && table i) in
        λ i. standing (role_by u sound text name (array i) (constant i) (intrinsic i) (is_function a name) (is_among a.called name) (is_among a.external name))

    has_list : (name : Name) → is_among a.listed name ≡ true → is_dummy_procedure a name ≡ false → HasList f meant S (standing_of f name)
    has_list name listed dummy = go (is_among a.arrays name) refl
      where
        applied : (arrays dummies : Bool) → arrays ≡ false → (dummies && not arrays) ≡ false → (not arrays && not dummies) ≡ true
        applied true d h k = cc
        applied false true h k = cc
        applied false false h k = refl

        by_table : is_among a.arrays name ≡ false → is_applied a name ≡ true → (t : Bool) → is_in_table a name ≡ t → HasList f meant S (standing_of f name)
        by_table array is true e = subst (HasList f meant S) (sym (intrinsic_standing name listed array is e)) tt
        by_table array is false e = subst (HasList f meant S) (sym (function_standing name (λ i. is i && not (e i)))) tt

        go : (b : Bool) → is_among a.arrays name ≡ b → HasList f meant S (standing_of f name)
        go true e = subst (HasList f meant S) (sym (array_standing name e)) tt
        go false e = by_table e (λ i. listed i && applied (is_among a.arrays name) (is_among a.dummies name) e dummy i) (is_in_table a name) refl

    called_subroutine : (name : Name) → is_among a.called name ≡ true → IsSubroutine f meant S (standing_of f name)
    called_subroutine name h = subst (λ r. IsSubroutine f meant S (standing r)) (sym (called_role u sound text name h)) tt

    among_attributes : (m : Manner) (k : ℕ) (s : Stmt) → slice_get ss k ≡ Some s → (i : ℕ) (name : Name) → slice_get (in_statement s) i ≡ Some (occurs m name) → is_among (distinct (names_that m (occurrences u))) name ≡ true
    unfolding occurs_so
    among_attributes m k s e i name at =
        distinct_among (names_that m (occurrences u)) name (names_among m name (occurrences u) (in_unit u apart guards (occurs_so m name) k s e (any_here (occurs_so m name) (in_statement s) i (occurs m name) at (itself m name))))
      where
        same_manner : (m : Manner) → is_manner m m ≡ true
        same_manner manner.ResultName = refl
        same_manner m = refl

        itself : (m : Manner) (name : Name) → occurs_so m name (occurs m name) ≡ true
        itself m name = λ i. same_manner m i && name_self name i

    pub said_nothing : (k : ℕ) (s : Stmt) → slice_get ss k ≡ Some s → list_any passing (said.in_form f s.line s.form) ≡ false
    said_nothing k s e = untrue (list_any passing (said.in_statement f s)) (λ h. opposite (list_any passing (mentions u)) (any_flat passing (said.in_statement f) ss k s e h) procedures)

    list_fits : (k : ℕ) (s : Stmt) → slice_get ss k ≡ Some s → (m : Manner) (i : ℕ) (name : Name) → slice_get (in_statement s) i ≡ Some (occurs m name) → ListedAs f m name → ListFits f meant S m (standing_of f name)
    list_fits k s e manner.Listed i name at h = has_list name (among_attributes manner.Listed k s e i name at) h
    list_fits k s e manner.Called i name at h = called_subroutine name (among_attributes manner.Called k s e i name at)
    list_fits k s e m i name at h = tt

    -- Each name in a statement stands for what its role says, and has a list or stands behind CALL only where the role allows it.
    pub each_fits : (k : ℕ) (s : Stmt) → slice_get u.statements k ≡ Some s → Each (NameFits (facts u) (meant_of u) (effects u)) (in_statement s)
    each_fits k s e = each_of (NameFits f meant S) (in_statement s) (λ i o at. record {
      stands = stands_for o.name (occurs_at k s e i o at);
      lists = list_fits k s e o.manner i o.name at (each_at (Listed f) (in_statement s) i o (form_listed f s.line s.form (said_nothing k s e)) at);
    })
