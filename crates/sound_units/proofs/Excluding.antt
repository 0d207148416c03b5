-- In a unit without fault 12 no name is given two things that exclude each other.
use Rattle.std.proofs.Common.{◌≡◌, ℕ, ◌-◌, ◌<◌, ◌==◌, get_or, Bool, true, false, not, ◌&&◌, ◌||◌, Option, Some, None, List, [], length, flat_map, slice_get, refl, sym, ap, ◌∙◌, arith, if◌then◌else◌, is_some}
use Rattle.std.specs.List.{list_any}
use Rattle.std.proofs.lemmas.Option.{slice_get_within, slice_get-get_or}
use Rattle.f77_tree.specs.declared.form.Form.{out-Form}
use Rattle.f77_tree.specs.declared.unit.Stmt.{Stmt}
use Rattle.f77_tree.specs.declared.unit.Unit.{Unit as SourceUnit}
use Rattle.f77_names.specs.declared.attributes.Attributes.{Attributes}
use Rattle.f77_names.specs.declared.occurrences.Manner.{Manner}
use Rattle.f77_names.specs.declared.occurrences.Manner.TheVariants as manner
use Rattle.f77_names.specs.declared.occurrences.Occurrence.{Occurrence}
use Rattle.f77_values.specs.Tables.{Name, is_among, distinct, what}
use Rattle.f77_names.specs.Occurrences.{occurrences, in_head, in_statement, names_that}
use Rattle.f77_names.specs.Roles.{facts, is_applied, is_in_table, is_function, is_intrinsic, bounds_of, constant_of, role as role_of}
use Rattle.f77_names.specs.declared.intrinsics.Intrinsic.{Intrinsic as IntrinsicFunction}
use Rattle.f77_store.specs.Layouts.{slots}
use Rattle.f77_semantics.specs.Source.{slot_named}
use Rattle.f77_names.specs.Intrinsics.{intrinsic_of}
use Rattle.f77_names.specs.declared.roles.Role.{Role}
use Rattle.f77_names.specs.declared.roles.Role.TheVariants as role
use Rattle.f77_store.specs.declared.storage.Slot.{Slot}
use Rattle.f77_semantics.specs.Sites.{refers, FunctionsAgree}
use Rattle.f77_semantics.specs.Terms.{meant_as, intrinsic_meant}
use Rattle.sound_units.specs.Units.{meant_of}
use Rattle.check_names.specs.declared.attribute.Attribute.{Attribute}
use Rattle.check_names.specs.declared.attribute.Attribute.TheVariants.{Array, Constant, Subroutine, Intrinsic, Function}
use Rattle.check_names.specs.declared.attribute.Given.{Given}
use Rattle.check_names.specs.Exclusions.{nothing, has, is_excluded}
use Rattle.check_names.specs.Givings.{by_form, by_manner, by_occurrence}
use Rattle.check_names.specs.Conflicts.{given_to, conflict_in, given_by, given_at, conflicts_at}
use Rattle.check_names.specs.Places.{where_stands, before, in_text}
use Rattle.check_names.specs.NameFaults.{conflict}
use Rattle.f77_check.specs.UnitFaults.{IsSound, of_names}
use Rattle.sound_units.specs.Accepted.{IsTextOf}
use Rattle.sound_units.proofs.Clearing.{clear}
use Rattle.sound_units.proofs.Lists.{untrue, or_left, or_right, any-append, both_true}
use Rattle.sound_units.proofs.Giving.{Place, all_given, among_distinct, among_names, and_false_right, any_left, any_right, before_any, given_by_name, given_somewhere, gives_it, occurs_so, placed_in, same}

module _ (u : SourceUnit) (sound : IsSound u) (text : IsTextOf u) where
  abbrev a : Attributes
  a = (facts u).attributes

  abbrev ss : List Stmt
  ss = u.statements

  pub not_conflicting : (k : ℕ) → conflict_in (before (given_at a u) k) (given_at a u k) ≡ false
  not_conflicting k = go (slice_get ss k) refl
    where
      go : (o : Option Stmt) → slice_get ss k ≡ o → conflict_in (before (given_at a u) k) (given_at a u k) ≡ false
      go None e = ap (λ o. conflict_in (before (given_at a u) k) (where_stands [] (given_by a u (k == 0)) o)) e
      go (Some s) e = clear ss (λ s. conflicts_at a u k) (λ k. conflicts_at a u k ≡ true) 12 0 (λ m h. sound.none m (of_names (conflict h))) k s e (λ t. t)

  abbrev pub total : Name → Given
  total name = given_to name (before (given_at a u) (length ss))

  -- an occurrence in a statement, or in the head, gives the name what it gives
  given_at_all : (m : Manner) (name : Name) (A : Attribute) → by_manner a m name ≡ Some A → (k : ℕ) (s : Stmt) → slice_get ss k ≡ Some s → list_any (occurs_so m name) (in_text u (k == 0) s) ≡ true → has (total name) A ≡ true
  given_at_all m name A g k s e h =
      given_somewhere A name (before (given_at a u) (length ss)) nothing
      (before_any (gives_it A name) (given_at a u) (length ss) k (slice_get_within ss k s e)
      (ap (λ o. list_any (gives_it A name) (where_stands [] (given_by a u (k == 0)) o)) e
      ∙ (any-append (gives_it A name) (by_form (out-Form s.form)) (flat_map (by_occurrence a) (in_text u (k == 0) s))
      ∙ any_right (list_any (gives_it A name) (by_form (out-Form s.form))) _ (given_by_name a m name A g (in_text u (k == 0) s) h))))

  pub occurrence_gives : (m : Manner) (name : Name) (A : Attribute) → by_manner a m name ≡ Some A → list_any (occurs_so m name) (occurrences u) ≡ true → has (total name) A ≡ true
  occurrence_gives m name A g h = split (list_any test (in_head u)) refl (sym (any-append test (in_head u) (flat_map in_statement ss)) ∙ h)
    where
      test : Occurrence → Bool
      test = occurs_so m name

      in_any : (b : Bool) (s : Stmt) → list_any test (in_statement s) ≡ true → list_any test (in_text u b s) ≡ true
      in_any true s h = any-append test (in_head u) (in_statement s) ∙ any_right (list_any test (in_head u)) (list_any test (in_statement s)) h
      in_any false s h = h

      some : 0 < length ss
      some = let l = slice_get_within ss (length ss - 1) text.last text.stands in omega arith

      split : (b : Bool) → list_any test (in_head u) ≡ b → (list_any test (in_head u) || list_any test (flat_map in_statement ss)) ≡ true → has (total name) A ≡ true
      split true e h =
          let s : Stmt = get_or ss 0 text.last in
          given_at_all m name A g 0 s (slice_get-get_or ss 0 text.last some) (any-append test (in_head u) (in_statement s) ∙ any_left (list_any test (in_head u)) (list_any test (in_statement s)) e)
      split false e h =
          let x : Place test ss = placed_in test ss (sym (ap (λ b. b || list_any test (flat_map in_statement ss)) e) ∙ h) in
          given_at_all m name A g x.at x.statement x.stands (in_any (x.at == 0) x.statement x.has_it)

  -- a name of a list of attributes is given what the list stands for
  pub among_given : (m : Manner) (name : Name) (A : Attribute) → by_manner a m name ≡ Some A → is_among (distinct (names_that m (occurrences u))) name ≡ true → has (total name) A ≡ true
  among_given m name A g h = occurrence_gives m name A g (among_names m name (occurrences u) (among_distinct (names_that m (occurrences u)) name h))

  contra : true ≡ false → ⊥
  contra e = cc

  both : (P Q : Attribute) (name : Name) → (has (total name) P && has (total name) Q) ≡ false → has (total name) P ≡ true → has (total name) Q ≡ true → ⊥
  both P Q name h p q = contra (sym ((λ i. p i && q i)) ∙ h)

  -- ---- functions

  function_constant : (g : Given) → is_excluded g Function ≡ false → g.constant ≡ false
  function_constant g h = or_right _ _ (or_left _ _ (or_left _ _ (or_left _ _ (or_left _ _ h))))

  constant_function : (g : Given) → is_excluded g Constant ≡ false → g.function ≡ false
  constant_function g h = or_right _ _ (or_right _ _ (or_left _ _ h))

  function_intrinsic : (g : Given) → is_excluded g Function ≡ false → g.intrinsic ≡ false
  function_intrinsic g h = or_right _ _ (or_left _ _ h)

  intrinsic_function : (g : Given) → is_excluded g Intrinsic ≡ false → g.function ≡ false
  intrinsic_function g h = or_right _ _ (or_left _ _ h)

  -- what is applied as a function is no constant, and isn't in INTRINSIC as an intrinsic
  pub applied_function : (name : Name) → is_function a name ≡ true → has (total name) Function ≡ true
  applied_function name h = among_given manner.Listed name Function (ap (λ b. if b then Some Function else (if is_applied a name then Some Intrinsic else None)) h) (listed (is_among a.listed name) h)
    where
      listed : (b : Bool) → ((b && (not (is_among a.arrays name) && not (is_among a.dummies name))) && not (is_in_table a name)) ≡ true → b ≡ true
      listed true h = refl
      listed false h = h

  apart_constant : (same Function Constant ≡ false) × (same Constant Function ≡ false)
  unfolding same
  apart_constant = (refl, refl)

  apart_intrinsic : (same Function Intrinsic ≡ false) × (same Intrinsic Function ≡ false)
  unfolding same
  apart_intrinsic = (refl, refl)

  pub no_constant : (name : Name) → is_function a name ≡ true → is_among a.constants name ≡ false
  no_constant name h = untrue (is_among a.constants name) (λ c.
      both Function Constant name (all_given Function Constant apart_constant.0 apart_constant.1 function_constant constant_function name (given_at a u) not_conflicting (length ss))
      (applied_function name h) (among_given manner.Defined name Constant refl c))

  pub no_intrinsic : (name : Name) → is_function a name ≡ true → (is_among a.intrinsic name && is_some (intrinsic_of name)) ≡ false
  no_intrinsic name h = untrue (is_among a.intrinsic name && is_some (intrinsic_of name)) (λ c.
      both Function Intrinsic name (all_given Function Intrinsic apart_intrinsic.0 apart_intrinsic.1 function_intrinsic intrinsic_function name (given_at a u) not_conflicting (length ss))
      (applied_function name h) (among_given manner.Intrinsic name Intrinsic (ap (λ b. if b then Some Intrinsic else None) (second (is_among a.intrinsic name) (is_some (intrinsic_of name)) c)) (first (is_among a.intrinsic name) (is_some (intrinsic_of name)) c)))
    where
      first : (b c : Bool) → (b && c) ≡ true → b ≡ true
      first true c h = refl
      first false c h = h

      second : (b c : Bool) → (b && c) ≡ true → c ≡ true
      second true c h = h
      second false c h = cc

  -- the role of a name by what was asked of it
  abbrev pub role_by : Name → (array constant intrinsic function called external : Bool) → Role
  role_by name array constant intrinsic function called external =
      if array then role.Array (bounds_of (what (facts u).shapes name))
      else (if constant then role.Constant (constant_of (what (facts u).constants name))
      else (if intrinsic then role.Intrinsic
      else (if function then role.Function
      else (if called then role.Subroutine
      else (if external then role.Procedure
      else role.Scalar)))))

  abbrev refers_as : Name → Role → Bool
  refers_as name r = refers (meant_as (facts u).constants name r (slot_named (slots u) name))

  no_reference : (name : Name) (r : Role) (slot : Option Slot) → (r ≡ role.Function → ⊥) → refers (meant_as (facts u).constants name r slot) ≡ false
  no_reference name (role.Constant v) slot h = refl
  no_reference name role.Intrinsic slot h = go (intrinsic_of name)
    where
      go : (o : Option IntrinsicFunction) → refers (intrinsic_meant o) ≡ false
      go None = refl
      go (Some i) = refl
  no_reference name role.Function slot h = absurd (h refl)
  no_reference name (role.Array bounds) (Some s) h = refl
  no_reference name (role.Array bounds) None h = refl
  no_reference name role.Scalar (Some s) h = refl
  no_reference name role.Scalar None h = refl
  no_reference name role.Subroutine (Some s) h = refl
  no_reference name role.Subroutine None h = refl
  no_reference name role.Procedure (Some s) h = refl
  no_reference name role.Procedure None h = refl

  other_role : (name : Name) (array constant intrinsic called external : Bool) → role_by name array constant intrinsic false called external ≡ role.Function → ⊥
  other_role name true constant intrinsic called external h = cc
  other_role name false true intrinsic called external h = cc
  other_role name false false true called external h = cc
  other_role name false false false true external h = cc
  other_role name false false false false true h = cc
  other_role name false false false false false h = cc

  pub no_array : (b d l t : Bool) → ((l && (not b && not d)) && not t) ≡ true → (b ≡ false) × (t ≡ false)
  no_array false d l false h = (refl, refl)
  no_array true d true t h = cc
  no_array true d false t h = cc
  no_array false d l true h = absurd (contra (sym h ∙ and_false_right (l && not d)))

  -- The names with the role of a function are those that are applied as functions.
  pub functions_agree : FunctionsAgree (facts u) (meant_of u)
  functions_agree name = go (is_function a name) refl
    where
      go : (fn : Bool) → is_function a name ≡ fn → fn ≡ refers_as name (role_of (facts u) name)
      go true e =
          let apart = no_array (is_among a.arrays name) (is_among a.dummies name) (is_among a.listed name) (is_in_table a name) e in
          let by_list : (is_applied a name && is_in_table a name) ≡ false = ap (λ b. is_applied a name && b) apart.1 ∙ and_false_right (is_applied a name) in
          let intrinsic : is_intrinsic a name ≡ false = (λ i. no_intrinsic name e i || by_list i) in
          sym (λ i. refers_as name (role_by name (apart.0 i) (no_constant name e i) (intrinsic i) (e i) (is_among a.called name) (is_among a.external name)))
      go false e =
          let r : Role = role_by name (is_among a.arrays name) (is_among a.constants name) (is_intrinsic a name) false (is_among a.called name) (is_among a.external name) in
          sym ((λ i. refers_as name (role_by name (is_among a.arrays name) (is_among a.constants name) (is_intrinsic a name) (e i) (is_among a.called name) (is_among a.external name)))
          ∙ no_reference name r (slot_named (slots u) name) (other_role name (is_among a.arrays name) (is_among a.constants name) (is_intrinsic a name) (is_among a.called name) (is_among a.external name)))

  -- ---- subroutines

  -- two that exclude each other, of which a name was given both
  pub clash : (P Q : Attribute) → same P Q ≡ false → same Q P ≡ false → ((g : Given) → is_excluded g P ≡ false → has g Q ≡ false) → ((g : Given) → is_excluded g Q ≡ false → has g P ≡ false)
      → (name : Name) → has (total name) P ≡ true → has (total name) Q ≡ true → ⊥
  clash P Q e d pq qp name = both P Q name (all_given P Q e d pq qp name (given_at a u) not_conflicting (length ss))

  called_array : (name : Name) → has (total name) Subroutine ≡ true → has (total name) Array ≡ true → ⊥
  unfolding same
  called_array name = clash Subroutine Array refl refl (λ g h. or_left _ _ (or_left _ _ (or_left _ _ (or_left _ _ (or_left _ _ h))))) (λ g h. or_left _ _ (or_left _ _ (or_left _ _ (or_right _ _ h)))) name

  called_constant : (name : Name) → has (total name) Subroutine ≡ true → has (total name) Constant ≡ true → ⊥
  unfolding same
  called_constant name = clash Subroutine Constant refl refl (λ g h. or_right _ _ (or_left _ _ (or_left _ _ (or_left _ _ (or_left _ _ h))))) (λ g h. or_left _ _ (or_left _ _ (or_left _ _ (or_right _ _ (or_left _ _ h))))) name

  called_intrinsic : (name : Name) → has (total name) Subroutine ≡ true → has (total name) Intrinsic ≡ true → ⊥
  unfolding same
  called_intrinsic name = clash Subroutine Intrinsic refl refl (λ g h. or_right _ _ (or_left _ _ (or_left _ _ h))) (λ g h. or_right _ _ (or_left _ _ (or_left _ _ (or_left _ _ h)))) name

  called_function : (name : Name) → has (total name) Subroutine ≡ true → has (total name) Function ≡ true → ⊥
  unfolding same
  called_function name = clash Subroutine Function refl refl (λ g h. or_right _ _ (or_left _ _ h)) (λ g h. or_right _ _ (or_left _ _ (or_left _ _ h))) name

  -- a list makes a name of the table an intrinsic
  pub listed_intrinsic : (name : Name) → is_applied a name ≡ true → is_in_table a name ≡ true → by_manner a manner.Listed name ≡ Some Intrinsic
  listed_intrinsic name applied table =
      let no : is_function a name ≡ false = ap (λ b. is_applied a name && not b) table ∙ and_false_right (is_applied a name) in
      λ i. if no i then Some Function else (if applied i then Some Intrinsic else None)

  -- a name that isn't given the role has no role of an intrinsic
  pub not_intrinsic : (name : Name) → (has (total name) Intrinsic ≡ true → ⊥) → is_intrinsic a name ≡ false
  not_intrinsic name never = λ i. named i || applied i
    where
      named : (is_among a.intrinsic name && is_some (intrinsic_of name)) ≡ false
      named = untrue (is_among a.intrinsic name && is_some (intrinsic_of name)) (λ c.
          let x = both_true (is_among a.intrinsic name) (is_some (intrinsic_of name)) c in
          never (among_given manner.Intrinsic name Intrinsic (ap (λ b. if b then Some Intrinsic else None) x.1) x.0))

      applied : (is_applied a name && is_in_table a name) ≡ false
      applied = untrue (is_applied a name && is_in_table a name) (λ c.
          let x = both_true (is_applied a name) (is_in_table a name) c in
          let y = both_true (is_among a.listed name) (not (is_among a.arrays name) && not (is_among a.dummies name)) x.0 in
          never (among_given manner.Listed name Intrinsic (listed_intrinsic name x.0 x.1) y.0))

  -- What stands behind CALL is a subroutine.
  pub called_role : (name : Name) → is_among (facts u).attributes.called name ≡ true → role_of (facts u) name ≡ role.Subroutine
  called_role name h =
      let given : has (total name) Subroutine ≡ true = among_given manner.Called name Subroutine refl h in
      let array : is_among a.arrays name ≡ false = untrue (is_among a.arrays name) (λ c. called_array name given (among_given manner.Dimensioned name Array refl c)) in
      let constant : is_among a.constants name ≡ false = untrue (is_among a.constants name) (λ c. called_constant name given (among_given manner.Defined name Constant refl c)) in
      let function : is_function a name ≡ false = untrue (is_function a name) (λ c. called_function name given (applied_function name c)) in
      let intrinsic : is_intrinsic a name ≡ false = not_intrinsic name (called_intrinsic name given) in
      (λ i. role_by name (array i) (constant i) (intrinsic i) (function i) (h i) (is_among a.external name))
