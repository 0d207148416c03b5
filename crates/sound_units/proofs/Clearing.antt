-- What would show a fault of a unit doesn't hold in a unit without faults.
use Rattle.std.proofs.Common.{◌≡◌, ℕ, Bool, true, false, List, Some, take, fold, option_map, slice_get, refl, ap, ◌∙◌}
use Rattle.f77_tree.specs.declared.form.Form.{out-Form}
use Rattle.f77_tree.specs.declared.unit.Stmt.{Stmt}
use Rattle.f77_tree.specs.declared.unit.Unit.{Unit as SourceUnit}
use Rattle.f77_values.specs.Constants.{constants}
use Rattle.f77_names.specs.Roles.{facts}
use Rattle.check_names.specs.LargeArrays.{has_large, large_at}
use Rattle.check_names.specs.NameFaults.{large}
use Rattle.check_names.specs.Places.{where_stands}
use Rattle.check_types.specs.declared.breaks.Rule.TheVariants.{Types, Scalars, Targets}
use Rattle.check_types.specs.Overreaching.{overreaches}
use Rattle.check_types.specs.TypeFaults.{statement_breaks, BreaksAt, OverreachesAt, wrong_type, no_scalar, no_target, wrong_exponent}
use Rattle.check_constants.specs.Defined.{nothing, with_statement}
use Rattle.check_constants.specs.Needed.{statement_lacks}
use Rattle.check_constants.specs.Faults.{NeedsConstant, in_commons}
use Rattle.f77_check.specs.UnitFaults.{IsSound, of_names, of_types, of_constants}
use Rattle.fault_marks.specs.declared.marks.Mark.{Mark}
use Rattle.fault_marks.specs.Places.{ShowsAt}
use Rattle.sound_units.proofs.Lists.{untrue}

-- a condition that shows a fault doesn't hold
pub clear : (ss : List Stmt) (test : Stmt → Bool) (Holds : ℕ → Type 0) (number limit : ℕ) → ((mark : Mark) → ShowsAt ss Holds number limit mark → ⊥) → (k : ℕ) (s : Stmt) → slice_get ss k ≡ Some s → (test s ≡ true → Holds k) → test s ≡ false
clear ss test Holds number limit none k s stands holds = untrue (test s) (λ e.
    none (record { line = s.line; number = number; limit = limit }) (record { place = k; statement = s; stands = stands; holds = holds e; line_is = refl; number_is = refl; limit_is = refl }))

module _ (u : SourceUnit) (sound : IsSound u) where
  -- fault 19
  pub not_typed : (k : ℕ) (s : Stmt) → slice_get u.statements k ≡ Some s → statement_breaks (facts u) Types s ≡ false
  not_typed k s e = clear u.statements (statement_breaks (facts u) Types) (BreaksAt (facts u) u.statements Types) 19 0 (λ m h. sound.none m (of_types (wrong_type h))) k s e (λ t. ap (option_map (statement_breaks (facts u) Types)) e ∙ ap Some t)

  -- fault 21
  pub not_scalar : (k : ℕ) (s : Stmt) → slice_get u.statements k ≡ Some s → statement_breaks (facts u) Scalars s ≡ false
  not_scalar k s e = clear u.statements (statement_breaks (facts u) Scalars) (BreaksAt (facts u) u.statements Scalars) 21 0 (λ m h. sound.none m (of_types (no_scalar h))) k s e (λ t. ap (option_map (statement_breaks (facts u) Scalars)) e ∙ ap Some t)

  -- fault 25
  pub not_target : (k : ℕ) (s : Stmt) → slice_get u.statements k ≡ Some s → statement_breaks (facts u) Targets s ≡ false
  not_target k s e = clear u.statements (statement_breaks (facts u) Targets) (BreaksAt (facts u) u.statements Targets) 25 0 (λ m h. sound.none m (of_types (no_target h))) k s e (λ t. ap (option_map (statement_breaks (facts u) Targets)) e ∙ ap Some t)

  -- fault 26
  pub not_overreaching : (k : ℕ) (s : Stmt) → slice_get u.statements k ≡ Some s → overreaches (facts u) (constants (take k u.statements)) s ≡ false
  not_overreaching k s e =
      clear u.statements (overreaches (facts u) (constants (take k u.statements))) (OverreachesAt (facts u) u.statements) 26 0 (λ m h. sound.none m (of_types (wrong_exponent h))) k s e (λ t. ap (option_map (overreaches (facts u) (constants (take k u.statements)))) e ∙ ap Some t)

  -- fault 22
  pub not_lacking : (k : ℕ) (s : Stmt) → slice_get u.statements k ≡ Some s → statement_lacks (facts u) (in_commons u) (fold with_statement nothing (take k u.statements)) s ≡ false
  not_lacking k s e =
      clear u.statements (statement_lacks (facts u) (in_commons u) (fold with_statement nothing (take k u.statements))) (NeedsConstant u) 22 0 (λ m h. sound.none m (of_constants h)) k s e (λ t. record { statement = s; stands = e; holds_there = t })

  -- fault 37 of an array
  pub not_large : (k : ℕ) (s : Stmt) → slice_get u.statements k ≡ Some s → has_large (facts u).attributes (constants (take k u.statements)) (out-Form s.form) ≡ false
  not_large k s e =
      clear u.statements (λ s. has_large (facts u).attributes (constants (take k u.statements)) (out-Form s.form)) (λ k. large_at (facts u).attributes u k ≡ true) 37 16777216 (λ m h. sound.none m (of_names (large h))) k s e
      (λ t. ap (where_stands false (λ s. has_large (facts u).attributes (constants (take k u.statements)) (out-Form s.form))) e ∙ t)
