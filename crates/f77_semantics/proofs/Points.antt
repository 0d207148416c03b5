-- At each place of a unit there is a turn that its routine can begin.
use Rattle.std.proofs.Common.{◌≡◌, ℕ, suc, ◌+◌, ◌<◌, List, [], Option, None, Some, Bool, true, false, refl, sym, ap, subst, arith, length, drop, slice_get, if◌then◌else◌}
use Rattle.std.specs.Prelude.{IsTrue}
use Rattle.std.proofs.lemmas.Bool.Decides.{nat_tests}
use Rattle.f77_tree.specs.declared.form.Form.{Form, out-Form}
use Rattle.f77_tree.specs.declared.form.Form.TheOpen.{Form-F}
use Rattle.f77_tree.specs.declared.unit.Stmt.{Stmt}
use Rattle.f77_tree.specs.declared.unit.Unit.{Unit as ProgramUnit}
use Rattle.f77_values.specs.Tables.{Name}
use Rattle.f77_names.specs.Roles.{facts}
use Rattle.f77_store.specs.Layouts.{slots}
use Rattle.f77_flow.specs.declared.kinds.Kind.{Kind}
use Rattle.f77_flow.specs.declared.kinds.Kind.TheVariants.{Declaration, Do, Else}
use Rattle.f77_flow.specs.Kinds.{kind, kind_of, kind_at, is_executable}
use Rattle.f77_flow.specs.Labels.{has_label, first_with, last_of, has_range}
use Rattle.f77_flow.specs.Graph.{Point, At, Inside, Test, Advance}
use Rattle.f77_flow.specs.Checks.{IsNode}
use Rattle.f77_semantics.specs.Program.{Term, Statement, NoStatement, Stop, Return}
use Rattle.f77_semantics.specs.Statements.{statement}
use Rattle.f77_semantics.specs.Effects.{IsStatement, IsDo, IsLogicalIf, PointOk}
use Rattle.f77_semantics.specs.Terms.{Meant, Variable}
use Rattle.f77_semantics.specs.Resolve.{loop, statement_of}
use Rattle.f77_semantics.specs.Source.{meant_in, is_main, routine}
use Rattle.f77_semantics.specs.Goes as goes
use Rattle.f77_semantics.specs.Goes.{IsGuard, IsPlace, IsVariable, CountsByVariable, DosHaveVariables, PlacesArePoints, TurnsEverywhere}
use Rattle.f77_flow.specs.Blocks.{first}
use Rattle.f77_flow.proofs.Checked.{first_node}
use Rattle.f77_semantics.proofs.Goes.{looked_up}
use Rattle.f77_semantics.proofs.Places.{follow_place}

module _ (u : ProgramUnit) where
  abbrev ss : List Stmt
  ss = u.statements

  abbrev meant : Name → Meant
  meant = meant_in (facts u) (slots u)

  abbrev main : Bool
  main = is_main u.kind

  -- a DO is one where its variable is a variable
  loop_is : (m : Meant) (a b : Term) (c : Option Term) → IsVariable m → IsDo (loop m a b c)
  loop_is (Variable ty b) a e c h = tt
  loop_is m a e c h = absurd h

  loop_begins : (m : Meant) (a b : Term) (c : Option Term) → IsVariable m → IsStatement (loop m a b c)
  loop_begins (Variable ty b) a e c h = tt
  loop_begins m a e c h = absurd h

  -- what is executable and no ELSE is a statement of the routine
  statement_is : (k site : ℕ) (form : Form-F Form) → CountsByVariable u form → is_executable (kind_of form) ≡ true → (kind_of form ≡ Else → ⊥) → IsStatement (statement_of meant main ss k site form)
  statement_is k site (Form-F.Head kd word name dummies) v e n = cc
  statement_is k site (Form-F.Implicit rules) v e n = cc
  statement_is k site Form-F.ImplicitNone v e n = cc
  statement_is k site (Form-F.Typed ty all) v e n = cc
  statement_is k site (Form-F.Dimension all) v e n = cc
  statement_is k site (Form-F.Common blocks) v e n = cc
  statement_is k site (Form-F.Parameter all) v e n = cc
  statement_is k site (Form-F.External names) v e n = cc
  statement_is k site (Form-F.Intrinsic names) v e n = cc
  statement_is k site (Form-F.Save names blocks) v e n = cc
  statement_is k site (Form-F.DataRuns runs) v e n = cc
  statement_is k site Form-F.Else v e n = absurd (n refl)
  statement_is k site (Form-F.Do label name a b c) v e n = loop_begins (meant name) _ _ _ v
  statement_is k site Form-F.End v e n = go main
    where
      go : (b : Bool) → IsStatement (if b then Stop else Return)
      go true = tt
      go false = tt
  statement_is k site form v e n = tt

  guard_is : (k site : ℕ) (form : Form-F Form) → goes.IsLogicalIf form → IsLogicalIf (statement_of meant main ss k site form)
  guard_is k site (Form-F.LogicalIf e i) h = tt
  guard_is k site form h = absurd h

  abbrev IsLoop : Kind → Type 0
  IsLoop (Do label) = Unit {0}
  IsLoop _ = ⊥

  do_is : (k site : ℕ) (form : Form-F Form) → CountsByVariable u form → IsLoop (kind_of form) → IsDo (statement_of meant main ss k site form)
  do_is k site (Form-F.Do label name a b c) v h = loop_is (meant name) _ _ _ v
  do_is k site form v h = absurd h

  -- what has a range is a DO
  ranged_loop : (d : ℕ) → IsTrue (has_range ss d) → IsLoop (kind_at ss d)
  ranged_loop d h = go (kind_at ss d) refl
    where
      last : Kind → ℕ
      last v = elim v [ Do label ↦ first_with (has_label label) (suc d) (drop (suc d) ss) | _ ↦ length ss ]

      below : last_of ss d < length ss
      below = grind (arith, nat_tests)

      go : (v : Kind) → kind_at ss d ≡ v → IsLoop v
      go (Do label) e = tt
      go v e = let past : last_of ss d ≡ length ss = ap last e in absurd (omega (arith, below, past))

  looked : (k : ℕ) (P : Option Stmt → Statement → Type 0) → P None NoStatement → ((st : Stmt) (site : ℕ) → P (Some st) (statement_of meant main ss (0 + k) site (out-Form st.form))) → P (slice_get ss k) (statement (routine u) k)
  looked k P n h = looked_up u (record { unit = []; actuals = []; shapes = λ j. [] }) ss 0 1 k P n h

  abbrev kind_here : Option Stmt → Kind
  kind_here o = elim o [ None ↦ Declaration | Some s ↦ kind s ]

  module _ (variables : DosHaveVariables u) where
    at_node : (k : ℕ) → IsNode ss k → IsStatement (statement (routine u) k)
    at_node k node = looked k (λ o t. slice_get ss k ≡ o → is_executable (kind_here o) ≡ true → (kind_here o ≡ Else → ⊥) → IsStatement t) (λ s e n. cc) (λ st site s e n. statement_is (0 + k) site (out-Form st.form) (variables k st s) e n) refl node.executable node.no_else

    at_guard : (k : ℕ) → IsGuard ss k → IsLogicalIf (statement (routine u) k)
    at_guard k guard = looked k (λ o t. o ≡ Some guard.statement → IsLogicalIf t) (λ s. cc) (λ st site s. let same : st ≡ guard.statement = cc in guard_is (0 + k) site (out-Form st.form) (subst (λ (st : Stmt). goes.IsLogicalIf (out-Form st.form)) (sym same) guard.guards)) guard.stands

    at_do : (d : ℕ) → IsTrue (has_range ss d) → IsDo (statement (routine u) d)
    at_do d h = looked d (λ o t. slice_get ss d ≡ o → IsLoop (kind_here o) → IsDo t) (λ s l. l) (λ st site s l. do_is (0 + d) site (out-Form st.form) (variables d st s) l) refl (ranged_loop d h)

    point_is : (p : Point) → IsPlace ss p → PointOk (routine u) p
    point_is (At k) h = at_node k h
    point_is (Inside k) h = at_guard k h
    point_is (Test d) h = at_do d h
    point_is (Advance d) h = at_do d h

pub places_are_points : PlacesArePoints
places_are_points u variables p h = point_is u variables p h

pub turns_everywhere : TurnsEverywhere
turns_everywhere u checks variables = record {
  first = places_are_points u variables (At (first u.statements)) (first_node u.statements checks);
  each = λ p q one. places_are_points u variables q (follow_place u.statements checks p q one);
}
