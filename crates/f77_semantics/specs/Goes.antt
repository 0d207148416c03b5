-- Where a turn may go: to the places that may follow by the unit's statements.
use Rattle.std.specs.Prelude.{◌≡◌, ℕ, List, Some, ℤ, slice_get, IsTrue}
use Rattle.run_model.specs.Storage.{Value}
use Rattle.run_model.specs.Acts.{Act, Done, Get, Put, Say, Take, Ask, Fail, Answer}
use Rattle.run_model.specs.Turns.{After, Again, Result}
use Rattle.f77_tree.specs.declared.form.Form.{Form, out-Form}
use Rattle.f77_tree.specs.declared.form.Form.TheOpen.{Form-F}
use Rattle.f77_tree.specs.declared.unit.Stmt.{Stmt}
use Rattle.f77_tree.specs.declared.unit.Unit.{Unit as ProgramUnit}
use Rattle.f77_flow.specs.Labels.{has_range}
use Rattle.f77_flow.specs.Graph.{Point, At, Inside, Test, Advance, follow}
use Rattle.f77_flow.specs.Checks.{PassedChecks, IsNode}
use Rattle.f77_semantics.specs.Expressions.{Frame}
use Rattle.f77_semantics.specs.Statements.{Here, turn}
use Rattle.f77_semantics.specs.Units.{beginning}
use Rattle.f77_names.specs.Roles.{facts}
use Rattle.f77_store.specs.Layouts.{slots}
use Rattle.f77_semantics.specs.Terms.{Meant, Variable}
use Rattle.f77_semantics.specs.Effects.{PointOk}
use Rattle.f77_semantics.specs.Source.{meant_in, routine}

-- Whatever is read and answered, what acts end with has the property.
abbrev pub Gives : {A : Type 0} → (A → Type 0) → Act A → Type 0
Gives Q (Done a) = Q a
Gives Q (Get l k) = (v : Value) → Gives Q (k v)
Gives Q (Put l v a) = Gives Q a
Gives Q (Say bs a) = Gives Q a
Gives Q (Take k) = (x : ℤ) → Gives Q (k x)
Gives Q (Ask s ds k) = (r : Answer) → Gives Q (k r)
Gives Q (Fail reason) = Unit {0}

-- one of these points
pub record IsOne (points : List Point) (p : Point) : Type 0 where
  pub way : ℕ
  pub is : slice_get points way ≡ Some p

abbrev pub GoesTo : List Point → After Here → Type 0
GoesTo points (Again s) = IsOne points s.point
GoesTo points (Result r) = Unit {0}

-- a DO that is tested has a range
abbrev pub HasRange : List Stmt → Point → Type 0
HasRange u (Test d) = IsTrue (has_range u d)
HasRange u (Advance d) = IsTrue (has_range u d)
HasRange u _ = Unit {0}

-- A turn that goes on goes to a point that may follow where it began.
abbrev pub GoesByTheFlow : Type 0
GoesByTheFlow = (u : ProgramUnit) (f : Frame) (s : Here) → HasRange u.statements s.point → Gives (GoesTo (follow u.statements s.point)) (turn (routine u) f s)

abbrev pub IsLogicalIf : Form-F Form → Type 0
IsLogicalIf (Form-F.LogicalIf test inner) = Unit {0}
IsLogicalIf _ = ⊥

-- a logical IF at k
pub record IsGuard (u : List Stmt) (k : ℕ) : Type 0 where
  pub statement : Stmt
  pub stands : slice_get u k ≡ Some statement
  pub guards : IsLogicalIf (out-Form statement.form)

-- a place at which a step of a run may begin
abbrev pub IsPlace : List Stmt → Point → Type 0
IsPlace u (At k) = IsNode u k
IsPlace u (Inside k) = IsGuard u k
IsPlace u (Test d) = IsTrue (has_range u d)
IsPlace u (Advance d) = IsTrue (has_range u d)

abbrev pub GoesToPlaces : List Stmt → After Here → Type 0
GoesToPlaces u (Again s) = IsPlace u s.point
GoesToPlaces u (Result r) = Unit {0}

-- In a unit that passed the checks of its labels, jumps and nesting a run begins at such a place, and each turn from one goes to one.
pub record StaysOnPlaces : Type 0 where
  pub begins : (u : ProgramUnit) → PassedChecks u.statements → IsPlace u.statements (beginning (routine u)).point
  pub goes : (u : ProgramUnit) → PassedChecks u.statements → (f : Frame) (s : Here) → IsPlace u.statements s.point → Gives (GoesToPlaces u.statements) (turn (routine u) f s)

-- the variable of each DO is a variable
abbrev pub IsVariable : Meant → Type 0
IsVariable (Variable ty b) = Unit {0}
IsVariable _ = ⊥

abbrev pub CountsByVariable : ProgramUnit → Form-F Form → Type 0
CountsByVariable u (Form-F.Do label name from to step) = IsVariable (meant_in (facts u) (slots u) name)
CountsByVariable u _ = Unit {0}

abbrev pub DosHaveVariables : ProgramUnit → Type 0
DosHaveVariables u = (k : ℕ) (s : Stmt) → slice_get u.statements k ≡ Some s → CountsByVariable u (out-Form s.form)

-- At each place of a unit there is a turn that its routine can begin: a statement, the statement of a logical IF, or a DO.
abbrev pub PlacesArePoints : Type 0
PlacesArePoints = (u : ProgramUnit) → DosHaveVariables u → (p : Point) → IsPlace u.statements p → PointOk (routine u) p

-- In a unit that passed its checks the routine has a turn to begin with, and one wherever the flow leads.
pub record HasTurns (u : ProgramUnit) : Type 0 where
  pub first : PointOk (routine u) (beginning (routine u)).point
  pub each : (p q : Point) → IsOne (follow u.statements p) q → PointOk (routine u) q

abbrev pub TurnsEverywhere : Type 0
TurnsEverywhere = (u : ProgramUnit) → PassedChecks u.statements → DosHaveVariables u → HasTurns u
