-- What the checks of a unit ask of its labels, jumps, DOs and block IFs, for any list of statements. A place is the number of a
-- statement; where two statements are needed, it is the later one.
use Rattle.std.specs.Prelude.{◌≡◌, ◌≢◌, ℕ, ◌<◌, ◌≤◌, ◌-◌, ◌⊎◌, max, true, List, [], ◌∷◌, Some, slice_get, length, nat_eq, IsTrue}
use Rattle.std.specs.List.{list_any}
use Rattle.f77_tree.specs.declared.form.Form.{Form, out-Form}
use Rattle.f77_tree.specs.declared.form.Form.TheOpen.{Form-F}
use Rattle.f77_tree.specs.declared.unit.Stmt.{Stmt}
use Rattle.f77_flow.specs.declared.kinds.Kind.{Kind}
use Rattle.f77_flow.specs.declared.kinds.Kind.TheVariants.{BlockIf, Else, EndIf, Do, Plain}
use Rattle.f77_flow.specs.Kinds.{kind_at, is_executable}
use Rattle.f77_flow.specs.Labels.{target, last_of, has_range}
use Rattle.f77_flow.specs.Blocks.{end_if}
use Rattle.f77_flow.specs.Spans.{IsInRange, IsBlock, IsElse, IsPartOf, IsInArm, IsSpan}

-- the labels that a form jumps to
abbrev pub simple_labels : Form-F Form → List ℕ
simple_labels (Form-F.ArithmeticIf value minus null plus) = minus ∷ null ∷ plus ∷ []
simple_labels (Form-F.GoTo label) = label ∷ []
simple_labels (Form-F.ComputedGoTo labels index) = labels
simple_labels _ = []

abbrev pub jump_labels : Form-F Form → List ℕ
jump_labels (Form-F.LogicalIf test inner) = simple_labels (out-Form inner)
jump_labels form = simple_labels form

-- statement k jumps to the label
pub record JumpsTo (u : List Stmt) (k label : ℕ) : Type 0 where
  pub statement : Stmt
  pub stands : slice_get u k ≡ Some statement
  pub place : ℕ
  pub among : slice_get (jump_labels (out-Form statement.form)) place ≡ Some label

-- fault 14 at k: a jump's label stands on no executable statement
pub record JumpsNowhere (u : List Stmt) (k : ℕ) : Type 0 where
  pub label : ℕ
  pub jumps : JumpsTo u k label
  pub nowhere : length u ≤ target u label

-- fault 15 at k: a label stands twice
pub record RepeatsLabel (u : List Stmt) (k : ℕ) : Type 0 where
  pub before : ℕ
  pub earlier : before < k
  pub one : Stmt
  pub other : Stmt
  pub stands : slice_get u before ≡ Some one
  pub again : slice_get u k ≡ Some other
  pub same : one.label ≡ other.label
  pub labelled : other.label ≢ 0

-- a range or an arm holds the target t, and not the jump at k
pub data EntersSpan (u : List Stmt) (k t : ℕ) : Type 0 where
  range : (d : ℕ) → IsInRange u d t → ¬ IsInRange u d k → EntersSpan u k t
  arm : (h : ℕ) → IsInArm u h t → ¬ IsInArm u h k → EntersSpan u k t

-- fault 16 at the later of a jump and its target: the target is an ELSE or ELSE IF, or stands in what doesn't hold the jump
pub record JumpsAstray (u : List Stmt) (place : ℕ) : Type 0 where
  pub jump : ℕ
  pub label : ℕ
  pub jumps : JumpsTo u jump label
  pub stands : target u label < length u
  pub later : place ≡ max jump (target u label)
  pub astray : IsElse (kind_at u (target u label)) ⊎ EntersSpan u jump (target u label)

-- a statement that ends no DO
abbrev pub EndsNoLoop : Form-F Form → Kind → Type 0
EndsNoLoop (Form-F.GoTo label) kind = Unit {0}
EndsNoLoop (Form-F.ArithmeticIf value minus null plus) kind = Unit {0}
EndsNoLoop Form-F.Return kind = Unit {0}
EndsNoLoop Form-F.Stop kind = Unit {0}
EndsNoLoop Form-F.End kind = Unit {0}
EndsNoLoop _ Plain = ⊥
EndsNoLoop _ _ = Unit {0}

-- fault 17 at the last statement k of a DO
pub record EndsLoopBadly (u : List Stmt) (k : ℕ) : Type 0 where
  pub loop : ℕ
  pub statement : Stmt
  pub stands : slice_get u k ≡ Some statement
  pub last : last_of u loop ≡ k
  pub bad : EndsNoLoop (out-Form statement.form) (kind_at u k)

-- a part of a block IF that stands behind an ELSE of it
pub record StandsBehindElse (u : List Stmt) (k : ℕ) : Type 0 where
  pub block : ℕ
  pub part : IsPartOf u block k
  pub other : ℕ
  pub sibling : IsPartOf u block other
  pub is_else : kind_at u other ≡ Else
  pub earlier : other < k

-- a DO in an arm that ends outside it
pub record LeavesArm (u : List Stmt) (d : ℕ) : Type 0 where
  pub arm : ℕ
  pub range : IsTrue (has_range u d)
  pub inside : IsInArm u arm d
  pub outside : ¬ IsInArm u arm (last_of u d)

-- the span that begins at k overlaps one that begins above it, and neither holds the other
pub record Overlaps (u : List Stmt) (k : ℕ) : Type 0 where
  pub from : ℕ
  pub to : ℕ
  pub end : ℕ
  pub one : IsSpan u from to
  pub other : IsSpan u k end
  pub above : from < k
  pub meets : k ≤ to
  pub outlasts : to < end

-- fault 18 at k
pub data IsMisnested (u : List Stmt) (k : ℕ) : Type 0 where
  no_last : (label : ℕ) → kind_at u k ≡ Do label → ¬ IsTrue (has_range u k) → IsMisnested u k
  no_end : kind_at u k ≡ BlockIf → ¬ IsBlock u k → IsMisnested u k
  no_block : IsElse (kind_at u k) → ((b : ℕ) → ¬ IsPartOf u b k) → IsMisnested u k
  no_begin : kind_at u k ≡ EndIf → ((b : ℕ) → IsBlock u b → end_if u b ≢ k) → IsMisnested u k
  behind_else : StandsBehindElse u k → IsMisnested u k
  leaves_arm : LeavesArm u k → IsMisnested u k
  overlaps : Overlaps u k → IsMisnested u k

-- What is used of a unit that passed its checks: none of these faults is anywhere, and the last statement is END.
pub record PassedChecks (u : List Stmt) : Type 0 where
  pub jumps : (k : ℕ) → ¬ JumpsNowhere u k
  pub targets : (k : ℕ) → ¬ JumpsAstray u k
  pub lasts : (k : ℕ) → ¬ EndsLoopBadly u k
  pub nests : (k : ℕ) → ¬ IsMisnested u k
  pub last : Stmt
  pub stands : slice_get u (length u - 1) ≡ Some last
  pub end : out-Form last.form ≡ Form-F.End

-- a statement with which a step of a run may begin
pub record IsNode (u : List Stmt) (k : ℕ) : Type 0 where
  pub within : k < length u
  pub executable : is_executable (kind_at u k) ≡ true
  pub no_else : kind_at u k ≢ Else

-- each number in the lists is of such a statement
abbrev pub LeadToNodes : List Stmt → List (List ℕ) → Type 0
LeadToNodes u next = (k : ℕ) (js : List ℕ) → slice_get next k ≡ Some js → (j : ℕ) → IsTrue (list_any (nat_eq j) js) → IsNode u j
