-- The faults that statements of a unit show by themselves and by their places.
use Rattle.std.specs.Prelude.{◌≡◌, ℕ, ◌<◌, Bool, true, false, List, [], ◌∷◌, ◌++◌, Some}
use Rattle.f77_tree.specs.declared.fault.SourceFault.{SourceFault}
use Rattle.f77_tree.specs.declared.fault.Refused.{Refused}
use Rattle.f77_tree.specs.declared.fault.Refused.TheVariants.{Fault, OutOfMemory}
use Rattle.f77_tree.specs.declared.form.Form.{Form, out-Form}
use Rattle.f77_tree.specs.declared.form.Form.TheOpen.{Form-F}
use Rattle.f77_tree.specs.declared.form.TypeWord.{TypeWord}
use Rattle.f77_tree.specs.declared.form.TypeWord.TheVariants as word
use Rattle.f77_tree.specs.declared.unit.UnitKind.{UnitKind}
use Rattle.fixed_form.specs.declared.reader.Line.{Line}
use Rattle.fixed_form.specs.declared.reader.UnitText.{UnitText}
use Rattle.f77_expr.specs.Depth.{deepest}
use Rattle.f77_expr.specs.Lexing.{Piece, Unclosed, Large, Pieces, Has, Lacks, tokens_of}
use Rattle.form_kinds.specs.Foreign.{IsForeign}
use Rattle.fault_marks.specs.declared.marks.Mark.{Mark}
use Rattle.f77_parse.specs.Statements.{HasFormAt, HasHead}
use Rattle.f77_parse.specs.Order.{BreaksOrder}
use Rattle.f77_parse.specs.Limits.{PassesTokens, PassesDummies, most_tokens, most_dummies}
use Rattle.fault_marks.specs.Marks.{IsFirst}
use Rattle.fault_marks.specs.Refusals.{fault_of}

-- Faults that the pieces of a text explain: 10 where a literal isn't closed, else 9 where an integer is too large, else 11
-- where more than 100 parentheses stand in each other.
pub data PieceFault (all : List Piece) (number : ℕ) : Type 0 where
  open_literal : Has Unclosed all → number ≡ 10 → PieceFault all number
  large_integer : Lacks Unclosed all → Has Large all → number ≡ 9 → PieceFault all number
  too_deep : Lacks Unclosed all → Lacks Large all → 100 < deepest (tokens_of all) → number ≡ 11 → PieceFault all number

pub record TokenFault (text : List ℕ) (number : ℕ) : Type 0 where
  pub all : List Piece
  pub pieces : Pieces text all
  pub why : PieceFault all number

-- The text has no form here, and its tokens don't explain it.
pub record IsFormless (behind : List Line) (text : List ℕ) : Type 0 where
  pub none : (form : Form) → HasFormAt behind text form → ⊥
  pub unexplained : (number : ℕ) → TokenFault text number → ⊥

-- the types that this language lacks
abbrev pub is_foreign_type : TypeWord → Bool
is_foreign_type word.Real = true
is_foreign_type word.DoublePrecision = true
is_foreign_type word.Complex = true
is_foreign_type _ = false

abbrev pub is_foreign_head_at : Form-F Form → Bool
is_foreign_head_at (Form-F.Head kind (Some typed) name dummies) = is_foreign_type typed
is_foreign_head_at _ = false

-- a head with such a type
abbrev pub is_foreign_head : Form → Bool
is_foreign_head form = is_foreign_head_at (out-Form form)

-- a fault of this number at this statement
pub record IsAt (line : Line) (number limit : ℕ) (mark : Mark) : Type 0 where
  pub line_is : mark.line ≡ line.line
  pub number_is : mark.number ≡ number
  pub limit_is : mark.limit ≡ limit

-- The statement shows a fault, in a unit of this kind, between the statements before it and behind it.
pub data Shows (kind : UnitKind) (before : List Line) (line : Line) (behind : List Line) (mark : Mark) : Type 0 where
  by_tokens : (number : ℕ) → TokenFault line.text number → IsAt line number 0 mark → Shows kind before line behind mark
  foreign : IsFormless behind line.text → IsForeign line.text → IsAt line 7 0 mark → Shows kind before line behind mark
  no_form : IsFormless behind line.text → (IsForeign line.text → ⊥) → IsAt line 6 0 mark → Shows kind before line behind mark
  foreign_head : (form : Form) → HasFormAt behind line.text form → is_foreign_head form ≡ true → (before ≡ [] → ⊥) → IsAt line 7 0 mark → Shows kind before line behind mark
  order : (form : Form) → HasFormAt behind line.text form → BreaksOrder kind before form → IsAt line 8 0 mark → Shows kind before line behind mark
  tokens : PassesTokens before line → IsAt line 37 most_tokens mark → Shows kind before line behind mark
  dummies : (form : Form) → HasFormAt behind line.text form → PassesDummies form → IsAt line 37 most_dummies mark → Shows kind before line behind mark

-- A statement of the unit shows the fault.
pub record UnitShows (u : UnitText) (mark : Mark) : Type 0 where
  pub kind : UnitKind
  pub names : List (List ℕ)
  pub head : HasHead u.statements kind names
  pub before : List Line
  pub line : Line
  pub behind : List Line
  pub cut : u.statements ≡ before ++ line ∷ behind
  pub shows : Shows kind before line behind mark

-- the first fault of the unit
pub record IsUnitFault (fault : SourceFault) (u : UnitText) : Type 0 where
  pub mark : Mark
  pub first : IsFirst (UnitShows u) mark
  pub told : fault ≡ fault_of u.name mark

-- the cause of a refusal
abbrev pub Explains : Refused → UnitText → Type 0
Explains (Fault fault) u = IsUnitFault fault u
Explains OutOfMemory u = Unit {0}
