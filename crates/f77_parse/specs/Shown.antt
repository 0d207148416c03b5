-- The faults of a statement, part by part.
use Rattle.std.specs.Prelude.{◌≡◌, ℕ, Bool, true, false, List, [], Some, None}
use Rattle.std.specs.Bool.{MatchBool}
use Rattle.std.specs.declared.option.Option.{Option}
use Rattle.f77_tree.specs.declared.form.Form.{Form, out-Form}
use Rattle.f77_tree.specs.declared.form.Form.TheOpen.{Form-F}
use Rattle.f77_tree.specs.declared.unit.UnitKind.{UnitKind}
use Rattle.fixed_form.specs.declared.reader.Line.{Line}
use Rattle.form_kinds.specs.Foreign.{IsForeign}
use Rattle.fault_marks.specs.declared.marks.Mark.{Mark}
use Rattle.fault_marks.specs.Places.{Marks}
use Rattle.f77_parse.specs.Statements.{HasFormAt}
use Rattle.f77_parse.specs.Order.{BreaksOrder}
use Rattle.f77_parse.specs.Limits.{PassesTokens, PassesDummies, most_dummies}
use Rattle.f77_parse.specs.UnitFaults.{TokenFault, IsFormless, is_foreign_head}

-- the only number of a kind, where there is one
abbrev pub IsOnly : (ℕ → Type 0) → Option ℕ → Type 0
IsOnly Is None = (n : ℕ) → Is n → ⊥
IsOnly Is (Some n) = Is n × ((m : ℕ) → Is m → m ≡ n)

-- ---- forms

abbrev pub is_end_at : Form-F Form → Bool
is_end_at Form-F.End = true
is_end_at _ = false

abbrev pub is_end : Form → Bool
is_end form = is_end_at (out-Form form)

-- a truth value tells whether nothing stands behind
abbrev pub IsLast : Bool → List Line → Type 0
IsLast last behind = MatchBool last (behind ≡ []) (behind ≡ [] → ⊥)

-- the only form of a text in its place
pub record IsOnlyForm (behind : List Line) (text : List ℕ) (form : Form) : Type 0 where
  pub is : HasFormAt behind text form
  pub only : (other : Form) → HasFormAt behind text other → other ≡ form

pub record HasNoForm (behind : List Line) (text : List ℕ) : Type 0 where
  pub not : (form : Form) → HasFormAt behind text form → ⊥

abbrev pub KnowsForm : List Line → List ℕ → Option Form → Type 0
KnowsForm behind text None = HasNoForm behind text
KnowsForm behind text (Some form) = IsOnlyForm behind text form

pub record HasSomeForm (behind : List Line) (text : List ℕ) : Type 0 where
  pub form : Form
  pub is : HasFormAt behind text form

abbrev pub IsFormed : List Line → List ℕ → Bool → Type 0
IsFormed behind text formed = MatchBool formed (HasSomeForm behind text) (HasNoForm behind text)

-- ---- parts of what a statement shows

-- a fault of the tokens, or of a text without a form
pub data Explained (behind : List Line) (text : List ℕ) (number : ℕ) : Type 0 where
  by_tokens : TokenFault text number → Explained behind text number
  foreign : IsFormless behind text → IsForeign text → number ≡ 7 → Explained behind text number
  no_form : IsFormless behind text → (IsForeign text → ⊥) → number ≡ 6 → Explained behind text number

pub data FormShows (kind : UnitKind) (before : List Line) (line : ℕ) (form : Form) (mark : Mark) : Type 0 where
  foreign_head : Marks ((is_foreign_head form ≡ true) × (before ≡ [] → ⊥)) line 7 0 mark → FormShows kind before line form mark
  order : Marks (BreaksOrder kind before form) line 8 0 mark → FormShows kind before line form mark
  dummies : Marks (PassesDummies form) line 37 most_dummies mark → FormShows kind before line form mark

abbrev pub FormPart : UnitKind → List Line → ℕ → Option Form → Mark → Type 0
FormPart kind before line None mark = ⊥
FormPart kind before line (Some form) mark = FormShows kind before line form mark

abbrev pub KnowsPassing : List Line → Line → Bool → Type 0
KnowsPassing before line passes = MatchBool passes (PassesTokens before line) (PassesTokens before line → ⊥)

abbrev pub mark_at : ℕ → Option ℕ → Option Mark
mark_at line None = None
mark_at line (Some number) = Some (record { line = line; number = number; limit = 0 })
