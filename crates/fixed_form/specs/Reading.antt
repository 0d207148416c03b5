-- Which units a text has, and which fault comes first.
use Rattle.std.specs.Prelude.{◌≡◌, ℕ, ◌+◌, ◌≤◌, Bool, true, false, List, [], ◌∷◌, ◌++◌, Option, Some, None, if◌then◌else◌, ◌==◌, fold, flat_map, map, length, min}
use Rattle.std.specs.List.{All}
use Rattle.f77_tree.specs.declared.fault.SourceFault.{SourceFault}
use Rattle.f77_tree.specs.declared.fault.Refused.{Refused}
use Rattle.f77_tree.specs.declared.fault.Refused.TheVariants.{Fault, OutOfMemory}
use Rattle.fixed_form.specs.declared.card.LineKind.{LineKind}
use Rattle.fixed_form.specs.declared.card.LineKind.TheVariants as kind
use Rattle.fixed_form.specs.declared.reader.Line.{Line}
use Rattle.fixed_form.specs.declared.reader.UnitText.{UnitText}
use Rattle.fixed_form.specs.Lines.{Text}
use Rattle.fixed_form.specs.Cards.{columns, kind_of, label_field, text_field, value_of, statement_text, inside_from, card_strange}
use Rattle.fixed_form.specs.UnitNames.{NamesUnit}

unfoldable pub kind_at : Text → LineKind
kind_at line = kind_of (columns line)

unfoldable pub field_at : Text → Text
field_at line = text_field (columns line)

-- a place has a line of 32 bits, and tells the greatest in place of a later one
abbrev pub told : ℕ → ℕ
told n = min n 4294967295

-- ---- faults

-- a statement in progress: the number of its continuation lines, and its columns 7 to 72 so far
pub record Progress : Type 0 where
  pub more : ℕ
  pub fields : Text

-- None where no statement has begun in the unit
abbrev pub after : Option Progress → LineKind → Text → Option Progress
after place kind.Comment field = place
after place kind.Initial field = Some (record { more = 0; fields = field })
after place kind.End field = None
after None kind.Continuation field = None
after (Some p) kind.Continuation field = Some (record { more = p.more + 1; fields = p.fields ++ field })
after place kind.BadLabel field = place
after place kind.LabelledContinuation field = place

unfoldable pub place_of : List Text → Option Progress
place_of lines = fold (λ place line. after place (kind_at line) (field_at line)) None lines

-- Whether column 7 of a line that stands there is inside a literal. A continuation line goes on from the columns so far,
-- whatever its columns 1 to 5 hold.
abbrev pub inside_at : Option Progress → LineKind → Bool
inside_at (Some p) kind.Continuation = inside_from false p.fields
inside_at (Some p) kind.LabelledContinuation = inside_from false p.fields
inside_at place _ = false

-- the fault of a line of this kind that stands there, with a strange byte outside literals or without
abbrev pub fault : Option Progress → LineKind → Bool → Option ℕ
fault place kind.Comment strange = None
fault place _ true = Some 1
fault place kind.BadLabel false = Some 2
fault place kind.LabelledContinuation false = Some 2
fault None kind.Continuation false = Some 3
fault (Some p) kind.Continuation false = if p.more == 19 then Some 4 else None
fault place _ false = None

unfoldable pub fault_at : Option Progress → Text → Option ℕ
fault_at place line = fault place (kind_at line) (card_strange (inside_at place (kind_at line)) (columns line))

pub record HasNoFault (lines : List Text) : Type 0 where
  pub none : (before : List Text) (line : Text) (rest : List Text) → lines ≡ before ++ line ∷ rest → fault_at (place_of before) line ≡ None

-- the first fault by lines, which are numbered from 1
pub data FirstFault (lines : List Text) (number at : ℕ) : Type 0 where
  at_line : (before : List Text) (line : Text) (rest : List Text) → lines ≡ before ++ line ∷ rest → at ≡ length before + 1 → HasNoFault before → fault_at (place_of before) line ≡ Some number → FirstFault lines number at
  at_the_end : (p : Progress) → HasNoFault lines → place_of lines ≡ Some p → number ≡ 5 → at ≡ length lines → FirstFault lines number at

pub record IsFirstFault (fault : SourceFault) (lines : List Text) : Type 0 where
  pub at : ℕ
  pub first : FirstFault lines fault.number at
  pub unit : fault.place.unit ≡ None
  pub line : fault.place.line ≡ told at
  pub limit : fault.limit ≡ 0

-- the cause of a refusal
abbrev pub Explains : Refused → List Text → Type 0
Explains (Fault fault) lines = IsFirstFault fault lines
Explains OutOfMemory lines = Unit {0}

-- ---- units

-- a line that is no comment, with its number in its unit
pub record Card : Type 0 where
  pub number : ℕ
  pub line : Text

abbrev pub card_of : ℕ → Text → LineKind → List Card
card_of n line kind.Comment = []
card_of n line _ = record { number = n; line = line } ∷ []

-- the number of the next line in its unit, which is 1 behind an END line
abbrev pub next_number : ℕ → LineKind → ℕ
next_number n kind.End = 1
next_number n _ = n + 1

-- the lines that are no comments, the first line having this number
unfoldable pub cards_from : ℕ → List Text → List Card
cards_from n [] = []
cards_from n (line ∷ lines) = card_of n line (kind_at line) ++ cards_from (next_number n (kind_at line)) lines

-- the lines of a statement
pub record Group : Type 0 where
  pub first : Card
  pub more : List Card

abbrev pub cards_of : Group → List Card
cards_of g = g.first ∷ g.more

-- columns 7 to 72 of its lines, joined
abbrev pub fields_of : Group → Text
fields_of g = field_at g.first.line ++ flat_map (λ c. field_at c.line) g.more

unfoldable pub statement_of : Group → Line
statement_of g = record {
  label = value_of (label_field (columns g.first.line));
  line = told g.first.number;
  text = statement_text (fields_of g);
}

pub record IsStatement (g : Group) : Type 0 where
  pub initial : kind_at g.first.line ≡ kind.Initial
  pub continued : All (λ c. kind_at c.line ≡ kind.Continuation) g.more
  pub few : length g.more ≤ 19

pub record IsUnit (body : List Group) (last : Group) : Type 0 where
  pub statements : All IsStatement body
  pub end : kind_at last.first.line ≡ kind.End
  pub alone : last.more ≡ []

pub record Parts : Type 0 where
  pub body : List Group
  pub last : Group

abbrev pub groups_of : Parts → List Group
groups_of p = p.body ++ p.last ∷ []

unfoldable pub statements_of : Parts → List Line
statements_of p = map statement_of (groups_of p)

abbrev pub first_text : List Line → Text
first_text [] = []
first_text (line ∷ lines) = line.text

pub record IsNamed (u : UnitText) : Type 0 where
  pub name : NamesUnit (first_text u.statements) u.name

-- The lines are these units, with comment lines among them: each unit is statements and an END line.
pub record Reads (lines : List Text) (found : List UnitText) : Type 0 where
  pub parts : List Parts
  pub cards : cards_from 1 lines ≡ flat_map (λ p. flat_map cards_of (groups_of p)) parts
  pub each : All (λ p. IsUnit p.body p.last) parts
  pub units : map (λ u. u.statements) found ≡ map statements_of parts
  pub named : All IsNamed found
  pub faultless : HasNoFault lines

-- the label and text of each statement
abbrev pub label_and_text : Line → ℕ × Text
label_and_text line = (line.label, line.text)

unfoldable pub source_of : UnitText → List (ℕ × Text)
source_of u = map label_and_text u.statements
