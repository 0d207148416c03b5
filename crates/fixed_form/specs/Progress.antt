-- How far a reader has come in the lines of a text.
use Rattle.std.specs.Prelude.{◌≡◌, ℕ, ◌+◌, ◌≤◌, Bool, false, List, [], ◌∷◌, ◌++◌, Option, Some, None, fold, flat_map, map, length, option_map}
use Rattle.std.specs.List.{All}
use Rattle.f77_tree.specs.declared.fault.Refused.{Refused}
use Rattle.f77_tree.specs.declared.fault.Refused.TheVariants.{Fault, OutOfMemory}
use Rattle.fixed_form.specs.declared.card.LineKind.{LineKind}
use Rattle.fixed_form.specs.declared.card.LineKind.TheVariants as kind
use Rattle.fixed_form.specs.declared.reader.Line.{Line}
use Rattle.fixed_form.specs.declared.reader.UnitText.{UnitText}
use Rattle.fixed_form.specs.declared.reader.Current.{Current}
use Rattle.fixed_form.specs.declared.reader.Reader.{Reader}
use Rattle.fixed_form.specs.Lines.{Text, lines_of}
use Rattle.fixed_form.specs.Cards.{columns, is_comment, label_field, text_field, value_of, text_from, inside_from}
use Rattle.fixed_form.specs.Reading.{told, kind_at, Progress, place_of, HasNoFault, Card, cards_from, next_number, Group, cards_of, fields_of, statement_of, IsStatement, IsUnit, Parts, groups_of, statements_of, IsNamed}

-- ---- statements in progress

-- by the columns of its first line, and with those of one more
abbrev pub begun_at : ℕ → Text → Current
begun_at n card = record {
  line = record { label = value_of (label_field card); line = n; text = text_from false (text_field card) };
  more = 0;
  inside = inside_from false (text_field card);
}

abbrev pub longer : Current → Text → Current
longer c card = record {
  line = record { label = c.line.label; line = c.line.line; text = c.line.text ++ text_from c.inside (text_field card) };
  more = c.more + 1;
  inside = inside_from c.inside (text_field card);
}

abbrev pub closed : Option Current → List Line
closed None = []
closed (Some c) = c.line ∷ []

-- whether column 7 of a line of this kind is inside a literal
abbrev pub inside_current : Option Current → LineKind → Bool
inside_current (Some c) kind.Continuation = c.inside
inside_current (Some c) kind.LabelledContinuation = c.inside
inside_current now _ = false

-- ---- the reader

abbrev pub open_cards : Option Group → List Card
open_cards None = []
open_cards (Some g) = cards_of g

abbrev pub IsOpen : Option Group → Type 0
IsOpen None = Unit {0}
IsOpen (Some g) = IsStatement g

abbrev pub open_of : Group → Current
open_of g = record { line = statement_of g; more = length g.more; inside = inside_from false (fields_of g) }

abbrev pub progress_of : Group → Progress
progress_of g = record { more = length g.more; fields = fields_of g }

-- the number of the line behind these in its unit
unfoldable pub number_after : List Text → ℕ
number_after lines = fold (λ n line. next_number n (kind_at line)) 1 lines

pub record Stands (seen : List Text) (found : List UnitText) (done : List Line) (now : Option Current) (next : ℕ) : Type 0 where
  pub parts : List Parts
  pub body : List Group
  pub last : Option Group
  pub cards : cards_from 1 seen ≡ flat_map (λ p. flat_map cards_of (groups_of p)) parts ++ flat_map cards_of body ++ open_cards last
  pub each : All (λ p. IsUnit p.body p.last) parts
  pub statements : All IsStatement body
  pub opened : IsOpen last
  pub units : map (λ u. u.statements) found ≡ map statements_of parts
  pub named : All IsNamed found
  pub statements_are : done ≡ map statement_of body
  pub last_is : now ≡ option_map open_of last
  pub begun : last ≡ None → body ≡ []
  pub place : place_of seen ≡ option_map progress_of last
  pub numbered : next ≡ told (number_after seen)
  pub none : HasNoFault seen

abbrev pub StandsIn : List Text → Reader → Type 0
StandsIn seen reader = Stands seen reader.units reader.done reader.current reader.next

-- the next line, which is no comment, with its number in the text
pub record IsNextCard (seen : List Text) (line : Text) (number : ℕ) (card : Text) : Type 0 where
  pub numbered : number ≡ length seen + 1
  pub card_is : card ≡ columns line
  pub no_comment : is_comment card ≡ false

-- a fault of this number at this line
abbrev pub RefusesAt : Refused → ℕ → ℕ → Type 0
RefusesAt (Fault fault) number at = (fault.number ≡ number) × (fault.place.unit ≡ None) × (fault.place.line ≡ told at) × (fault.limit ≡ 0)
RefusesAt OutOfMemory number at = Unit {0}

-- the reader behind an END line
pub record IsClosed (reader : Reader) (card : Text) (next : Reader) : Type 0 where
  pub last : UnitText
  pub units : next.units ≡ reader.units ++ last ∷ []
  pub statements : last.statements ≡ (reader.done ++ closed reader.current) ++ (begun_at reader.next card).line ∷ []
  pub named : IsNamed last
  pub done : next.done ≡ []
  pub current : next.current ≡ None
  pub next_line : next.next ≡ 1

-- A reader has read some lines of the text, and the rest is still to come.
pub record Gone (text rest : Text) (number : ℕ) (reader : Reader) : Type 0 where
  pub seen : List Text
  pub whole : lines_of text ≡ seen ++ lines_of rest
  pub numbered : number ≡ length seen
  pub taken : number + length rest ≤ length text
  pub stands : StandsIn seen reader
