-- How far a unit has been parsed.
use Rattle.std.specs.Prelude.{◌≡◌, ℕ, ◌≤◌, min, List, [], ◌∷◌, ◌++◌, Some, None}
use Rattle.std.specs.List.{All, AllZip}
use Rattle.std.specs.declared.option.Option.{Option}
use Rattle.f77_tree.specs.Ends.{IsNoEnd}
use Rattle.f77_tree.specs.declared.form.Form.{Form}
use Rattle.f77_tree.specs.declared.form.TypeWord.{TypeWord}
use Rattle.f77_tree.specs.declared.form.Form.TheVariants as f
use Rattle.f77_tree.specs.declared.unit.Stmt.{Stmt}
use Rattle.f77_tree.specs.declared.unit.UnitKind.{UnitKind}
use Rattle.f77_tree.specs.declared.unit.UnitKind.TheVariants as unit
use Rattle.fixed_form.specs.declared.reader.Line.{Line}
use Rattle.fault_marks.specs.declared.marks.Mark.{Mark}
use Rattle.f77_parse.specs.declared.unit.Progress.{Progress}
use Rattle.f77_parse.specs.Context.{Knows}
use Rattle.fault_marks.specs.Earliest.{Earliest}
use Rattle.f77_parse.specs.Limits.{CountTokens, most_tokens}
use Rattle.f77_parse.specs.Parsed.{IsStatement}
use Rattle.f77_parse.specs.UnitFaults.{Shows}

-- One of these statements shows the fault, with others behind them.
pub record Among (kind : UnitKind) (lines behind : List Line) (mark : Mark) : Type 0 where
  pub front : List Line
  pub line : Line
  pub more : List Line
  pub cut : lines ≡ front ++ line ∷ more
  pub shows : Shows kind front line (more ++ behind) mark

-- what holds as long as no fault has shown
pub record Clean (lines behind : List Line) (total : ℕ) (statements : List Stmt) : Type 0 where
  pub parsed : AllZip IsStatement lines statements
  pub goes_on : (behind ≡ [] → ⊥) → All IsNoEnd statements
  pub closed : (front : List Stmt) (last : Stmt) → statements ≡ front ++ last ∷ [] → All IsNoEnd front
  pub within : total ≤ most_tokens

-- These statements have been gone through, and those are behind them.
pub record Stands (lines behind : List Line) (p : Progress) : Type 0 where
  pub knows : Knows lines p.context
  pub total : ℕ
  pub counted : CountTokens lines total
  pub tokens : p.tokens ≡ min total 20001
  pub fault : Earliest (Among p.context.kind lines behind) p.fault
  pub clean : p.fault ≡ None → Clean lines behind total p.statements

abbrev pub with_statement : List Stmt → Line → Option Form → List Stmt
with_statement statements line None = statements
with_statement statements line (Some form) = statements ++ record { label = line.label; line = line.line; form = form } ∷ []

-- the kind and the dummies that the form of a first statement gives
pub data TellsHead (form : Form) (kind : UnitKind) (names : List (List ℕ)) : Type 0 where
  of_head : (word : Option TypeWord) (name : List ℕ) → form ≡ f.Head kind word name names → TellsHead form kind names
  of_none : ((k : UnitKind) (word : Option TypeWord) (name : List ℕ) (all : List (List ℕ)) → form ≡ f.Head k word name all → ⊥) → kind ≡ unit.Main → names ≡ [] → TellsHead form kind names
