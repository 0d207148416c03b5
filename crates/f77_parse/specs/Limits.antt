-- The limits on the tokens and the dummies of a unit.
use Rattle.std.specs.Prelude.{◌≡◌, ℕ, ◌+◌, ◌≤◌, ◌<◌, List, length, sum}
use Rattle.std.specs.List.{AllZip}
use Rattle.std.specs.declared.option.Option.{Option}
use Rattle.f77_tree.specs.declared.form.Form.{Form}
use Rattle.f77_tree.specs.declared.form.Form.TheVariants as f
use Rattle.f77_tree.specs.declared.form.TypeWord.{TypeWord}
use Rattle.f77_tree.specs.declared.unit.UnitKind.{UnitKind}
use Rattle.fixed_form.specs.declared.reader.Line.{Line}
use Rattle.f77_expr.specs.Lexing.{Counts}

abbrev pub most_tokens : ℕ
most_tokens = 20000

abbrev pub most_dummies : ℕ
most_dummies = 63

-- how many tokens the texts of these statements have together
pub record CountTokens (lines : List Line) (n : ℕ) : Type 0 where
  pub counts : List ℕ
  pub each : AllZip (λ line count. Counts line.text count) lines counts
  pub total : n ≡ sum counts

-- The total passes its limit with this statement.
pub record PassesTokens (before : List Line) (line : Line) : Type 0 where
  pub earlier : ℕ
  pub own : ℕ
  pub counted : CountTokens before earlier
  pub counts : Counts line.text own
  pub within : earlier ≤ most_tokens
  pub passes : most_tokens < earlier + own

-- The form is a head with too many dummies.
pub record PassesDummies (form : Form) : Type 0 where
  pub kind : UnitKind
  pub word : Option TypeWord
  pub name : List ℕ
  pub dummies : List (List ℕ)
  pub is : form ≡ f.Head kind word name dummies
  pub passes : most_dummies < length dummies
