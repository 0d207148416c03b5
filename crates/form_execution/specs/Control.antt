-- Statements that stand for themselves, block IF, ELSE IF and DO (section 11 of the standard).
use Rattle.std.specs.Prelude.{◌≡◌, ℕ, Bool, true, false, [], ◌∷◌, Option, Some, None, codes}
use Rattle.std.specs.Str.{bytes_eq}
use Rattle.f77_tree.specs.declared.expr.Expr.{Expr}
use Rattle.f77_tree.specs.declared.form.Form.{Form}
use Rattle.f77_tree.specs.declared.form.Form.TheVariants as f
use Rattle.f77_expr.specs.declared.token.Token.TheVariants as t
use Rattle.f77_expr.specs.declared.token.Kind.TheVariants as k
use Rattle.f77_expr.specs.Spelling.{Text}
use Rattle.f77_expr.specs.Kinds.{Tokens, IsNext}
use Rattle.f77_expr.specs.Grammar.{ReadsExpression}
use Rattle.form_parts.specs.Answers.{InTokens}
use Rattle.form_parts.specs.Listed.{Whole}
use Rattle.form_kinds.specs.Scans.{FirstOutside}
use Rattle.form_kinds.specs.StatementKinds.{IsDoHead}

-- a word with nothing behind it
pub record IsBare (whole : Form) (ts : Tokens) (form : Form) : Type 0 where
  pub none : ts ≡ []
  pub made : form ≡ whole

-- (e)
pub record IsCondition (ts : Tokens) (test : Expr) (rest : Tokens) : Type 0 where
  pub inside : Tokens
  pub behind : Tokens
  pub opens : IsNext ts k.Open inside
  pub reads : ReadsExpression inside test behind
  pub closes : IsNext behind k.Close rest

abbrev pub is_then : Tokens → Bool
is_then (t.Word word ∷ []) = bytes_eq word (codes "THEN")
is_then _ = false

-- (e)THEN
pub record IsTest (ts : Tokens) (test : Expr) : Type 0 where
  pub rest : Tokens
  pub condition : IsCondition ts test rest
  pub then_is : is_then rest ≡ true

-- the first and the last value of a DO, and its step
pub data IsRange (ts : Tokens) (parts : Expr × Expr × Option Expr) : Type 0 where
  by_one : (from to : Expr) → Whole ReadsExpression ts (from ∷ to ∷ []) → parts ≡ (from, to, None) → IsRange ts parts
  by_step : (from to step : Expr) → Whole ReadsExpression ts (from ∷ to ∷ step ∷ []) → parts ≡ (from, to, Some step) → IsRange ts parts

-- DO l[,]n=e,e[,e]
pub record IsDoForm (text : Text) (form : Form) : Type 0 where
  pub before : Text
  pub behind : Text
  pub label : ℕ
  pub name : Text
  pub parts : Expr × Expr × Option Expr
  pub cut : FirstOutside 61 text before behind
  pub head : IsDoHead before label name
  pub range : InTokens IsRange behind parts
  pub made : form ≡ f.Do label name parts.0 parts.1 parts.2
