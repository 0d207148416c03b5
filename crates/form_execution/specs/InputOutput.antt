-- PRINT and READ (section 12.8 of the standard).
use Rattle.std.specs.Prelude.{◌≡◌, ℕ, List, [], ◌∷◌}
use Rattle.f77_tree.specs.declared.expr.Expr.{Expr}
use Rattle.f77_tree.specs.declared.expr.Expr.TheVariants as e
use Rattle.f77_tree.specs.declared.form.Form.{Form}
use Rattle.f77_tree.specs.declared.form.Form.TheVariants as f
use Rattle.f77_expr.specs.declared.token.Token.TheVariants as t
use Rattle.f77_expr.specs.declared.token.Kind.TheVariants as k
use Rattle.f77_expr.specs.Kinds.{Tokens, IsNext}
use Rattle.f77_expr.specs.Grammar.{ReadsExpression}
use Rattle.form_parts.specs.Listed.{Whole}
use Rattle.form_parts.specs.Parts.{IsVariable}

-- an expression or a literal
pub data IsItem (ts : Tokens) (x : Expr) (rest : Tokens) : Type 0 where
  value : ReadsExpression ts x rest → IsItem ts x rest
  literal : (bytes : List ℕ) → ts ≡ t.Text bytes ∷ rest → x ≡ e.Text bytes → IsItem ts x rest

-- PRINT*, with no items or with items behind a comma
pub data IsPrint (ts : Tokens) (form : Form) : Type 0 where
  alone : IsNext ts k.Star [] → form ≡ f.Print [] → IsPrint ts form
  listed : (behind rest : Tokens) (items : List Expr) → IsNext ts k.Star behind → IsNext behind k.Comma rest → Whole IsItem rest items → form ≡ f.Print items → IsPrint ts form

-- READ*, and what is read
pub record IsRead (ts : Tokens) (form : Form) : Type 0 where
  pub behind : Tokens
  pub rest : Tokens
  pub targets : List Expr
  pub star : IsNext ts k.Star behind
  pub comma : IsNext behind k.Comma rest
  pub listed : Whole IsVariable rest targets
  pub made : form ≡ f.Read targets
