-- Names, variables, array elements and expressions.
use Rattle.std.specs.Prelude.{◌≡◌, ℕ, true, List, [], ◌∷◌}
use Rattle.f77_tree.specs.declared.expr.Expr.{Expr}
use Rattle.f77_tree.specs.declared.expr.Expr.TheVariants as e
use Rattle.f77_tree.specs.Names.{is_name}
use Rattle.f77_expr.specs.declared.token.Token.TheVariants as t
use Rattle.f77_expr.specs.Kinds.{Tokens}
use Rattle.f77_expr.specs.Grammar.{ReadsExpression}
use Rattle.form_parts.specs.Listed.{Parenthesized}

-- a name, and what is left behind it
pub record IsName (ts : Tokens) (name : List ℕ) (s : Tokens) : Type 0 where
  pub front : ts ≡ t.Word name ∷ s
  pub is : is_name name ≡ true

-- a name of a variable or an array, or an array element, which has at least one subscript
pub data IsVariable : Tokens → Expr → Tokens → Type 0 where
  plain : {ts s : Tokens} {x : Expr} {name : List ℕ} → IsName ts name s → x ≡ e.Scalar name → IsVariable ts x s
  element : {ts rest s : Tokens} {x : Expr} {name : List ℕ} {subscripts : List Expr} → IsName ts name rest → Parenthesized ReadsExpression rest subscripts s → x ≡ e.Apply name subscripts → IsVariable ts x s

-- the tokens are one expression
pub record IsExpression (ts : Tokens) (x : Expr) : Type 0 where
  pub reads : ReadsExpression ts x []
