-- Statements that go elsewhere, and their labels (sections 3.4, 11.1, 11.2, 11.4, 11.12 and 15.6.2 of the standard).
use Rattle.std.specs.Prelude.{◌≡◌, ℕ, ◌≤◌, Bool, true, false, List, [], ◌∷◌, Option, Some, None, pos, nat_le}
use Rattle.f77_tree.specs.declared.expr.Expr.{Expr, out-Expr}
use Rattle.f77_tree.specs.declared.expr.Expr.TheOpen.{Expr-F}
use Rattle.f77_tree.specs.declared.form.Form.{Form}
use Rattle.f77_tree.specs.declared.form.Form.TheVariants as f
use Rattle.f77_expr.specs.declared.token.Token.TheVariants as t
use Rattle.f77_expr.specs.Kinds.{Tokens}
use Rattle.form_parts.specs.Listed.{Parenthesized, Whole, behind_comma}
use Rattle.form_execution.specs.Control.{IsCondition}
use Rattle.form_parts.specs.Parts.{IsExpression}

-- A label has one to five digits as written, so it is at most 99999.
pub record IsLabel (ts : Tokens) (label : ℕ) (rest : Tokens) : Type 0 where
  pub digits : ℕ
  pub front : ts ≡ t.Int (pos label) digits ∷ rest
  pub few : digits ≤ 5
  pub small : label ≤ 99999

-- a label behind GOTO
pub record IsPlainGoTo (ts : Tokens) (form : Form) : Type 0 where
  pub label : ℕ
  pub is : IsLabel ts label []
  pub made : form ≡ f.GoTo label

-- (l,..)[,]e behind GOTO
pub record IsComputedGoTo (ts : Tokens) (form : Form) : Type 0 where
  pub labels : List ℕ
  pub index : Expr
  pub rest : Tokens
  pub listed : Parenthesized IsLabel ts labels rest
  pub reads : IsExpression (behind_comma rest) index
  pub made : form ≡ f.ComputedGoTo labels index

pub data IsGoTo (ts : Tokens) (form : Form) : Type 0 where
  plain : IsPlainGoTo ts form → IsGoTo ts form
  computed : IsComputedGoTo ts form → IsGoTo ts form

-- (e)l,l,l behind IF
pub record IsArithmeticIf (ts : Tokens) (form : Form) : Type 0 where
  pub test : Expr
  pub rest : Tokens
  pub negative : ℕ
  pub null : ℕ
  pub positive : ℕ
  pub condition : IsCondition ts test rest
  pub labels : Whole IsLabel rest (negative ∷ null ∷ positive ∷ [])
  pub made : form ≡ f.ArithmeticIf test negative null positive

-- nothing, at most five digits, or a literal
abbrev pub is_stop : Tokens → Bool
is_stop [] = true
is_stop (t.Int n digits ∷ []) = nat_le digits 5
is_stop (t.Text bytes ∷ []) = true
is_stop _ = false

-- what may stand behind STOP has no effect
pub record IsStop (ts : Tokens) (form : Form) : Type 0 where
  pub stops : is_stop ts ≡ true
  pub made : form ≡ f.Stop

-- the call of a name, alone or with a list of expressions or of none
abbrev pub call_at : Expr-F Expr → Option Form
call_at (Expr-F.Scalar name) = Some (f.Call name [])
call_at (Expr-F.Apply name actuals) = Some (f.Call name actuals)
call_at _ = None

abbrev pub call_of : Expr → Option Form
call_of x = call_at (out-Expr x)

-- n, n(e,..) or n() behind CALL
pub record IsCall (ts : Tokens) (form : Form) : Type 0 where
  pub x : Expr
  pub reads : IsExpression ts x
  pub made : call_of x ≡ Some form
