-- Assignments (section 10 of the standard).
use Rattle.std.specs.Prelude.{◌≡◌}
use Rattle.f77_tree.specs.declared.expr.Expr.{Expr}
use Rattle.f77_tree.specs.declared.form.Form.{Form}
use Rattle.f77_tree.specs.declared.form.Form.TheVariants as f
use Rattle.f77_expr.specs.declared.token.Kind.TheVariants as k
use Rattle.f77_expr.specs.Kinds.{Tokens, IsNext}
use Rattle.form_parts.specs.Parts.{IsVariable}
use Rattle.form_parts.specs.Parts.{IsExpression}

-- v=e
pub record IsAssignment (ts : Tokens) (form : Form) : Type 0 where
  pub target : Expr
  pub value : Expr
  pub rest : Tokens
  pub more : Tokens
  pub assigned : IsVariable ts target rest
  pub equals : IsNext rest k.Equals more
  pub reads : IsExpression more value
  pub made : form ≡ f.Assign target value
