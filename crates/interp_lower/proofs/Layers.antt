-- What expressions are looked up to.
use Rattle.std.proofs.Common.{◌≡◌, ◌+◌, List, Bool, ℕ, ℤ, map, ap, sym, ◌∙◌}
use Rattle.f77_tree.specs.declared.expr.Op.{Op}
use Rattle.f77_tree.specs.declared.expr.Expr.{Expr}
use Rattle.f77_tree.specs.declared.expr.Expr.TheOpen.{Expr-F}
use Rattle.f77_tree.specs.declared.expr.Expr.TheVariants.{Int, Truth, Text, Scalar, Apply, Paren, Neg, Plus, Not, Binary, rolls-Int, rolls-Truth, rolls-Text, rolls-Scalar, rolls-Apply, rolls-Paren, rolls-Neg, rolls-Plus, rolls-Not, rolls-Binary}
use Rattle.f77_tree.specs.declared.unit.Value.TheVariants.{Integer, Logical}
use Rattle.f77_values.specs.Tables.{Name}
use Rattle.f77_semantics.specs.Program as program
use Rattle.f77_semantics.specs.Terms.{Meant, Resolved, resolved, plain, over, bare, applied}
use Rattle.f77_semantics.proofs.Trees.{layer}

module _ (meant : Name → Meant) where
  pub resolved-Int : (n : ℤ) → resolved meant (Int n) ≡ plain (program.Literal (Integer n))
  resolved-Int n = ap (resolved meant) (sym (rolls-Int n)) ∙ layer meant (Expr-F.Int n)

  pub resolved-Truth : (b : Bool) → resolved meant (Truth b) ≡ plain (program.Literal (Logical b))
  resolved-Truth b = ap (resolved meant) (sym (rolls-Truth b)) ∙ layer meant (Expr-F.Truth b)

  pub resolved-Text : (bytes : List ℕ) → resolved meant (Text bytes) ≡ plain (program.Text bytes)
  resolved-Text bytes = ap (resolved meant) (sym (rolls-Text bytes)) ∙ layer meant (Expr-F.Text bytes)

  pub resolved-Scalar : (name : Name) → resolved meant (Scalar name) ≡ plain (bare (meant name))
  resolved-Scalar name = ap (resolved meant) (sym (rolls-Scalar name)) ∙ layer meant (Expr-F.Scalar name)

  pub resolved-Apply : (name : Name) (list : List Expr) → resolved meant (Apply name list) ≡ applied (meant name) (map (resolved meant) list)
  resolved-Apply name list = ap (resolved meant) (sym (rolls-Apply name list)) ∙ layer meant (Expr-F.Apply name list)

  pub resolved-Paren : (e : Expr) → resolved meant (Paren e) ≡ over program.Paren (resolved meant e)
  resolved-Paren e = ap (resolved meant) (sym (rolls-Paren e)) ∙ layer meant (Expr-F.Paren e)

  pub resolved-Neg : (e : Expr) → resolved meant (Neg e) ≡ over program.Negative (resolved meant e)
  resolved-Neg e = ap (resolved meant) (sym (rolls-Neg e)) ∙ layer meant (Expr-F.Neg e)

  pub resolved-Plus : (e : Expr) → resolved meant (Plus e) ≡ over program.Plus (resolved meant e)
  resolved-Plus e = ap (resolved meant) (sym (rolls-Plus e)) ∙ layer meant (Expr-F.Plus e)

  pub resolved-Not : (e : Expr) → resolved meant (Not e) ≡ over program.Not (resolved meant e)
  resolved-Not e = ap (resolved meant) (sym (rolls-Not e)) ∙ layer meant (Expr-F.Not e)

  -- the right operand's sites follow the left one's
  abbrev pub both : Op → Resolved → Resolved → Resolved
  both op a b = record { sites = a.sites + b.sites; term = λ s. program.Binary op (a.term s) (b.term (s + a.sites)) }

  pub resolved-Binary : (op : Op) (a b : Expr) → resolved meant (Binary op a b) ≡ both op (resolved meant a) (resolved meant b)
  resolved-Binary op a b = ap (resolved meant) (sym (rolls-Binary op a b)) ∙ layer meant (Expr-F.Binary op a b)
