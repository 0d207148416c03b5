-- What trees are made of.
use Rattle.std.proofs.Common.{◌≡◌, ℕ, ℤ, List, sym, ap, ◌∙◌, rules}
use Rattle.f77_tree.specs.declared.expr.Op.{Op}
use Rattle.f77_tree.specs.declared.expr.Expr.{Expr}
use Rattle.f77_tree.specs.declared.expr.Expr.TheVariants as e
use Rattle.f77_tree.specs.declared.expr.Expr.TheVariants.{rolls-Binary}
use Rattle.f77_tree.specs.declared.expr.Expr.TheViews.{out-Expr, out-roll-Expr}
use Rattle.f77_tree.specs.declared.expr.Expr.TheOpen.{Expr-F}
use Rattle.f77_tree.specs.declared.form.Form.{Form}
use Rattle.f77_tree.specs.declared.form.Form.TheVariants as form

-- an operator with its operands
pub record SameBinary (o p : Op) (a b c d : Expr) : Type 0 where
  pub op : o ≡ p
  pub left : a ≡ c
  pub right : b ≡ d

pub same_binary : {o p : Op} {a b c d : Expr} → e.Binary o a b ≡ e.Binary p c d → SameBinary o p a b c d
same_binary {o} {p} {a} {b} {c} {d} h =
    let opened : Expr-F.Binary o a b ≡ Expr-F.Binary p c d = sym (out-roll-Expr (Expr-F.Binary o a b)) ∙ (ap out-Expr (rolls-Binary o a b ∙ (h ∙ sym (rolls-Binary p c d))) ∙ out-roll-Expr (Expr-F.Binary p c d)) in
    record { op = cc; left = cc; right = cc }

pub same_assign : (a b c d : Expr) → form.Assign a b ≡ form.Assign c d → a ≡ c
same_assign a b c d h = search rules
