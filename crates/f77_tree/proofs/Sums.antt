-- The weight of a name with a list, and the list's sum one more.
use Rattle.std.proofs.Common.{◌≡◌, ℕ, ◌+◌, ◌<◌, List, [], ◌∷◌, length, map, sum, sum_by, take, get_or, ap, sym, ◌∙◌, refl}
use Rattle.std.proofs.lemmas.List.Sums.{sum-map, sum_by_more}
use Rattle.f77_tree.specs.declared.expr.Expr.{Expr, fold-roll-Expr}
use Rattle.f77_tree.specs.declared.expr.Expr.TheOpen.{Expr-F}
use Rattle.f77_tree.specs.declared.expr.Expr.TheVariants.{Apply, rolls-Apply}
use Rattle.f77_tree.specs.Weight.{weight, weight_step}

pub weight_Apply : (name : List ℕ) (list : List Expr) → weight (Apply name list) ≡ 1 + sum_by weight list
weight_Apply name list =
    ap weight (sym (rolls-Apply name list)) ∙ (fold-roll-Expr ℕ weight_step (Expr-F.Apply name list) ∙ ap (λ n. 1 + n) (sum-map weight list))

pub ruleset weights = (weight_Apply, sum_by_more)
