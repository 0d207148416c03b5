-- Fault 20: the number of subscripts isn't that of the array's dimensions (ANSI X3.9-1978, section 5.4.1).
use Rattle.std.specs.Prelude.{ℕ, Bool, false, not, ◌||◌, ◌==◌, Option, Some, None, length}
use Rattle.std.specs.List.{list_any}
use Rattle.f77_tree.specs.declared.expr.Expr.{Expr, fold-Expr}
use Rattle.f77_tree.specs.declared.expr.Expr.TheOpen.{Expr-F}
use Rattle.f77_names.specs.declared.facts.Facts.{Facts}
use Rattle.f77_names.specs.Standings.{rank_of}

-- so many subscripts, where the array has another number
abbrev pub miscounts : Option ℕ → ℕ → Bool
miscounts None n = false
miscounts (Some rank) n = not (rank == n)

abbrev pub miscounted_step : Facts → Expr-F Bool → Bool
miscounted_step f (Expr-F.Int n) = false
miscounted_step f (Expr-F.Truth b) = false
miscounted_step f (Expr-F.Text bytes) = false
miscounted_step f (Expr-F.Scalar name) = false
miscounted_step f (Expr-F.Apply name list) = miscounts (rank_of f name) (length list) || list_any (λ e. e) list
miscounted_step f (Expr-F.Paren e) = e
miscounted_step f (Expr-F.Neg e) = e
miscounted_step f (Expr-F.Plus e) = e
miscounted_step f (Expr-F.Not e) = e
miscounted_step f (Expr-F.Binary op a b) = a || b

abbrev pub is_miscounted : Facts → Expr → Bool
is_miscounted f e = fold-Expr Bool (miscounted_step f) e
