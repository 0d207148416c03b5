-- Lists that are put behind each other, and the names in a name with a list.
use Rattle.std.proofs.Common.{◌≡◌, ℕ, List, [], ◌∷◌, ◌++◌, map, flat_map, ap, sym, ◌∙◌, refl, append_assoc}
use Rattle.f77_tree.specs.declared.expr.Expr.{Expr, fold-roll-Expr}
use Rattle.f77_tree.specs.declared.expr.Expr.TheOpen.{Expr-F}
use Rattle.f77_tree.specs.declared.expr.Expr.TheVariants.{Apply, rolls-Apply}
use Rattle.f77_names.specs.declared.occurrences.Manner.TheVariants.{Listed}
use Rattle.f77_values.specs.Tables.{Name}
use Rattle.f77_names.specs.Occurrences.{Occurrences, expr_step, in_expr, occurs}

flat-map : (es : List Expr) → flat_map (λ all. all) (map in_expr es) ≡ flat_map in_expr es
flat-map [] = refl
flat-map (e ∷ es) = ap (λ all. in_expr e ++ all) (flat-map es)

pub in_expr-Apply : (name : Name) (list : List Expr) → in_expr (Apply name list) ≡ occurs Listed name ∷ flat_map in_expr list
in_expr-Apply name list =
    ap in_expr (sym (rolls-Apply name list))
    ∙ (fold-roll-Expr Occurrences expr_step (Expr-F.Apply name list) ∙ ap (λ all. occurs Listed name ∷ all) (flat-map list))

pub ruleset joined = (in_expr-Apply, append_assoc)
