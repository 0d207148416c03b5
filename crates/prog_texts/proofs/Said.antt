-- What a name with a list says, and lists that are put behind each other.
use Rattle.std.proofs.Common.{◌≡◌, ℕ, List, [], ◌∷◌, ◌++◌, map, flat_map, ap, sym, subst, ◌∙◌, refl, append_assoc}
use Rattle.f77_tree.specs.declared.expr.Expr.{Expr, roll-Expr, ind-Expr, fold-Expr, fold-roll-Expr}
use Rattle.f77_tree.specs.declared.expr.Expr.TheFolds.{map-Expr}
use Rattle.f77_tree.specs.declared.expr.Expr.TheOpen.{Expr-F}
use Rattle.f77_tree.specs.declared.expr.Expr.TheVariants.{Apply, rolls-Apply}
use Rattle.f77_names.specs.declared.facts.Facts.{Facts}
use Rattle.f77_values.specs.Tables.{Name}
use Rattle.prog_texts.specs.declared.mentions.Mention.{Mention}
use Rattle.prog_texts.specs.Mentions.{Seen, seen_step, expr_says, in_expr, reference}

module _ (f : Facts) (line : ℕ) where
  seen : Expr → Seen
  seen e = fold-Expr Seen (seen_step f line) e

  abbrev Kept : Expr → Type 0
  Kept e = (fold-Expr Seen (seen_step f line) e).expression ≡ e

  abbrev Both : Type 0
  Both = (e : Expr) × Kept e

  all_kept : (es : List Both) → map (λ s. s.expression) (map (fold-Expr Seen (seen_step f line)) (map (λ e. e.0) es)) ≡ map (λ e. e.0) es
  all_kept [] = refl
  all_kept (e ∷ es) = ap (λ x. x ∷ map (λ s. s.expression) (map (fold-Expr Seen (seen_step f line)) (map (λ e. e.0) es))) e.1 ∙ ap (λ xs. e.0 ∷ xs) (all_kept es)

  here : (y : Expr-F Both) → map-Expr Seen Expr (λ s. s.expression) (map-Expr Expr Seen (fold-Expr Seen (seen_step f line)) (map-Expr Both Expr (λ e. e.0) y)) ≡ map-Expr Both Expr (λ e. e.0) y
  here (Expr-F.Int n) = refl
  here (Expr-F.Truth b) = refl
  here (Expr-F.Text bytes) = refl
  here (Expr-F.Scalar name) = refl
  here (Expr-F.Apply name es) = ap (Expr-F.Apply name) (all_kept es)
  here (Expr-F.Paren e) = ap Expr-F.Paren e.1
  here (Expr-F.Neg e) = ap Expr-F.Neg e.1
  here (Expr-F.Plus e) = ap Expr-F.Plus e.1
  here (Expr-F.Not e) = ap Expr-F.Not e.1
  here (Expr-F.Binary op a b) = ap (λ x. Expr-F.Binary op x (fold-Expr Seen (seen_step f line) b.0).expression) a.1 ∙ ap (Expr-F.Binary op a.0) b.1

  at_layer : (y : Expr-F Both) → Kept (roll-Expr (map-Expr Both Expr (λ e. e.0) y))
  at_layer y =
      let x : Expr-F Expr = map-Expr Both Expr (λ e. e.0) y in
      ap (λ s. s.expression) (fold-roll-Expr Seen (seen_step f line) x) ∙ ap roll-Expr (here y)

  -- what was seen is the expression itself
  pub kept : (e : Expr) → Kept e
  kept = ind-Expr Kept (λ x y is. subst (λ x. Kept (roll-Expr x)) is (at_layer y))

  kept_list : (es : List Expr) → map (λ s. s.expression) (map (fold-Expr Seen (seen_step f line)) es) ≡ es
  kept_list [] = refl
  kept_list (e ∷ es) = ap (λ x. x ∷ map (λ s. s.expression) (map (fold-Expr Seen (seen_step f line)) es)) (kept e) ∙ ap (λ xs. e ∷ xs) (kept_list es)

  said_list : (es : List Expr) → flat_map (λ s. s.says) (map (fold-Expr Seen (seen_step f line)) es) ≡ flat_map (in_expr f line) es
  said_list [] = refl
  said_list (e ∷ es) = ap (λ all. in_expr f line e ++ all) (said_list es)

  pub in_expr-Apply : (name : Name) (list : List Expr) → in_expr f line (Apply name list) ≡ reference f line name list ++ flat_map (in_expr f line) list
  in_expr-Apply name list =
      ap (in_expr f line) (sym (rolls-Apply name list))
      ∙ (ap (λ s. s.says) (fold-roll-Expr Seen (seen_step f line) (Expr-F.Apply name list))
      ∙ (ap (λ es. reference f line name es ++ flat_map (λ s. s.says) (map (fold-Expr Seen (seen_step f line)) list)) (kept_list list)
      ∙ ap (λ all. reference f line name list ++ all) (said_list list)))

pub ruleset joined = (in_expr-Apply, append_assoc)
