-- Whatever reads them: bounds that end where a list may go on or end are the only ones there.
use Rattle.std.proofs.Common.{◌≡◌, false, List, sym, subst, refl, Option}
use Rattle.f77_tree.specs.declared.expr.Expr.{Expr}
use Rattle.f77_expr.specs.declared.token.Kind.TheVariants as k
use Rattle.f77_expr.specs.Kinds.{Tokens}
use Rattle.f77_expr.specs.Longest.{Settles}
use Rattle.form_parts.specs.Only.{Follows, OnlyPart, OnlyFront}
use Rattle.form_specification.specs.Declarators.{IsUpper, given, assumed, IsBound, upper, both, AreBounds, OnlyUpper}
use Rattle.form_parts.proofs.Following.{settles_follows, settles_at, not_colon}
use Rattle.form_parts.proofs.OneParts.{Readings, one_enclosed, only_expression}
use Rattle.form_specification.proofs.Bounds.{no_star, upper_star, upper_by, bound_upper, bound_both, seven}

one_upper : Readings → {ts s : Tokens} {high : Option Expr} → IsUpper ts high s → Settles s → OnlyUpper ts high s
one_upper laws {ts} {s} (given {x = x} d is) f =
    subst (λ high. OnlyUpper ts high s) (sym is) (upper_by (record { not = λ rest n. no_star d n }) d (laws.taken ts s x d) (only_expression laws d f))
one_upper laws {ts} {s} (assumed n is) f = subst (λ high. OnlyUpper ts high s) (sym is) (upper_star n)

one_bound : Readings → (ts s : Tokens) (b : Option Expr × Option Expr) → IsBound ts b s → Follows false s → OnlyPart IsBound false ts b s
one_bound laws ts s b (upper u is) f =
    subst (λ b. OnlyPart IsBound false ts b s) (sym is) (bound_upper (one_upper laws u (settles_follows f)) (record { not = λ rest n. not_colon f n }))
one_bound laws ts s b (both d n u is) f =
    subst (λ b. OnlyPart IsBound false ts b s) (sym is) (bound_both (one_upper laws (given d refl) (settles_at refl n)) n (one_upper laws u (settles_follows f)))

pub one_bounds : Readings → {ts s : Tokens} {all : List (Option Expr × Option Expr)} → AreBounds ts all s → OnlyFront AreBounds ts all s
one_bounds laws b = seven (one_enclosed IsBound false (one_bound laws) b.listed) b.few
