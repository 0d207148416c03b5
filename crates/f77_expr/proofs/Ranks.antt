-- How many levels are below a level, for the measure of the parser.
use Rattle.std.proofs.Common.{◌≡◌, ℕ, suc, refl}
use Rattle.f77_expr.specs.declared.token.Rule.{Rule}
use Rattle.f77_expr.specs.declared.token.Rule.TheVariants as r
use Rattle.f77_expr.specs.Grammar.{below, GroupsLeft, by_equivalence, by_or, by_and, by_sign, by_star}

abbrev pub rank : Rule → ℕ
rank r.Equivalence = 8
rank r.Disjunction = 7
rank r.Conjunction = 6
rank r.Negation = 5
rank r.Relation = 4
rank r.Sum = 3
rank r.Product = 2
rank r.Factor = 1
rank r.Primary = 0

pub below_rank : {rule : Rule} → GroupsLeft rule → rank rule ≡ suc (rank (below rule))
below_rank by_equivalence = refl
below_rank by_or = refl
below_rank by_and = refl
below_rank by_sign = refl
below_rank by_star = refl
