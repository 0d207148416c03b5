-- What a form of expressions is, and tests and lists that are joined in any grouping.
use Rattle.std.proofs.Common.{append_assoc}
use Rattle.std.proofs.Math.Bool.{or_assoc}
use Rattle.f77_tree.specs.declared.expr.Expr.TheViews.{outs-Apply}

pub ruleset views = (outs-Apply)

pub ruleset lists = (append_assoc)

pub ruleset tests = (or_assoc)
