use Rattle.std.proofs.Common.{rules, ◌≡◌, ap, sym, ◌∙◌, not}
use Rattle.iv_set.specs.Toggles.{either}
use Rattle.iv_set.specs.Sets.{leq, made, set_order, union_joins, first_joins, union_rises}
use Rattle.iv_set.proofs.ranges.RangesLattice.join.Goals as goal

pub returns-then-within-clause-joins : goal.returns-then-within-clause-joins
returns-then-within-clause-joins c = first_joins c.within.ensures.second c.within.ensures.first (sym c.within.ensures.answer ∙ c.if-within.true)

pub returns-then-within-clause-rose : goal.returns-then-within-clause-rose
returns-then-within-clause-rose c = ap not (sym (set_order.reflexive c.args.self.now c.within.ensures.second))

pub returns-clause-joins : goal.returns-clause-joins
returns-clause-joins c =
    let e : c.in_ok-self.field-0 ≡ made either c.args.self.now c.args.other.now = search rules in
    rw e (union_joins c.within.ensures.second c.within.ensures.first)

pub returns-clause-rose : goal.returns-clause-rose
returns-clause-rose c =
    let e : c.in_ok-self.field-0 ≡ made either c.args.self.now c.args.other.now = search rules in
    sym (ap not (ap (λ l. leq l c.args.self.now) e ∙ union_rises c.within.ensures.second c.within.ensures.first ∙ sym c.within.ensures.answer ∙ c.if-within.false))
