use Rattle.std.proofs.Common.{rules, ◌≡◌, sym, ◌∙◌, subst, not}
use Rattle.iv_set.specs.Places.{place_of}
use Rattle.iv_set.specs.Sets.{leq, IsSet, inside, inside_from_items, same_sets}
use Rattle.iv_set.proofs.ranges.Ranges.within.Goals as goal

pub returns-clause-inside : goal.returns-clause-inside
returns-clause-inside c =
    let one : IsSet c.args.self.now = subst IsSet c.self.view_is c.self.invariant in
    let other : IsSet c.args.other.now = subst IsSet c.other.view_is c.other.invariant in
    let e : not c.any.result ≡ leq c.args.self.now c.args.other.now = search rules in
    λ h i. inside one other (sym e ∙ h) (place_of i)

pub returns-clause-only : goal.returns-clause-only
returns-clause-only c =
    let one : IsSet c.args.self.now = subst IsSet c.self.view_is c.self.invariant in
    let other : IsSet c.args.other.now = subst IsSet c.other.view_is c.other.invariant in
    let e : not c.any.result ≡ leq c.args.self.now c.args.other.now = search rules in
    λ h. e ∙ inside_from_items one other h

pub returns-clause-same : goal.returns-clause-same
returns-clause-same c =
    let one : IsSet c.args.self.now = subst IsSet c.self.view_is c.self.invariant in
    let other : IsSet c.args.other.now = subst IsSet c.other.view_is c.other.invariant in
    λ h. same_sets c.args.self.now c.args.other.now one other h
