use Rattle.std.proofs.Common.{rules, ◌≡◌, sym, ◌∙◌, subst}
use Rattle.item_maps.specs.Relation.{within, IsPairs}
use Rattle.item_maps.proofs.Inclusion.{paired_on, within_only, same_pairs}
use Rattle.item_maps.proofs.pairs.Pairs.within.Goals as goal

pub returns-clause-inside : goal.returns-clause-inside
returns-clause-inside c =
    let one : IsPairs c.args.self.now = subst IsPairs c.self.view_is c.self.invariant in
    let other : IsPairs c.args.other.now = subst IsPairs c.other.view_is c.other.invariant in
    let e : c.leq.result ≡ within c.args.self.now c.args.other.now = search rules in
    λ h. paired_on c.args.self.now c.args.other.now one other (sym e ∙ h)

pub returns-clause-only : goal.returns-clause-only
returns-clause-only c =
    let one : IsPairs c.args.self.now = subst IsPairs c.self.view_is c.self.invariant in
    let other : IsPairs c.args.other.now = subst IsPairs c.other.view_is c.other.invariant in
    let e : c.leq.result ≡ within c.args.self.now c.args.other.now = search rules in
    λ h. e ∙ within_only c.args.self.now c.args.other.now one other h

pub returns-clause-same : goal.returns-clause-same
returns-clause-same c =
    let one : IsPairs c.args.self.now = subst IsPairs c.self.view_is c.self.invariant in
    let other : IsPairs c.args.other.now = subst IsPairs c.other.view_is c.other.invariant in
    λ h. same_pairs c.args.self.now c.args.other.now one other h
