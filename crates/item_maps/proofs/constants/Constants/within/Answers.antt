use Rattle.std.proofs.Common.{rules, ◌≡◌, sym, ◌∙◌, subst}
use Rattle.item_maps.specs.Steps.{IsSteps}
use Rattle.item_maps.specs.StepLaws.{same_maps}
use Rattle.item_maps.specs.Walks.{within}
use Rattle.item_maps.proofs.Values.{inside, inside_only}
use Rattle.item_maps.proofs.constants.Constants.within.Goals as goal

pub returns-clause-inside : goal.returns-clause-inside
returns-clause-inside c =
    let one : IsSteps c.args.self.now = subst IsSteps c.self.view_is c.self.invariant in
    let other : IsSteps c.args.other.now = subst IsSteps c.other.view_is c.other.invariant in
    let e : c.is_none.result ≡ within c.args.self.now c.args.other.now = search rules in
    λ h. inside one other (sym e ∙ h)

pub returns-clause-only : goal.returns-clause-only
returns-clause-only c =
    let one : IsSteps c.args.self.now = subst IsSteps c.self.view_is c.self.invariant in
    let other : IsSteps c.args.other.now = subst IsSteps c.other.view_is c.other.invariant in
    let e : c.is_none.result ≡ within c.args.self.now c.args.other.now = search rules in
    λ h. e ∙ inside_only one other h

pub returns-clause-same : goal.returns-clause-same
returns-clause-same c =
    let one : IsSteps c.args.self.now = subst IsSteps c.self.view_is c.self.invariant in
    let other : IsSteps c.args.other.now = subst IsSteps c.other.view_is c.other.invariant in
    λ h. same_maps c.args.self.now c.args.other.now one other h
