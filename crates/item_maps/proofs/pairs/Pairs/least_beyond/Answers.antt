use Rattle.std.proofs.Common.{rules, ◌≡◌, IsTrue, ℕ, List, ◌∷◌, sym, subst}
use Rattle.iv_set.specs.declared.bound.Bound.{Bound}
use Rattle.iv_set.specs.Toggles.{first_alone}
use Rattle.iv_set.specs.Sets.{has_item, leq}
use Rattle.iv_set.specs.Least.{IsLeast}
use Rattle.item_maps.specs.Relation.{of_dummy, IsPairs}
use Rattle.item_maps.proofs.Firsts.{Seeking, seeking_starts, seeking_goes_on, seeking_finds}
use Rattle.item_maps.proofs.pairs.Pairs.least_beyond.Goals as goal

pub loop-dummy-init : goal.loop-dummy-init
loop-dummy-init c =
    let pairs : IsPairs c.args.self.now = subst IsPairs c.self.view_is c.self.invariant in
    let start : c.into_iter-dummy-iterator.result ≡ c.args.self.now = search rules in
    subst (Seeking c.args.self.now c.args.other.now) (sym start) (seeking_starts c.args.self.now c.args.other.now pairs.map)

pub returns-in-Some-2 : goal.returns-in-Some-2
returns-in-Some-2 c =
    let e : ℕ × List Bound = (c.in-Some.dummy.now, c.in-Some.with.now) in
    let s : Seeking c.args.self.now c.args.other.now (e ∷ c.next.new.self) = subst (Seeking c.args.self.now c.args.other.now) c.in-Some.ensures.steps c.loop-dummy.invariant in
    let least : IsLeast (λ i. first_alone (has_item e.1 i) (has_item (of_dummy c.args.other.now e.0) i)) c.in-Some-2.item = search rules in
    seeking_finds c.args.self.now c.args.other.now c.next.new.self e c.least_beside.ensures.pairs.map s c.in-Some-2.item least

pub loop-dummy-preserved : goal.loop-dummy-preserved
loop-dummy-preserved c =
    let e : ℕ × List Bound = (c.in-Some.dummy.now, c.in-Some.with.now) in
    let s : Seeking c.args.self.now c.args.other.now (e ∷ c.next.new.self) = subst (Seeking c.args.self.now c.args.other.now) c.in-Some.ensures.steps c.loop-dummy.invariant in
    let below : IsTrue (leq e.1 (of_dummy c.args.other.now e.0)) = search rules in
    seeking_goes_on c.args.self.now c.args.other.now c.next.new.self e c.least_beside.ensures.pairs.map s below
