use Rattle.std.proofs.Common.{rules, ◌≡◌, sym, ◌∙◌, subst, IsTrue, [], ◌∷◌, ◌++◌}
use Rattle.iv_set.specs.Toggles.{either}
use Rattle.iv_set.specs.Places.{place_of, next_place, is_item, run}
use Rattle.iv_set.specs.Sets.{made, IsSet, made_set, either_rule}
use Rattle.iv_set.proofs.Runs.{run_set}
use Rattle.iv_set.proofs.AtEnd.{behind}
use Rattle.iv_set.proofs.ranges.Ranges.add_behind.Goals as goal

pub returns-clause-union : goal.returns-clause-union
returns-clause-union c =
    let one : IsSet c.args.self.now = subst IsSet c.self.view_is c.self.invariant in
    let grown : c.append.new.bounds.items ≡ c.args.self.now ++ run c.args.from.now c.args.to.now = search rules in
    grown ∙ sym (behind c.args.self.now (next_place c.args.to.now ∷ []) (place_of c.args.from.now) one c.requires.behind)

pub invariant_of-self-2 : goal.invariant_of-self-2
invariant_of-self-2 c =
    let one : IsSet c.args.self.now = subst IsSet c.self.view_is c.self.invariant in
    let fits : IsTrue (is_item (place_of c.args.to.now)) = search rules in
    let grown : c.append.new.bounds.items ≡ c.args.self.now ++ run c.args.from.now c.args.to.now = search rules in
    subst IsSet (sym (grown ∙ sym (behind c.args.self.now (next_place c.args.to.now ∷ []) (place_of c.args.from.now) one c.requires.behind)))
    (made_set either_rule one (run_set c.args.from.now c.args.to.now c.requires.run fits))
