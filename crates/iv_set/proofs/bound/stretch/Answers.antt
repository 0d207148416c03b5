use Rattle.std.proofs.Common.{rules, ◌≡◌, ap, sym, ◌∙◌, List, [], ◌∷◌, ◌++◌, slice_index_or, ◌-◌}
use Rattle.std.specs.Prelude.{vec_len}
use Rattle.std.specs.Option.{option_to_list}
use Rattle.iv_set.specs.declared.bound.Bound.{Bound}
use Rattle.iv_set.specs.Places.{next_place}
use Rattle.iv_set.specs.Walks.{stretched}
use Rattle.iv_set.proofs.AtEnd.{stretched_last}
use Rattle.iv_set.proofs.bound.stretch.Goals as goal

pub returns-clause-stretched : goal.returns-clause-stretched
returns-clause-stretched c =
    let end = next_place c.args.to.now in
    let xs = c.args.bounds.now.items in
    let last = slice_index_or xs (vec_len c.args.bounds.now - 1) end in
    let whole : xs ≡ c.pop.new.self.items ++ last ∷ [] = c.pop.ensures.items ∙ ap (λ r. c.pop.new.self.items ++ option_to_list r) (c.pop.ensures.value end c.requires) in
    let made : c.push_reserved.new.self.items ≡ c.pop.new.self.items ++ end ∷ [] = search rules in
    made ∙ sym (ap (λ l. stretched l end) whole ∙ stretched_last c.pop.new.self.items last end)
