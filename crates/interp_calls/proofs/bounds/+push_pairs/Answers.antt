use Rattle.std.proofs.Common.{◌≡◌, List, ◌∷◌, [], ◌++◌, ℤ, Option, Some, map, refl, subst, sym, ap, ◌∙◌, rules}
use Rattle.run_model.specs.Acts.{Act, Done}
use Rattle.interp_steps.specs.declared.operand.Operand.{Operand}
use Rattle.interp_steps.specs.Stacks.{operand_of}
use Rattle.interp_steps.specs.Stops.{Gives}
use Rattle.interp_calls.specs.Bounds.{pair_on, pairs_of}
use Rattle.interp_calls.specs.Gathering.{behind}
use Rattle.interp_calls.proofs.Bounding.{pair_first}
use Rattle.interp_calls.proofs.Gathering.{one_more}
use Rattle.interp_calls.proofs.bounds.+push_pairs.Goals as goal

pub returns-in_ok-push-in-Some-pair_on : goal.returns-in_ok-push-in-Some-pair_on
returns-in_ok-push-in-Some-pair_on t c =
    let pair = c.in-Some-pair_on.pair in
    let others = map operand_of c.in-Some-pair_on.others.now in
    let os = c.args.operands.now in
    let more : c.push.new.self ≡ c.args.all.now ++ pair ∷ [] = search rules in
    let o = c.in-Some.field-0.0.now in
    let rest = c.in-Some.field-0.1.now in
    let cut : map operand_of os ≡ operand_of o ∷ map operand_of rest = ap (λ (l : List Operand). map operand_of l) c.in-Some.ensures.cases.0 in
    let on : pair_on (operand_of o ∷ map operand_of rest) ≡ Some ((pair.0, pair.1), others) = ap pair_on (sym cut) ∙ c.in-Some-pair_on.ensures.value in
    subst (λ (act : Act (List (ℤ × Option ℤ))). Gives c.push_pairs.result (λ _. c.push_pairs.new.all) (behind c.args.all.now act)) (sym (ap pairs_of cut ∙ pair_first (operand_of o) (map operand_of rest) pair.0 pair.1 others on))
    (one_more c.push_pairs.result c.push_pairs.new.all c.args.all.now c.push.new.self pair (Done pair) (pairs_of others) refl more c.push_pairs.ensures)
