use Rattle.std.proofs.Common.{◌≡◌, map, List, ℤ, Option, sym, ap, ◌∙◌, subst}
use Rattle.run_model.specs.Acts.{Act, Fail}
use Rattle.interp_steps.specs.Stacks.{operand_of}
use Rattle.interp_steps.specs.Stops.{Stopped}
use Rattle.interp_calls.specs.Bounds.{pairs_of}
use Rattle.interp_calls.proofs.Bounding.{lowest_first}
use Rattle.interp_calls.proofs.Gathering.{all_of, none_of}
use Rattle.interp_calls.proofs.bounds.pairs_in.Goals as goal

pub returns-in-Ok : goal.returns-in-Ok
returns-in-Ok c = ap pairs_of (lowest_first c.args.operands.now) ∙ all_of (pairs_of (map operand_of c.args.operands.now)) c.new-all.result c.new-all.ensures _ c.in-Ok.ensures

pub returns-in-Err : goal.returns-in-Err
returns-in-Err c =
    subst (λ (act : Act (List (ℤ × Option ℤ))). Stopped c.in-Err.stop (λ r. act ≡ Fail r)) (sym (ap pairs_of (lowest_first c.args.operands.now)))
    (none_of (pairs_of (map operand_of c.args.operands.now)) c.new-all.result c.new-all.ensures c.in-Err.stop c.in-Err.ensures)
