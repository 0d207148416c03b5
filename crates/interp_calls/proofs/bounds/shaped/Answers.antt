use Rattle.std.proofs.Common.{◌≡◌, List, [], sym, ap, ◌∙◌, subst, rules}
use Rattle.run_model.specs.Acts.{Act, Done}
use Rattle.f77_semantics.specs.declared.storage.Extent.{Extent}
use Rattle.interp_code.specs.Entries.{pairs_in, measured}
use Rattle.interp_code.specs.Steps.{operands_onto}
use Rattle.interp_steps.specs.Stacks.{stack_of}
use Rattle.interp_steps.specs.Stops.{Gives}
use Rattle.interp_calls.specs.Bounds.{pairs_of}
use Rattle.interp_calls.proofs.Bounding.{pairs_go}
use Rattle.interp_calls.proofs.bounds.shaped.Goals as goal

pub returns : goal.returns
returns c =
    let long = c.args.long in
    let os = operands_onto (stack_of c.args.operands.now) [] in
    let given : pairs_of os ≡ Done c.in_ok-pairs.pairs = search rules in
    let same : c.as_slice.result.now ≡ c.in_ok-pairs.pairs = search rules in
    subst (λ (act : Act (List Extent)). Gives c.measured.result (λ es. es) act) (ap (measured long) same ∙ sym (pairs_go (pairs_in os) c.in_ok-pairs.pairs (measured long) given)) c.measured.ensures
