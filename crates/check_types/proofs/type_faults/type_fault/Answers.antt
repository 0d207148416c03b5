use Rattle.std.proofs.Common.{ap, ◌∙◌}
use Rattle.fault_marks.specs.Earliest.{first_of}
use Rattle.check_types.proofs.Finding.{all_found}
use Rattle.check_types.proofs.type_faults.type_fault.Goals as goal

pub returns : goal.returns
returns c =
    all_found c.args.unit.now c.args.facts.now c.requires c.in_ok-types.types c.in_ok-subscripts.subscripts c.in_ok-scalars.scalars c.in_ok-targets.targets c.in_ok-exponents.exponents
    c.first_of-names.result c.first_of-2.result c.first_of-3.result
    c.in_ok-types.ensures c.in_ok-subscripts.ensures c.in_ok-scalars.ensures c.in_ok-targets.ensures c.in_ok-exponents.ensures
    (c.first_of-names.ensures.first ∙ ap (first_of c.in_ok-scalars.scalars) c.first_of.ensures.first) c.first_of-2.ensures.first c.first_of-3.ensures.first
