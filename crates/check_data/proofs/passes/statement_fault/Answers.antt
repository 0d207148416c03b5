use Rattle.std.proofs.Common.{ap₂, ◌∙◌}
use Rattle.f77_names.specs.Roles.{facts}
use Rattle.check_constants.specs.Defined.{with_statement, nothing}
use Rattle.check_data.specs.DataFaults.{statement_wrong}
use Rattle.check_data.specs.Measures.{measures}
use Rattle.check_constants.specs.Passes.{flags_from}
use Rattle.check_constants.specs.Faults.{in_commons}
use Rattle.check_constants.proofs.Passing.{first_holding}
use Rattle.check_data.proofs.passes.statement_fault.Goals as goal

pub returns : goal.returns
returns c =
    let u = c.args.unit.now in
    first_holding with_statement (statement_wrong u.kind (facts u) (in_commons u) (measures u.statements)) nothing u.statements c.as_slice.result.now c.as_slice-2.result.now 23 c.earliest_flagged.result
    c.as_slice.ensures
    (c.as_slice-2.ensures ∙ (c.in_ok-flags.ensures {u = tt} ∙ ap₂ (λ f commons. flags_from with_statement (statement_wrong u.kind f commons (measures u.statements)) nothing u.statements) c.requires.facts c.requires.commons))
    c.earliest_flagged.ensures.earliest
