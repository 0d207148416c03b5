use Rattle.std.proofs.Common.{ap₂, ◌∙◌}
use Rattle.f77_names.specs.Roles.{facts}
use Rattle.check_constants.specs.Defined.{with_statement, nothing}
use Rattle.check_constants.specs.Needed.{statement_lacks}
use Rattle.check_constants.specs.Passes.{flags_from}
use Rattle.check_constants.specs.Faults.{in_commons}
use Rattle.check_constants.proofs.Passing.{first_holding}
use Rattle.check_constants.proofs.passes.constant_fault.Goals as goal

pub returns : goal.returns
returns c =
    let u = c.args.unit.now in
    record {
      first = first_holding with_statement (statement_lacks (facts u) (in_commons u)) nothing u.statements c.as_slice.result.now c.as_slice-2.result.now 22 c.earliest_flagged.result
          c.as_slice.ensures
          (c.as_slice-2.ensures ∙ (c.in_ok-flags.ensures {u = tt} ∙ ap₂ (λ f commons. flags_from with_statement (statement_lacks f commons) nothing u.statements) c.requires.facts c.requires.commons))
          c.earliest_flagged.ensures.earliest;
    }
