use Rattle.std.proofs.Common.{◌+◌, ◌++◌, ap, ◌∙◌}
use Rattle.interp_data.specs.Meant.{meant}
use Rattle.interp_lower.specs.Pieces.{site_total, values_steps, actuals_steps}
use Rattle.interp_lower.proofs.Coming.{sites_more, sites_end, values_more, values_end, actuals_more, actuals_end}
use Rattle.interp_lower.proofs.terms.+terms.Goals as goal

pub push_values-loop-e-preserved : goal.push_values-loop-e-preserved
push_values-loop-e-preserved t c =
    let m = meant c.args.names.now in
    let es = c.as_slice-e-items.result.now in
    let i = c.loop-e.e-index in
    let e = c.e-item.result in
    let next = c.in_ok-next.ensures.next in
    record {
      sites = sites_more m es i c.loop-e.next c.in_ok-next.next _ e c.loop-e-test.true c.e-item.is next c.loop-e.invariant.sites;
      steps = values_more m es i c.loop-e.next c.in_ok-next.next e c.loop-e.code c.push_value.new.code _ c.loop-e-test.true c.e-item.is next c.in_ok-next.ensures.steps c.loop-e.invariant.steps;
    }

pub push_values-returns-clause-next : goal.push_values-returns-clause-next
push_values-returns-clause-next t c =
    let m = meant c.args.names.now in
    sites_end m c.as_slice-e-items.result.now c.loop-e.e-index c.loop-e.next _ c.loop-e-test.false c.loop-e.invariant.sites
    ∙ ap (λ es. c.args.site + site_total m es) c.as_slice-e-items.ensures

pub push_values-returns-clause-steps : goal.push_values-returns-clause-steps
push_values-returns-clause-steps t c =
    let m = meant c.args.names.now in
    values_end m c.as_slice-e-items.result.now c.loop-e.e-index c.loop-e.next c.loop-e.code _ c.loop-e-test.false c.loop-e.invariant.steps
    ∙ ap (λ es. c.args.code.now ++ values_steps m es c.args.site) c.as_slice-e-items.ensures

pub push_actuals-loop-j-preserved : goal.push_actuals-loop-j-preserved
push_actuals-loop-j-preserved t c =
    let m = meant c.args.names.now in
    let es = c.as_slice-actuals.result.now in
    let j = c.loop-j.j in
    let e = c.index-actuals-j.result in
    let next = c.in_ok-next.ensures.next in
    record {
      sites = sites_more m es j c.loop-j.next c.in_ok-next.next _ e c.loop-j-test.true c.index-actuals-j.is next c.loop-j.invariant.sites;
      steps = actuals_more m c.args.callee es j c.loop-j.next c.in_ok-next.next e c.loop-j.code c.push_actual.new.code _ c.loop-j-test.true c.index-actuals-j.is next c.in_ok-next.ensures.steps c.loop-j.invariant.steps;
    }

pub push_actuals-returns-clause-next : goal.push_actuals-returns-clause-next
push_actuals-returns-clause-next t c =
    let m = meant c.args.names.now in
    sites_end m c.as_slice-actuals.result.now c.loop-j.j c.loop-j.next _ c.loop-j-test.false c.loop-j.invariant.sites
    ∙ ap (λ es. c.args.site + site_total m es) c.as_slice-actuals.ensures

pub push_actuals-returns-clause-steps : goal.push_actuals-returns-clause-steps
push_actuals-returns-clause-steps t c =
    let m = meant c.args.names.now in
    actuals_end m c.args.callee c.as_slice-actuals.result.now c.loop-j.j c.loop-j.next c.loop-j.code _ c.loop-j-test.false c.loop-j.invariant.steps
    ∙ ap (λ es. c.args.code.now ++ actuals_steps m c.args.callee 0 es c.args.site) c.as_slice-actuals.ensures
