use Rattle.std.proofs.Common.{◌+◌, ◌++◌, ap, ◌∙◌}
use Rattle.interp_data.specs.Meant.{meant}
use Rattle.interp_lower.specs.Pieces.{site_total, targets_steps}
use Rattle.interp_lower.proofs.Coming.{sites_more, sites_end, targets_more, targets_end}
use Rattle.interp_lower.proofs.targets.push_targets.Goals as goal

pub loop-e-preserved : goal.loop-e-preserved
loop-e-preserved c =
    let m = meant c.args.names.now in
    let es = c.as_slice-e-items.result.now in
    let i = c.loop-e.e-index in
    let e = c.e-item.result in
    let next = c.in_ok-next.ensures.next in
    record {
      sites = sites_more m es i c.loop-e.next c.in_ok-next.next _ e c.loop-e-test.true c.e-item.is next c.loop-e.invariant.sites;
      steps = targets_more m es i c.loop-e.next c.in_ok-next.next e c.loop-e.code c.push_target.new.code c.add.new.code _ c.loop-e-test.true c.e-item.is next c.in_ok-next.ensures.steps (c.in_ok-add.ensures {u = tt}) c.loop-e.invariant.steps;
    }

pub returns-clause-next : goal.returns-clause-next
returns-clause-next c =
    let m = meant c.args.names.now in
    sites_end m c.as_slice-e-items.result.now c.loop-e.e-index c.loop-e.next _ c.loop-e-test.false c.loop-e.invariant.sites
    ∙ ap (λ es. c.args.site + site_total m es) c.as_slice-e-items.ensures

pub returns-clause-steps : goal.returns-clause-steps
returns-clause-steps c =
    let m = meant c.args.names.now in
    targets_end m c.as_slice-e-items.result.now c.loop-e.e-index c.loop-e.next c.loop-e.code _ c.loop-e-test.false c.loop-e.invariant.steps
    ∙ ap (λ es. c.args.code.now ++ targets_steps m es c.args.site) c.as_slice-e-items.ensures
