use Rattle.std.proofs.Common.{◌≡◌, ◌+◌, ◌-◌, suc, ◌++◌, None, length, replicate, rules, arith, ap, ◌∙◌}
use Rattle.std.proofs.lemmas.List.{take_all}
use Rattle.std.specs.Vec.{vec_len}
use Rattle.interp_steps.specs.Frames.{interval_of}
use Rattle.ir_core.specs.Runs.{with_argument}
use Rattle.ir_run.specs.Images.{arguments_of}
use Rattle.ir_run.proofs.Arguments.{behind_some}
use Rattle.ir_run.proofs.values.make_room.Goals as goal

pub returns-in_ok-resize-clause-same : goal.returns-in_ok-resize-clause-same
returns-in_ok-resize-clause-same c = λ i.
    let old = c.args.all.now.items in
    let count = c.in_ok-count.count in
    let m = count - vec_len c.args.all.now in
    let is : count ≡ suc c.args.at = search rules in
    let same : length old ≡ vec_len c.args.all.now = search rules in
    let few : length old + m ≡ suc c.args.at = omega arith in
    let all = c.in_ok-resize.ensures.items ∙ ap (λ xs. xs ++ replicate m None) (take_all count old (omega arith)) in
    ap (λ xs. with_argument c.args.at i (arguments_of xs)) all ∙ behind_some interval_of old c.args.at m i few
