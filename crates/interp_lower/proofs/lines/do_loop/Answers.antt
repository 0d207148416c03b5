use Rattle.std.proofs.Common.{List, subst}
use Rattle.std.proofs.lemmas.Result.{IfOk-weaker}
use Rattle.f77_semantics.specs.Terms.{Meant}
use Rattle.interp_code.specs.declared.step.Step.{Step}
use Rattle.interp_data.specs.Meant.{meant}
use Rattle.interp_lower.specs.Pieces.{loop_steps}
use Rattle.interp_data.specs.Meanings.{meant_of}
use Rattle.interp_lower.specs.Lines.{IsLoop}
use Rattle.interp_lower.proofs.Lining.{is_loop}
use Rattle.interp_lower.proofs.lines.do_loop.Goals as goal

pub returns : goal.returns
returns c =
    let m = meant c.args.names.now in
    let first = c.args.bounds.0.now in
    let last = c.args.bounds.1.now in
    IfOk-weaker c.counted.result _ _
    (λ piece h. is_loop m piece (m c.args.name.now) first last c.args.step.now c.args.site
    (subst (λ (x : Meant). IsLoop piece x (loop_steps m first last c.args.step.now c.args.site)) c.in_ok-meaning.ensures
    (subst (λ (ss : List Step). IsLoop piece (meant_of c.in_ok-meaning.meaning) ss) c.in_ok-steps.ensures h)))
    c.counted.ensures
