use Rattle.std.proofs.Common.{rules, ◌+◌, ◌++◌, ◌∷◌, [], Some, SFits, w64, drop, ap, ◌∙◌}
use Rattle.std.proofs.lemmas.Int.{to_z-of_z}
use Rattle.f77_values.specs.Sizes.{whole}
use Rattle.check_data.specs.DataTwice as t
use Rattle.check_data.proofs.Givings.{behind, behind_nothing, subscript_more, subscript_lacks, subscripts_end}
use Rattle.check_data.proofs.given.subscripts.Goals as goal

pub loop-e-init : goal.loop-e-init
loop-e-init c =
    ap (λ values. behind values (t.subscripts c.args.constants.now c.as_slice-e-items.result.now)) (c.new-values.ensures)
    ∙ behind_nothing (t.subscripts c.args.constants.now c.as_slice-e-items.result.now)

pub returns-in-None : goal.returns-in-None
returns-in-None c =
    subscript_lacks c.args.constants.now c.as_slice-e-items.result.now c.loop-e.e-index c.e-item.result c.loop-e.values (t.subscripts c.args.constants.now c.as_slice-e-items.result.now) c.loop-e-test.true c.e-item.is
    (c.in-None.ensures {u = tt} ∙ ap whole c.evaluate.ensures) c.loop-e.invariant
    ∙ ap (t.subscripts c.args.constants.now) c.as_slice-e-items.ensures

pub loop-e-preserved : goal.loop-e-preserved
loop-e-preserved c =
    let fits : SFits w64 c.in-Some.n = search rules in
    let rest = t.subscripts c.args.constants.now (drop (c.loop-e.e-index + 1) c.as_slice-e-items.result.now) in
    ap (λ values. behind values rest) ((c.in_ok-push-in-Some.ensures {u = tt}).ok)
    ∙ (ap (λ n. behind (c.loop-e.values ++ n ∷ []) rest) (to_z-of_z w64 c.in-Some.n fits)
    ∙ subscript_more c.args.constants.now c.as_slice-e-items.result.now c.loop-e.e-index c.e-item.result c.loop-e.values c.in-Some.n (t.subscripts c.args.constants.now c.as_slice-e-items.result.now) c.loop-e-test.true c.e-item.is
    (c.in-Some.ensures {u = tt} ∙ ap whole c.evaluate.ensures) c.loop-e.invariant)

pub returns : goal.returns
returns c =
    ap Some c.from_list.ensures
    ∙ (subscripts_end c.args.constants.now c.as_slice-e-items.result.now c.loop-e.e-index c.loop-e.values (t.subscripts c.args.constants.now c.as_slice-e-items.result.now) c.loop-e-test.false c.loop-e.invariant
    ∙ ap (t.subscripts c.args.constants.now) c.as_slice-e-items.ensures)
