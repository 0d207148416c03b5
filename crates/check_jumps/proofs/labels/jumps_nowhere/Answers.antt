use Rattle.std.proofs.Common.{◌∙◌, get_or}
use Rattle.std.proofs.lemmas.Option.{slice_get-get_or}
use Rattle.check_jumps.proofs.Labelling.{nowhere_by}
use Rattle.check_jumps.proofs.labels.jumps_nowhere.Goals as goal

pub returns : goal.returns
returns c =
    let s = get_or c.args.control.now.statements.now c.args.k c.index-control-k.result in
    let here = slice_get-get_or c.args.control.now.statements.now c.args.k c.index-control-k.result c.requires in
    nowhere_by c.args.control.now.statements.now c.args.k s _ _ here (c.as_slice.ensures ∙ (c.in_ok-labels.ensures {u = tt})) c.leads_nowhere.ensures
