use Rattle.std.proofs.Common.{◌∙◌, get_or}
use Rattle.std.proofs.lemmas.Option.{slice_get-get_or}
use Rattle.check_jumps.proofs.Straying.{told_from}
use Rattle.check_jumps.proofs.jumps.flag_statement.Goals as goal

pub returns : goal.returns
returns c =
    let s = get_or c.args.nests.now.parts.control.statements.now c.args.k c.index-nests-k.result in
    let here = slice_get-get_or c.args.nests.now.parts.control.statements.now c.args.k c.index-nests-k.result c.requires.within in
    told_from c.args.nests.now.parts.control.statements.now c.args.k s _ _ _ here (c.as_slice.ensures ∙ (c.in_ok-labels.ensures {u = tt})) c.flag_jumps.ensures
