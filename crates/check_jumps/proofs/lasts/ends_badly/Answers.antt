use Rattle.std.proofs.Common.{get_or, arith}
use Rattle.std.proofs.lemmas.Option.{slice_get-get_or}
use Rattle.check_jumps.proofs.Labelling.{no_last_here, bad_by}
use Rattle.check_jumps.proofs.lasts.ends_badly.Goals as goal

pub returns-then-innermost-control : goal.returns-then-innermost-control
returns-then-innermost-control c = no_last_here c.args.control.now.statements.now c.args.k (omega (arith, c.innermost.ensures))

pub returns : goal.returns
returns c =
    let s = get_or c.args.control.now.statements.now c.args.k c.index-control-k.result in
    let here = slice_get-get_or c.args.control.now.statements.now c.args.k c.index-control-k.result c.requires in
    bad_by c.args.control.now.statements.now c.args.k s _ here (omega (arith, c.innermost.ensures)) c.ends_no_loop.ensures
