use Rattle.std.proofs.Common.{subst}
use Rattle.serde_json.specs.View.{view}
use Rattle.obj_form.specs.Grammar.{IsBlock, Reads}
use Rattle.obj_form.proofs.Reading.{no_block}
use Rattle.obj_form.proofs.relocs.block_target_of.Goals as goal

pub returns-in-None : goal.returns-in-None
returns-in-None c =
    no_block (view c.args.value.now) (view c.in-Some.word.now) (view c.in-Some.block.now) (view c.in-Some.at.now) c.in-Some.ensures
    (subst (Reads IsBlock (view c.in-Some.block.now)) c.in-None.is c.in_ok-block.ensures)
