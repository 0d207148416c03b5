use Rattle.std.proofs.lemmas.Result.{IfOk-weaker}
use Rattle.serde_json.specs.View.{view}
use Rattle.obj_form.proofs.Reading.{of_three}
use Rattle.obj_form.proofs.relocs.target_of.Goals as goal

pub returns-in_default : goal.returns-in_default
returns-in_default c = IfOk-weaker c.block_target_of.result _ _ (of_three (view c.args.value.now) c.in_default.ensures) c.block_target_of.ensures
