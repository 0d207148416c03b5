use Rattle.std.proofs.lemmas.Result.{IfOk-weaker}
use Rattle.serde_json.specs.View.{view}
use Rattle.obj_form.proofs.Reading.{read_again}
use Rattle.obj_form.proofs.form.read_back.Goals as goal

pub returns : goal.returns
returns c =
    IfOk-weaker c.object_of.result _ _ (λ found reads d h.
    read_again d (view c.in_ok-value.value) c.args.object.now found c.in_ok-value.ensures reads h) c.object_of.ensures
