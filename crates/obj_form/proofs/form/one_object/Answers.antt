use Rattle.obj_form.proofs.Unique as unique
use Rattle.obj_form.proofs.form.one_object.Goals as goal

pub returns : goal.returns
returns c = unique.one_object
