use Rattle.obj_form.proofs.Words.{all_small}
use Rattle.obj_form.proofs.code.text_of.Goals as goal

pub returns-clause-small : goal.returns-clause-small
returns-clause-small c = all_small c.args.words.now (λ k. (c.type_inv.words k).fits)
