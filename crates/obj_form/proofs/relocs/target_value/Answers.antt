use Rattle.std.proofs.Common.{IfOk, sym, subst}
use Rattle.serde_json.specs.View.{view}
use Rattle.obj_form.specs.Grammar.{IsTarget, Writes}
use Rattle.obj_form.proofs.relocs.target_value.Goals as goal

pub returns-in-Call : goal.returns-in-Call
returns-in-Call c = subst (λ t. IfOk c.call_value.result (λ v. Writes IsTarget (view v) t)) (sym c.in-Call.is) c.call_value.ensures

pub returns-in-Own : goal.returns-in-Own
returns-in-Own c = subst (λ t. IfOk c.own_value.result (λ v. Writes IsTarget (view v) t)) (sym c.in-Own.is) c.own_value.ensures

pub returns-in-Block : goal.returns-in-Block
returns-in-Block c = subst (λ t. IfOk c.block_value.result (λ v. Writes IsTarget (view v) t)) (sym c.in-Block.is) c.block_value.ensures
