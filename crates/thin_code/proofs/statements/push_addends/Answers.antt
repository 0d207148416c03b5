use Rattle.std.proofs.Common.{refl}
use Rattle.thin_code.specs.Code.{addend_code, addends_code}
use Rattle.thin_code.specs.Seen.{frame_in}
use Rattle.thin_code.proofs.Emitted.{emits_more, emits_all, from_element}
use Rattle.thin_code.proofs.statements.push_addends.Goals as goal

pub loop-addend-preserved : goal.loop-addend-preserved
loop-addend-preserved c = λ whole e. c.loop-addend.invariant whole (emits_more (λ x p. addend_code (frame_in c.args.area.now) p x) (λ xs p. addends_code (frame_in c.args.area.now) p xs) c.args.more.now c.loop-addend.addend-index c.addend-item.result (λ x xs. refl) (from_element _ c.loop-addend.addend-index c.addend-item.result c.loop-addend-test.true c.addend-item.is) (c.in_ok-push_addend.ensures {u = tt}) whole e)

pub returns : goal.returns
returns c = emits_all (λ xs p. addends_code (frame_in c.args.area.now) p xs) c.args.more.now c.loop-addend.addend-index c.loop-addend.code.items refl c.loop-addend-test.false c.loop-addend.invariant
