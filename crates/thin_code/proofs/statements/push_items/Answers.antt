use Rattle.std.proofs.Common.{refl}
use Rattle.thin_code.specs.Code.{item_code, items_code}
use Rattle.thin_code.specs.Seen.{frame_in}
use Rattle.thin_code.proofs.Emitted.{emits_more, emits_all, from_element}
use Rattle.thin_code.proofs.statements.push_items.Goals as goal

pub loop-item-preserved : goal.loop-item-preserved
loop-item-preserved c = λ whole e. c.loop-item.invariant whole (emits_more (λ x p. item_code (frame_in c.args.area.now) p x) (λ xs p. items_code (frame_in c.args.area.now) p xs) c.args.items.now c.loop-item.item-index c.item-item.result (λ x xs. refl) (from_element _ c.loop-item.item-index c.item-item.result c.loop-item-test.true c.item-item.is) (c.in_ok-push_item.ensures {u = tt}) whole e)

pub returns : goal.returns
returns c = emits_all (λ xs p. items_code (frame_in c.args.area.now) p xs) c.args.items.now c.loop-item.item-index c.loop-item.code.items refl c.loop-item-test.false c.loop-item.invariant
