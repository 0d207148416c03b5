use Rattle.std.proofs.Common.{refl}
use Rattle.thin_code.specs.Code.{statement_code, body_code}
use Rattle.thin_code.specs.Seen.{frame_in}
use Rattle.thin_code.proofs.Emitted.{emits_more, emits_all, from_element}
use Rattle.thin_code.proofs.statements.push_body.Goals as goal

pub loop-statement-preserved : goal.loop-statement-preserved
loop-statement-preserved c = λ whole e. c.loop-statement.invariant whole (emits_more (λ x p. statement_code (frame_in c.args.area.now) p x) (λ xs p. body_code (frame_in c.args.area.now) p xs) c.args.body.now c.loop-statement.statement-index c.statement-item.result (λ x xs. refl) (from_element _ c.loop-statement.statement-index c.statement-item.result c.loop-statement-test.true c.statement-item.is) (c.in_ok-push_statement.ensures {u = tt}) whole e)

pub returns : goal.returns
returns c = emits_all (λ xs p. body_code (frame_in c.args.area.now) p xs) c.args.body.now c.loop-statement.statement-index c.loop-statement.code.items refl c.loop-statement-test.false c.loop-statement.invariant
