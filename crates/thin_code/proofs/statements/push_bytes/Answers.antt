use Rattle.std.proofs.Common.{refl, get_or}
use Rattle.std.specs.Prelude.{flat_map}
use Rattle.rv_code.specs.Pieces.{byte_code}
use Rattle.thin_code.proofs.Emitted.{emits_more, emits_all, from_byte}
use Rattle.thin_code.proofs.statements.push_bytes.Goals as goal

pub loop-byte-preserved : goal.loop-byte-preserved
loop-byte-preserved c = λ whole e. c.loop-byte.invariant whole (emits_more (λ x p. byte_code x) (λ xs p. flat_map byte_code xs) c.args.bytes.now c.loop-byte.byte-index (get_or c.args.bytes.now c.loop-byte.byte-index 0) (λ x xs. refl) (from_byte c.args.bytes.now c.loop-byte.byte-index c.loop-byte-test.true) (c.in_ok-push_byte.ensures {u = tt}) whole e)

pub returns : goal.returns
returns c = emits_all (λ xs p. flat_map byte_code xs) c.args.bytes.now c.loop-byte.byte-index c.loop-byte.code.items refl c.loop-byte-test.false c.loop-byte.invariant
