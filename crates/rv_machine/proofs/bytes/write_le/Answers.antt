use Rattle.std.proofs.Common.{◌≡◌, ◌-◌, arith, ◌∙◌}
use Rattle.rv_machine.proofs.Memories.{write_step}
use Rattle.rv_machine.proofs.bytes.write_le.Goals as goal

pub loop-k-preserved : goal.loop-k-preserved
loop-k-preserved c = λ x. write_step c.args.count c.loop-k.k c.args.at c.loop-k.rest c.loop-k.bytes (omega arith) (omega arith) x ∙ c.loop-k.invariant x

pub returns : goal.returns
returns c = λ x. let z : c.args.count - c.loop-k.k ≡ 0 = omega arith in rw z at (c.loop-k.invariant x)
