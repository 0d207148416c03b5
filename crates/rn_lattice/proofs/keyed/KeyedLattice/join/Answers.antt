use Rattle.rn_lattice.proofs.Joining.{joining_starts, joining_step, joining_ends}
use Rattle.rn_lattice.proofs.keyed.KeyedLattice.join.Goals as goal

pub loop-key-init : goal.loop-key-init
loop-key-init g c =
    let entries = c.into_iter-key-iterator.ensures.into_iter_gives in
    rw (entries.0, ← c.self.view_is, ← c.other.view_is)
    (joining_starts g.met.K.Ord.total g.met.K.Key.equal_is_same g.met.L.Lattice.order _ _ c.self.invariant c.other.invariant entries.6)

pub loop-key-preserved : goal.loop-key-preserved
loop-key-preserved g c =
    let raised = c.in_ok-rose.ensures in
    joining_step g.met.K.Ord.total g.met.K.Key.equal_is_same g.met.L.Lattice.order c.args.self.now c.args.other.now c.next.new.self c.loop-key.self c.raise.new.self
    (c.in-Some.key.now, c.in-Some.value.now) c.loop-key.rose c.in_ok-rose.field-0 (rw c.in-Some.ensures.steps at c.loop-key.invariant) raised.map raised.joins raised.others raised.rose

pub returns-clause-joins : goal.returns-clause-joins
returns-clause-joins g c = joining_ends g.met.K.Ord.total g.met.K.Key.equal_is_same g.met.L.Lattice.order _ _ _ c.loop-key.rose (rw c.in-None.ensures.steps.0 at c.loop-key.invariant)
