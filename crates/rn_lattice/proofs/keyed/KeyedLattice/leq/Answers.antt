use Rattle.std.proofs.Common.{◌≡◌, Some, None, suc, sym, ◌∙◌, arith}
use Rattle.rn_lattice.specs.Maps.{get}
use Rattle.rn_lattice.proofs.Below.{below_goes_on, below_stops}
use Rattle.rn_lattice.proofs.keyed.KeyedLattice.leq.Goals as goal

pub loop-key-preserved : goal.loop-key-preserved
loop-key-preserved g c =
    let lattice = g.L.Lattice in
    let e : g.row.K.Denot × g.row.L.Denot = (c.in-Some.key.now, c.in-Some.value.now) in
    let left = c.in-Some.ensures.steps in
    let found : Some c.in-Some-get.above.now ≡ get g.K.Ord.cmp c.args.other.now e.0 = rw (← c.other.view_is) c.in-Some-get.ensures.value in
    record {
      same = below_goes_on g.K.Ord.cmp lattice.leq lattice.bottom _ _ _ e (rw left at c.loop-key.invariant.same) c.in-Some-get.above.now found (sym c.leq.ensures.answer ∙ c.if-leq.true);
      found = λ k d below. (rw left at c.loop-key.invariant.found) (suc k) d (omega arith);
    }

-- no entry that is kept is below the bottom
pub returns-in_default-2-clause-answer : goal.returns-in_default-2-clause-answer
returns-in_default-2-clause-answer g c =
    let lattice = g.L.Lattice in
    let e : g.row.K.Denot × g.row.L.Denot = (c.in-Some.key.now, c.in-Some.value.now) in
    let left = c.in-Some.ensures.steps in
    let found : get g.K.Ord.cmp c.args.self.now e.0 ≡ Some e.1 = (rw left at c.loop-key.invariant.found) 0 e (omega arith) in
    let kept = c.self.invariant.kept e.0 e.1 (rw c.self.view_is found) in
    let absent : None ≡ get g.K.Ord.cmp c.args.other.now e.0 = rw (← c.other.view_is) (rw c.in_default.is at c.get.ensures.value) in
    below_stops g.K.Ord.cmp lattice.leq lattice.bottom _ _ _ e (rw left at c.loop-key.invariant.same) g.met.L.Lattice.order kept.0 kept.1 absent
