use Rattle.std.proofs.Common.{◌≡◌, ℕ, ◌<◌, List, [], ◌∷◌, ◌++◌, Vec, All, IsTrue, false, length, sym, subst, ◌∙◌, ap, arith, rules}
use Rattle.std.specs.declared.alloc.Global.{Global}
use Rattle.std.specs.List.{range_with_len}
use Rattle.std.proofs.lemmas.List.{get_or_read}
use Rattle.std.proofs.lemmas.Bool.{not-true, not-false}
use Rattle.rn_ports.specs.declared.ports.Kind.{Kind}
use Rattle.rn_ports.specs.declared.ports.Kind.TheVariants.{Evaluate}
use Rattle.fix_solver.proofs.Solving.{solving_starts, solving_stays, solving_rises, solving_ends, falls_stays, falls_rises, noted_more, noted_next, append_none}
use Rattle.fix_solver.proofs.least.solve.Goals as goal
use Rattle.fix_solver.proofs.least.solve.Goals.{then-branch+in_ok-add_all, else-branch}

pub loop-node-init : goal.loop-node-init
loop-node-init g c =
    let laws = g.met.S.System.laws c.args.system.now c.nodes.ensures.known in
    let count = c.nodes-2.ensures.count in
    let all = c.in_ok-waiting.ensures in
    let waits = ap (λ (w : ℕ × List ℕ). w.1) all ∙ ap (range_with_len 0) count in
    record {
      nodes = ap (λ (w : ℕ × List ℕ). w.0) all ∙ count;
      order = [];
      solving = rw waits (solving_starts g.met.S.Value.Lattice.order laws (λ (list : Vec ℕ Global). list.items) _ c.in_ok-readers.ensures _ (c.in_ok-values.ensures.count ∙ c.nodes.ensures.count) c.in_ok-values.ensures.bottoms);
      noted = append_none _;
    }

pub returns-in_err-value-clause-notes : goal.returns-in_err-value-clause-notes
returns-in_err-value-clause-notes g c =
    let so_far = c.loop-node.invariant in
    let within = rw so_far.nodes at c.in-Some.ensures.in_range in
    noted_next (λ (list : Vec ℕ Global). list.items) _ c.in_ok-readers.ensures (λ n. (Evaluate c.args.analysis, g.S.System.name c.args.system.now n)) _ _ _ _ _ _ _ (rw c.in-Some.ensures.first at so_far.solving) within so_far.noted (rw c.name.ensures at c.in_ok-note.ensures.one)

pub returns-in_err-join-clause-notes : goal.returns-in_err-join-clause-notes
returns-in_err-join-clause-notes g c =
    let so_far = c.loop-node.invariant in
    let within = rw so_far.nodes at c.in-Some.ensures.in_range in
    noted_next (λ (list : Vec ℕ Global). list.items) _ c.in_ok-readers.ensures (λ n. (Evaluate c.args.analysis, g.S.System.name c.args.system.now n)) _ _ _ _ _ _ _ (rw c.in-Some.ensures.first at so_far.solving) within so_far.noted (rw c.name.ensures at c.in_ok-note.ensures.one)

pub returns-in_err-add_all-clause-notes : goal.returns-in_err-add_all-clause-notes
returns-in_err-add_all-clause-notes g c =
    let so_far = c.loop-node.invariant in
    let within = rw so_far.nodes at c.in-Some.ensures.in_range in
    noted_next (λ (list : Vec ℕ Global). list.items) _ c.in_ok-readers.ensures (λ n. (Evaluate c.args.analysis, g.S.System.name c.args.system.now n)) _ _ _ _ _ _ _ (rw c.in-Some.ensures.first at so_far.solving) within so_far.noted (rw c.name.ensures at c.in_ok-note.ensures.one)

pub add_all-requires : goal.add_all-requires
add_all-requires g c =
    let readers = c.in_ok-readers.ensures in
    let so_far = c.loop-node.invariant in
    let within : c.in-Some.node < g.S.System.nodes c.args.system.now = rw so_far.nodes at c.in-Some.ensures.in_range in
    let inside = readers.in_range c.in-Some.node c.index.result.now within in
    rw (c.deref-then-branch.ensures.value, c.in-Some.ensures.count, so_far.nodes) (subst (λ (v : Vec ℕ Global). All (λ n. n < g.S.System.nodes c.args.system.now) v.items) (sym c.index.ensures) inside)

pub loop-node-smaller : goal.loop-node-smaller
loop-node-smaller g c =
    let laws = g.met.S.System.laws c.args.system.now c.nodes.ensures.known in
    let order = g.met.S.Value.Lattice.order in
    let readers = c.in_ok-readers.ensures in
    let so_far = c.loop-node.invariant in
    let node = c.in-Some.node in
    let within : node < g.S.System.nodes c.args.system.now = rw so_far.nodes at c.in-Some.ensures.in_range in
    let solving = rw c.in-Some.ensures.first at so_far.solving in
    let in_values : node < length c.loop-node.values.items = omega (arith, within, so_far.solving.fitting.whole) in
    let old_is = λ (d : g.row.S-Value.Denot). sym (get_or_read c.loop-node.values.items node c.index_mut.result.now in_values c.index_mut.ensures.value d) in
    let joined = rw (c.in_ok-value.ensures, c.deref.ensures.value) at c.in_ok-join.ensures.joins in
    elim c.if-branch.branch [
      | then-branch+in_ok-add_all w ↦
          let in_readers : node < length c.in_ok-readers.readers.items = omega (arith, within, readers.whole) in
          let list_is = λ (d : Vec ℕ Global). sym (w.deref-then-branch.ensures.value ∙ ap (λ (v : Vec ℕ Global). v.items) (get_or_read c.in_ok-readers.readers.items node w.index.result.now in_readers w.index.ensures d)) in
          let rose : g.S.Value.Lattice.leq c.join.new.self c.index_mut.result.now ≡ false = not-true _ (sym c.in_ok-join.ensures.rose ∙ w.if-branch.true) in
          let waits = w.waiting-is ∙ w.in_ok-add_all.ensures.ok in
          rw (waits, c.in-Some.ensures.first) (falls_rises order laws (λ (list : Vec ℕ Global). list.items) _ readers c.loop-node.values.items c.next.new.self.1 so_far.order node solving within c.index_mut.result.now c.join.new.self old_is joined w.deref-then-branch.result.now w.index.result.now list_is rose)
      | else-branch w ↦
          let fell : IsTrue (g.S.Value.Lattice.leq c.join.new.self c.index_mut.result.now) = not-false _ (sym c.in_ok-join.ensures.rose ∙ w.if-branch.false) in
          rw (w.waiting-is, c.in-Some.ensures.first) (falls_stays order laws (λ (list : Vec ℕ Global). list.items) _ readers c.loop-node.values.items c.next.new.self.1 so_far.order node solving within c.index_mut.result.now c.join.new.self old_is joined fell)
    ]

pub loop-node-preserved : goal.loop-node-preserved
loop-node-preserved g c =
    let laws = g.met.S.System.laws c.args.system.now c.nodes.ensures.known in
    let order = g.met.S.Value.Lattice.order in
    let readers = c.in_ok-readers.ensures in
    let so_far = c.loop-node.invariant in
    let node = c.in-Some.node in
    let within : node < g.S.System.nodes c.args.system.now = rw so_far.nodes at c.in-Some.ensures.in_range in
    let solving = rw c.in-Some.ensures.first at so_far.solving in
    let in_values : node < length c.loop-node.values.items = omega (arith, within, so_far.solving.fitting.whole) in
    let old_is = λ (d : g.row.S-Value.Denot). sym (get_or_read c.loop-node.values.items node c.index_mut.result.now in_values c.index_mut.ensures.value d) in
    let joined = rw (c.in_ok-value.ensures, c.deref.ensures.value) at c.in_ok-join.ensures.joins in
    let note : ℕ → Kind × List ℕ = λ n. (Evaluate c.args.analysis, g.S.System.name c.args.system.now n) in
    let noted = noted_more note _ _ _ so_far.order node so_far.noted (rw c.name.ensures at c.in_ok-note.ensures.one) in
    elim c.if-branch.branch [
      | then-branch+in_ok-add_all w ↦
          let in_readers : node < length c.in_ok-readers.readers.items = omega (arith, within, readers.whole) in
          let list_is = λ (d : Vec ℕ Global). sym (w.deref-then-branch.ensures.value ∙ ap (λ (v : Vec ℕ Global). v.items) (get_or_read c.in_ok-readers.readers.items node w.index.result.now in_readers w.index.ensures d)) in
          let rose : g.S.Value.Lattice.leq c.join.new.self c.index_mut.result.now ≡ false = not-true _ (sym c.in_ok-join.ensures.rose ∙ w.if-branch.true) in
          let waits = w.waiting-is ∙ w.in_ok-add_all.ensures.ok in
          record {
            nodes = ap (λ (q : ℕ × List ℕ). q.0) waits ∙ c.in-Some.ensures.count ∙ so_far.nodes;
            order = so_far.order ++ node ∷ [];
            solving = rw (ap (λ (q : ℕ × List ℕ). q.1) waits) (solving_rises order laws (λ (list : Vec ℕ Global). list.items) _ readers c.loop-node.values.items c.next.new.self.1 so_far.order node solving within c.index_mut.result.now c.join.new.self old_is joined w.deref-then-branch.result.now w.index.result.now list_is rose);
            noted = noted;
          }
      | else-branch w ↦
          let fell : IsTrue (g.S.Value.Lattice.leq c.join.new.self c.index_mut.result.now) = not-false _ (sym c.in_ok-join.ensures.rose ∙ w.if-branch.false) in
          record {
            nodes = ap (λ (q : ℕ × List ℕ). q.0) w.waiting-is ∙ c.in-Some.ensures.count ∙ so_far.nodes;
            order = so_far.order ++ node ∷ [];
            solving = rw (ap (λ (q : ℕ × List ℕ). q.1) w.waiting-is) (solving_stays order laws (λ (list : Vec ℕ Global). list.items) _ readers c.loop-node.values.items c.next.new.self.1 so_far.order node solving within c.index_mut.result.now c.join.new.self old_is joined fell);
            noted = noted;
          }
    ]

pub returns-clause-solution : goal.returns-clause-solution
returns-clause-solution g c =
    let laws = g.met.S.System.laws c.args.system.now c.nodes.ensures.known in
    let ended : c.loop-node.waiting.1 ≡ [] = search rules in
    solving_ends g.met.S.Value.Lattice.order laws (λ (list : Vec ℕ Global). list.items) _ c.in_ok-readers.ensures _ _ (rw ended at c.loop-node.invariant.solving)
