use Rattle.std.proofs.Common.{sym, ◌∙◌, arith}
use Rattle.rn_lattice.proofs.Keys.{is_at-apart}
use Rattle.rn_lattice.proofs.keyed.Keyed.add.Goals as goal

-- the key that was added is the clone of the one that was asked for
pub returns-in_ok-insert-clause-others : goal.returns-in_ok-insert-clause-others
returns-in_ok-insert-clause-others g c = λ q apart.
    let key = g.met.K.Key in
    let cloned = key.clone_is_same c.args.key.now c.in_ok-clone.field-0 c.in_ok-clone.ensures.cases in
    let kept = c.in_ok-insert.ensures.updates.2 q (is_at-apart g.K.Ord.cmp key.equal_is_same c.in_ok-clone.field-0 q (λ same. apart (same ∙ sym cloned))) in
    grind (arith, kept)
