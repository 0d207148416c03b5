use Rattle.std.proofs.Common.{get_or, rules, arith}
use Rattle.std.proofs.lemmas.Option.{slice_get-get_or}
use Rattle.check_jumps.proofs.Flags.{flags_more}
use Rattle.check_jumps.proofs.Labelling.{stands_none, stands_more, repeats_by}
use Rattle.check_jumps.proofs.labels.repeated.Goals as goal

pub loop-k-init : goal.loop-k-init
loop-k-init c = record {
  flags = record { long = search rules; each = λ k small. absurd (omega arith) };
  seen = λ q. stands_none c.args.statements.now q _ (c.new-seen.ensures q);
}

pub loop-k-preserved : goal.loop-k-preserved
loop-k-preserved c =
    let s = get_or c.args.statements.now c.loop-k.k c.index-statements-k.result in
    let here = slice_get-get_or c.args.statements.now c.loop-k.k c.index-statements-k.result c.loop-k-test.true in
    record {
      flags = rw (c.in_ok-push.ensures.ok) (flags_more _ c.loop-k.k _ _ c.loop-k.invariant.flags (repeats_by c.args.statements.now c.loop-k.k s _ _ here (c.in_ok-before.ensures {u = tt}).before (c.loop-k.invariant.seen s.label)));
      seen = λ q. stands_more c.args.statements.now c.loop-k.k q s _ _ here ((c.in_ok-before.ensures {u = tt}).labels q) (c.loop-k.invariant.seen q);
    }
