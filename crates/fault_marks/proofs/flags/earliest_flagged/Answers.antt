use Rattle.std.proofs.Common.{ap, ◌∙◌, sym, subst, refl}
use Rattle.std.proofs.lemmas.Option.{slice_get_read}
use Rattle.fault_marks.specs.Earliest.{first_of, mark_if, Earliest}
use Rattle.fault_marks.specs.Places.{FlaggedBefore}
use Rattle.fault_marks.proofs.Flagging.{none_before, one_more, all_before}
use Rattle.fault_marks.proofs.flags.earliest_flagged.Goals as goal

pub loop-k-init : goal.loop-k-init
loop-k-init c = none_before c.args.statements.now c.args.flags.now c.args.number c.args.limit

pub loop-k-preserved : goal.loop-k-preserved
loop-k-preserved c =
    let s = c.index-statements-k.result in
    let same = c.first_of-found.ensures.first ∙ ap (first_of c.loop-k.found) (c.mark_if.ensures.mark ∙ ap (λ b. mark_if b s.line c.args.number c.args.limit) c.flag_at.ensures) in
    subst (Earliest (FlaggedBefore c.args.statements.now c.args.flags.now c.args.number c.args.limit _)) (sym same)
    (one_more c.args.statements.now c.args.flags.now c.args.number c.args.limit c.loop-k.k s c.loop-k.found
    (slice_get_read c.args.statements.now _ c.loop-k.k s refl c.loop-k-test.true c.index-statements-k.is) c.loop-k.invariant)

pub returns : goal.returns
returns c = record { earliest = all_before c.args.statements.now c.args.flags.now c.args.number c.args.limit c.loop-k.k c.loop-k.found c.loop-k-test.false c.loop-k.invariant }
