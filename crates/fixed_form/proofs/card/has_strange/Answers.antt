use Rattle.std.proofs.Common.{refl, sym, ◌∙◌, ap, get_or}
use Rattle.fixed_form.specs.Cards.{inside_after}
use Rattle.fixed_form.proofs.TextSoFar.{inside_none, inside_more, strange_here, strange_next, strange_end}
use Rattle.fixed_form.proofs.card.has_strange.Goals as goal

pub loop-b-init : goal.loop-b-init
loop-b-init c = record { behind = sym (inside_none c.args.inside); known = refl }

pub loop-b-preserved : goal.loop-b-preserved
loop-b-preserved c =
    let field = c.args.field.now in
    let i = c.loop-b.b-index in
    record {
      behind = c.inside_after-behind.ensures ∙ (ap (λ inside. inside_after inside (get_or field i 0)) c.loop-b.invariant.behind ∙ sym (inside_more c.args.inside field i c.loop-b-test.true));
      known = rw c.inside_after-behind.ensures (strange_next c.args.inside c.loop-b.behind field i c.loop-b-test.true c.loop-b.invariant.behind c.loop-b.invariant.known (sym c.strange_at.ensures ∙ c.if-strange_at.false));
    }

pub returns-then-strange_at : goal.returns-then-strange_at
returns-then-strange_at c =
    strange_here c.args.inside c.loop-b.behind c.args.field.now c.loop-b.b-index c.loop-b-test.true c.loop-b.invariant.behind c.loop-b.invariant.known (sym c.strange_at.ensures ∙ c.if-strange_at.true)

pub returns : goal.returns
returns c = strange_end c.args.inside c.loop-b.behind c.args.field.now c.loop-b.b-index c.loop-b-test.false c.loop-b.invariant.known
