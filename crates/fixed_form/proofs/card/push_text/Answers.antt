use Rattle.std.proofs.Common.{◌++◌, ap, sym, ◌∙◌, take, get_or, append_assoc}
use Rattle.std.proofs.lemmas.List.{append-nil}
use Rattle.fixed_form.specs.Cards.{kept, inside_after, text_from}
use Rattle.fixed_form.proofs.TextSoFar.{text_none, inside_none, text_more, inside_more}
use Rattle.fixed_form.proofs.card.push_text.Goals as goal

pub loop-b-init : goal.loop-b-init
loop-b-init c = record { text = rw text_none (sym (append-nil c.args.text.now)); behind = sym (inside_none c.args.inside) }

pub loop-b-preserved : goal.loop-b-preserved
loop-b-preserved c =
    let part = c.args.part.now in
    let i = c.loop-b.b-index in
    record {
      text = c.in_ok-push_kept.ensures {u = tt}
          ∙ (ap (λ text. text ++ kept c.loop-b.behind (get_or part i 0)) c.loop-b.invariant.text
          ∙ (append_assoc c.args.text.now (text_from c.args.inside (take i part)) (kept c.loop-b.behind (get_or part i 0))
          ∙ ap (λ more. c.args.text.now ++ more) (ap (λ inside. text_from c.args.inside (take i part) ++ kept inside (get_or part i 0)) c.loop-b.invariant.behind ∙ sym (text_more c.args.inside part i c.loop-b-test.true))));
      behind = c.inside_after-behind.ensures ∙ (ap (λ inside. inside_after inside (get_or part i 0)) c.loop-b.invariant.behind ∙ sym (inside_more c.args.inside part i c.loop-b-test.true));
    }
