use Rattle.std.proofs.Common.{⊎_elim, ap, sym, ◌∙◌, arith, subst}
use Rattle.fixed_form.specs.declared.card.LineKind.TheVariants as kind
use Rattle.fixed_form.specs.Cards.{card_strange}
use Rattle.fixed_form.specs.Progress.{inside_current}
use Rattle.fixed_form.proofs.Steps.{NoComment, no_comment, kind_here, stands_comment, stands_initial, stands_end, stands_continued, first_strange, first_label, first_lone, first_many, initial_label, continuation_label, plain, outside_initial, outside_end}
use Rattle.fixed_form.proofs.reader.take_card.Goals as goal

pub returns-then-card_strange-clause-err : goal.returns-then-card_strange-clause-err
returns-then-card_strange-clause-err c = λ seen rest line next s.
    let k = c.in_ok-kind.kind in
    let is = c.in_ok-kind.ensures {u = tt} in
    first_strange c.refusal.result c.args.number k line rest c.refusal.ensures next.numbered (subst NoComment (sym is) (no_comment c.args.card.now)) (kind_here k next is)
    (ap (card_strange (inside_current c.args.reader.current k)) (sym next.card_is) ∙ (ap (λ i. card_strange i c.args.card.now) (sym c.inside_at.ensures) ∙ (sym c.card_strange.ensures ∙ c.if-card_strange.true))) s

pub returns-in-Comment-clause-ok : goal.returns-in-Comment-clause-ok
returns-in-Comment-clause-ok c = λ seen line next s.
    rw c.passed.ensures (stands_comment line (kind_here c.in_ok-kind.kind next (c.in_ok-kind.ensures {u = tt}) ∙ c.in-Comment.is) s)

pub returns-in_ok-initial-in-Initial-clause-ok : goal.returns-in_ok-initial-in-Initial-clause-ok
returns-in_ok-initial-in-Initial-clause-ok c = λ seen line next s.
    rw (c.in_ok-initial-in-Initial.ensures {u = tt}, next.card_is)
    (stands_initial line (kind_here c.in_ok-kind.kind next (c.in_ok-kind.ensures {u = tt}) ∙ c.in-Initial.is) (plain line next.card_is c.card_strange.ensures c.if-card_strange.false (c.inside_at.ensures ∙ (ap (inside_current c.args.reader.current) c.in-Initial.is ∙ outside_initial c.args.reader.current))) s)

pub returns-in_ok-end-in-End-clause-ok : goal.returns-in_ok-end-in-End-clause-ok
returns-in_ok-end-in-End-clause-ok c = λ seen line next s.
    stands_end line (kind_here c.in_ok-kind.kind next (c.in_ok-kind.ensures {u = tt}) ∙ c.in-End.is) (plain line next.card_is c.card_strange.ensures c.if-card_strange.false (c.inside_at.ensures ∙ (ap (inside_current c.args.reader.current) c.in-End.is ∙ outside_end c.args.reader.current))) s (rw next.card_is at c.in_ok-end-in-End.ensures)

pub returns-in_ok-continued-in-Some-clause-ok : goal.returns-in_ok-continued-in-Some-clause-ok
returns-in_ok-continued-in-Some-clause-ok c = λ seen line next s.
    rw (c.in_ok-continued-in-Some.ensures {u = tt}, next.card_is)
    (stands_continued line (kind_here c.in_ok-kind.kind next (c.in_ok-kind.ensures {u = tt}) ∙ c.in-Continuation.is) (plain line next.card_is c.card_strange.ensures c.if-card_strange.false (c.inside_at.ensures ∙ (ap (inside_current c.args.reader.current) c.in-Continuation.is ∙ ap (λ o. inside_current o kind.Continuation) c.in-Some.is))) (omega arith) (rw c.in-Some.is at s))

pub returns-then-current-ge19-clause-err : goal.returns-then-current-ge19-clause-err
returns-then-current-ge19-clause-err c = λ seen rest line next s.
    first_many c.refusal-then-current-ge19.result c.args.number line rest c.refusal-then-current-ge19.ensures next.numbered (kind_here c.in_ok-kind.kind next (c.in_ok-kind.ensures {u = tt}) ∙ c.in-Continuation.is) (plain line next.card_is c.card_strange.ensures c.if-card_strange.false (c.inside_at.ensures ∙ (ap (inside_current c.args.reader.current) c.in-Continuation.is ∙ ap (λ o. inside_current o kind.Continuation) c.in-Some.is))) (omega arith) (rw c.in-Some.is at s)

pub returns-in-None-clause-err : goal.returns-in-None-clause-err
returns-in-None-clause-err c = λ seen rest line next s.
    first_lone c.refusal-in-None.result c.args.number line rest c.refusal-in-None.ensures next.numbered (kind_here c.in_ok-kind.kind next (c.in_ok-kind.ensures {u = tt}) ∙ c.in-Continuation.is) (plain line next.card_is c.card_strange.ensures c.if-card_strange.false (c.inside_at.ensures ∙ (ap (inside_current c.args.reader.current) c.in-Continuation.is ∙ ap (λ o. inside_current o kind.Continuation) c.in-None.is))) (rw c.in-None.is at s)

pub returns-in-BadLabel-clause-err : goal.returns-in-BadLabel-clause-err
returns-in-BadLabel-clause-err c = λ seen rest line next s.
    let k = c.in_ok-kind.kind in
    first_label c.refusal-in-BadLabel.result c.args.number k line rest c.refusal-in-BadLabel.ensures next.numbered (⊎_elim initial_label continuation_label c.in-BadLabel.is) (kind_here k next (c.in_ok-kind.ensures {u = tt})) (plain line next.card_is c.card_strange.ensures c.if-card_strange.false c.inside_at.ensures) s
