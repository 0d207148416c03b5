use Rattle.std.proofs.Common.{◌≡◌, ◌+◌, ◌∷◌, [], ◌++◌, take, drop, fold, append-nil, sym, ap, ◌∙◌, subst}
use Rattle.std.proofs.lemmas.List.{drop_more, drop_all}
use Rattle.std.proofs.lemmas.List.Sums.{fold_more}
use Rattle.check_data.specs.DataTwice as t
use Rattle.check_data.specs.DataTwice.{Past}
use Rattle.check_constants.specs.Defined.{with_statement}
use Rattle.check_constants.specs.Passes.{flags_from}
use Rattle.check_data.specs.Seen.{Tells}
use Rattle.check_data.proofs.Givings.{repeats_more}
use Rattle.check_data.proofs.repeats.repeating.Goals as goal

pub loop-statement-preserved : goal.loop-statement-preserved
loop-statement-preserved c =
    let items = c.as_slice-statement-items.result.now in
    let i = c.loop-statement.statement-index in
    let st = c.statement-item.result in
    let past : Past = fold t.past_with t.beginning (take i items) in
    let next : fold t.past_with t.beginning (take (i + 1) items) ≡ t.past_with past st = fold_more t.past_with t.beginning items i st c.loop-statement-test.true ∙ ap (t.past_with past) (sym c.statement-item.is) in
    let rest : drop i items ≡ st ∷ drop (i + 1) items = drop_more items i st c.loop-statement-test.true ∙ ap (λ x. x ∷ drop (i + 1) items) (sym c.statement-item.is) in
    let same : c.loop-statement.defined ≡ past.defined = c.loop-statement.invariant.defined in
    record {
      defined = (c.in_ok-define_in.ensures {u = tt}) ∙ (ap (λ d. with_statement d st) same ∙ sym (ap (λ p. p.defined) next));
      tells = subst (λ p. Tells c.meet_statement.new.seen p.given) (sym next)
          (subst (λ d. Tells c.meet_statement.new.seen (past.given ++ t.statement_gives d st)) same (c.in_ok-twice.ensures.tells past.given c.loop-statement.invariant.tells));
      flags =
          ap (λ flags. flags ++ flags_from t.past_with t.statement_repeats (fold t.past_with t.beginning (take (i + 1) items)) (drop (i + 1) items)) ((c.in_ok-push.ensures {u = tt}).ok)
          ∙ (ap (λ p. (c.loop-statement.flags ++ c.in_ok-twice.twice ∷ []) ++ flags_from t.past_with t.statement_repeats p (drop (i + 1) items)) next
          ∙ repeats_more past st (drop (i + 1) items) c.loop-statement.flags (flags_from t.past_with t.statement_repeats t.beginning items) c.in_ok-twice.twice
          (c.in_ok-twice.ensures.twice past.given c.loop-statement.invariant.tells ∙ ap (λ d. t.given_twice past.given (t.statement_gives d st)) same)
          (ap (λ xs. c.loop-statement.flags ++ flags_from t.past_with t.statement_repeats past xs) (sym rest) ∙ c.loop-statement.invariant.flags));
    }

pub returns : goal.returns
returns c =
    let items = c.as_slice-statement-items.result.now in
    let i = c.loop-statement.statement-index in
    sym (append-nil c.loop-statement.flags)
    ∙ (ap (λ xs. c.loop-statement.flags ++ flags_from t.past_with t.statement_repeats (fold t.past_with t.beginning (take i items)) xs) (sym (drop_all i items c.loop-statement-test.false))
    ∙ (c.loop-statement.invariant.flags
    ∙ ap (flags_from t.past_with t.statement_repeats t.beginning) c.as_slice-statement-items.ensures))
