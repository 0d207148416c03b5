use Rattle.std.proofs.Common.{ap, ap₂, sym, ◌∙◌, ◌+◌, ◌∷◌, drop}
use Rattle.std.proofs.lemmas.List.{drop_more}
use Rattle.check_data.specs.Measures.{measures_from}
use Rattle.check_data.proofs.measures.measures_of.Goals as goal

pub loop-statement-preserved : goal.loop-statement-preserved
loop-statement-preserved c =
    let items = c.as_slice-statement-items.result.now in
    let i = c.loop-statement.statement-index in
    let s = c.statement-item.result in
    ap₂ (λ d known. measures_from d known (drop (i + 1) items)) (c.in_ok-define_in.ensures {u = tt}) (c.in_ok-add_form.ensures {u = tt})
    ∙ (sym (ap (measures_from c.loop-statement.defined c.loop-statement.known) (drop_more items i s c.loop-statement-test.true ∙ ap (λ x. x ∷ drop (i + 1) items) (sym c.statement-item.is)))
    ∙ c.loop-statement.invariant)
