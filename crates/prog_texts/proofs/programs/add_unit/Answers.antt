use Rattle.std.proofs.Common.{[], ◌∷◌, ◌++◌, ap, ◌∙◌}
use Rattle.f77_values.specs.Tables.{with_told}
use Rattle.prog_texts.specs.Mentions.{mentions_with}
use Rattle.prog_texts.specs.Signatures.{signature_with}
use Rattle.prog_texts.proofs.Given.{on_ok, so_on_ok}
use Rattle.prog_texts.proofs.programs.add_unit.Goals as goal

pub returns-clause-signatures : goal.returns-clause-signatures
returns-clause-signatures c =
    so_on_ok c.push_text.result
    ((c.in_ok-put_signature.ensures {u = tt}) ∙ ap (λ f. with_told c.args.signatures.now c.args.unit.now.name (signature_with f c.args.unit.now c.args.place)) (c.in_ok-facts.ensures {u = tt}))

pub returns-clause-texts : goal.returns-clause-texts
returns-clause-texts c =
    on_ok c.push_text.result (λ e. e ∙ ap (λ f. c.args.texts.now ++ mentions_with f c.args.unit.now ∷ []) (c.in_ok-facts.ensures {u = tt})) c.push_text.ensures
