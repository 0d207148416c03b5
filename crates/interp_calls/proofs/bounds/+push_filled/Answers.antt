use Rattle.std.proofs.Common.{◌≡◌, List, ◌∷◌, [], ◌++◌, subst, sym, ap, ◌∙◌, rules}
use Rattle.run_model.specs.Acts.{Act}
use Rattle.f77_semantics.specs.declared.storage.Extent.{Extent}
use Rattle.f77_semantics.specs.Units.{filled}
use Rattle.interp_steps.specs.Stops.{Gives}
use Rattle.interp_calls.specs.Bounds.{filled_one}
use Rattle.interp_calls.specs.Gathering.{behind}
use Rattle.interp_calls.proofs.Bounding.{filled_are}
use Rattle.interp_calls.proofs.Gathering.{one_more}
use Rattle.interp_calls.proofs.bounds.+push_filled.Goals as goal

pub returns-in_ok-push-in-Ok : goal.returns-in_ok-push-in-Ok
returns-in_ok-push-in-Ok t c =
    let star = c.args.star in
    let e = c.in-Some.extent.now in
    let others = c.in-Some.others.now in
    let pushed : c.push.new.self ≡ c.args.all.now ++ c.in-Ok.extent ∷ [] = search rules in
    subst (λ (act : Act (List Extent)). Gives c.push_filled.result (λ _. c.push_filled.new.all) (behind c.args.all.now act)) (sym (ap (filled star) c.in-Some.ensures.cases.0 ∙ filled_are star e others))
    (one_more c.push_filled.result c.push_filled.new.all c.args.all.now c.push.new.self c.in-Ok.extent (filled_one star e) (filled star others) c.in-Ok.ensures pushed c.push_filled.ensures)
