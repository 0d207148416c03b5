use Rattle.std.proofs.Common.{◌≡◌, List, ◌∷◌, [], ◌++◌, ℤ, ℕ, Option, subst, sym, ap, ◌∙◌, rules}
use Rattle.run_model.specs.Acts.{Act}
use Rattle.f77_semantics.specs.Units.{extents}
use Rattle.interp_steps.specs.Stops.{Gives}
use Rattle.interp_calls.specs.Bounds.{sized}
use Rattle.interp_calls.specs.Gathering.{behind}
use Rattle.interp_calls.proofs.Bounding.{extents_are}
use Rattle.interp_calls.proofs.Gathering.{one_more}
use Rattle.interp_calls.proofs.bounds.+push_extents.Goals as goal

pub returns-in_ok-push-in-Ok : goal.returns-in_ok-push-in-Ok
returns-in_ok-push-in-Ok t c =
    let p = c.in-Some.pair.now in
    let others = c.in-Some.others.now in
    let more : c.push.new.self ≡ c.args.all.now ++ c.in-Ok.extent ∷ [] = search rules in
    subst (λ (act : Act (List (ℤ × Option ℕ))). Gives c.push_extents.result (λ _. c.push_extents.new.all) (behind c.args.all.now act)) (sym (ap extents c.in-Some.ensures.cases.0 ∙ extents_are p others))
    (one_more c.push_extents.result c.push_extents.new.all c.args.all.now c.push.new.self c.in-Ok.extent (sized p) (extents others) c.in-Ok.ensures more c.push_extents.ensures)
