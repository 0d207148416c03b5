use Rattle.std.proofs.Common.{◌≡◌, ℕ, List, ap, ◌∙◌}
use Rattle.f77_store.specs.declared.areas.Member.{Member}
use Rattle.f77_store.specs.declared.areas.Place.{Place}
use Rattle.f77_store.specs.declared.layouts.Stored.{Stored}
use Rattle.f77_names.specs.declared.facts.Facts.{Facts}
use Rattle.f77_names.specs.declared.roles.Known.{Known}
use Rattle.f77_values.specs.Tables.{Name, Told}
use Rattle.f77_store.specs.Layouts.{sizes, common_places, blocks_with, stored_in, stored}
use Rattle.f77_values.proofs.Given.{if_ok}
use Rattle.f77_store.proofs.layouts.store.Goals as goal

stored_from : (f : Facts) (commons : List Member) (names : List Known) (places : Told Place) (blocks : List (Name × ℕ)) (all : Stored)
    → places ≡ common_places f commons → blocks ≡ blocks_with f commons → all ≡ stored_in f places blocks names → all ≡ stored f commons names
stored_from f commons names places blocks all p b e = e ∙ (ap (λ x. stored_in f x blocks names) p ∙ ap (λ x. stored_in f (common_places f commons) x names) b)

pub returns : goal.returns
returns c =
    if_ok c.place_names.result
    (λ all e. stored_from c.args.facts.now c.args.commons.now c.args.names.now _ _ all c.in_ok-shared.ensures.places (c.in_ok-blocks.ensures (sizes c.args.facts.now) c.in_ok-shared.ensures.totals) e)
    c.place_names.ensures
