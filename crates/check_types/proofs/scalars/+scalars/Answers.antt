use Rattle.std.proofs.Common.{ap, sym, ◌∙◌}
use Rattle.std.specs.List.{list_any}
use Rattle.check_types.specs.declared.places.Place.{Place}
use Rattle.check_types.specs.Scalars.{is_misplaced}
use Rattle.check_types.specs.Places.{member_place}
use Rattle.check_types.proofs.Members.{misplaced-Apply}
use Rattle.check_types.proofs.scalars.+scalars.Goals as goal

pub is_misplaced-returns-in-Apply : goal.is_misplaced-returns-in-Apply
is_misplaced-returns-in-Apply t c =
    c.are_misplaced.ensures
    ∙ (ap (λ (p : Place). list_any (is_misplaced c.args.facts.now p) c.in-Apply.list) (c.member_place.ensures ∙ ap member_place c.standing_of.ensures)
    ∙ (sym (misplaced-Apply c.args.facts.now c.args.place c.in-Apply.name c.in-Apply.list)
    ∙ ap (is_misplaced c.args.facts.now c.args.place) (sym c.in-Apply.is)))
