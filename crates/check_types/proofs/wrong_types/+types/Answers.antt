use Rattle.std.proofs.Common.{◌≡◌, length, ap, sym, ◌∙◌}
use Rattle.std.specs.Prelude.{◌||◌}
use Rattle.std.specs.List.{list_any}
use Rattle.f77_names.specs.Roles.{type_of}
use Rattle.check_types.specs.Places.{wanted, member_place}
use Rattle.f77_names.specs.Standings.{standing_of}
use Rattle.check_types.specs.WrongTypes.{differs, is_miscalled, is_mistyped}
use Rattle.check_types.proofs.Members.{mistyped-Apply}
use Rattle.check_types.proofs.wrong_types.+types.Goals as goal

pub is_mistyped-returns-in-Apply : goal.is_mistyped-returns-in-Apply
is_mistyped-returns-in-Apply t c =
    let typed : c.differs-typed.result ≡ differs (wanted c.args.place) (type_of c.args.facts.now c.in-Apply.name) = cc (c.differs-typed.ensures, c.wanted-in-Apply.ensures, c.name_type.ensures) in
    let called : c.is_miscalled-called.result ≡ is_miscalled (standing_of c.args.facts.now c.in-Apply.name) c.in-Apply.name (length c.in-Apply.list) = cc (c.is_miscalled-called.ensures, c.standing_of-standing.ensures, c.len.ensures) in
    let members : c.are_mistyped.result ≡ list_any (is_mistyped c.args.facts.now (member_place (standing_of c.args.facts.now c.in-Apply.name))) c.in-Apply.list = cc (c.are_mistyped.ensures, c.member_place.ensures, c.standing_of-standing.ensures) in
    (λ i. typed i || (called i || members i))
    ∙ (sym (mistyped-Apply c.args.facts.now c.args.place c.in-Apply.name c.in-Apply.list)
    ∙ ap (is_mistyped c.args.facts.now c.args.place) (sym c.in-Apply.is))
