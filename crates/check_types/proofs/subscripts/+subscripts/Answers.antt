use Rattle.std.proofs.Common.{◌≡◌, length, ap, sym, ◌∙◌}
use Rattle.std.specs.Prelude.{◌||◌}
use Rattle.f77_names.specs.Standings.{rank_of}
use Rattle.check_types.specs.Subscripts.{miscounts, is_miscounted}
use Rattle.check_types.proofs.Members.{miscounted-Apply}
use Rattle.check_types.proofs.subscripts.+subscripts.Goals as goal

pub is_miscounted-returns-in-Apply : goal.is_miscounted-returns-in-Apply
is_miscounted-returns-in-Apply t c =
    let e : c.miscounts.result ≡ miscounts (rank_of c.args.facts.now c.in-Apply.name) (length c.in-Apply.list) = cc (c.miscounts.ensures, c.rank_of.ensures, c.len.ensures) in
    (λ i. e i || c.are_miscounted.ensures i)
    ∙ (sym (miscounted-Apply c.args.facts.now c.in-Apply.name c.in-Apply.list)
    ∙ ap (is_miscounted c.args.facts.now) (sym c.in-Apply.is))
