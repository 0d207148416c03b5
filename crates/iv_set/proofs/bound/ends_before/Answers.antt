use Rattle.std.proofs.Common.{◌≡◌, ap, sym, ◌∙◌, true}
use Rattle.std.specs.Ordering.{is_lt}
use Rattle.iv_set.specs.Places.{cmp, place_of}
use Rattle.iv_set.specs.Walks.{ends_before}
use Rattle.iv_set.proofs.AtEnd.{ends_by_last}
use Rattle.iv_set.proofs.bound.ends_before.Goals as goal

pub returns-in-Some : goal.returns-in-Some
returns-in-Some c =
    c.is_below.ensures ∙ sym (ap (λ l. ends_before l c.args.item.now) c.in-Some.ensures.cases.0 ∙ ends_by_last (λ p. is_lt (cmp p (place_of c.args.item.now))) true c.in-Some.field-0-1.now c.in-Some.last.now)
