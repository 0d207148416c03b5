use Rattle.std.proofs.Common.{◌≡◌, ap, sym, ◌∙◌, false}
use Rattle.std.specs.Ordering.{is_eq}
use Rattle.iv_set.specs.Places.{cmp, place_of}
use Rattle.iv_set.specs.Walks.{touches}
use Rattle.iv_set.proofs.AtEnd.{ends_by_last}
use Rattle.iv_set.proofs.bound.touches.Goals as goal

pub returns-in-Some : goal.returns-in-Some
returns-in-Some c =
    c.is_at.ensures ∙ sym (ap (λ l. touches l c.args.item.now) c.in-Some.ensures.cases.0 ∙ ends_by_last (λ p. is_eq (cmp p (place_of c.args.item.now))) false c.in-Some.field-0-1.now c.in-Some.last.now)
