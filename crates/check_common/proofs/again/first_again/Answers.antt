use Rattle.std.proofs.Common.{sym, ◌∙◌, subst}
use Rattle.check_common.specs.Again.{FirstAgain}
use Rattle.check_common.proofs.Apart.{none_again}
use Rattle.check_common.proofs.Searches.{search_finds}
use Rattle.check_common.proofs.again.first_again.Goals as goal

pub returns-then-are_apart : goal.returns-then-are_apart
returns-then-are_apart c = none_again c.args.all.now (sym c.are_apart.ensures ∙ c.if-are_apart.true)

pub returns : goal.returns
returns c = subst (FirstAgain c.args.all.now) (sym c.search.ensures) (search_finds c.args.all.now)
