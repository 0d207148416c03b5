use Rattle.std.proofs.Common.{sym, ap, ◌∙◌}
use Rattle.std.specs.Option.{option_copied}
use Rattle.std.proofs.lemmas.Result.{IfOk-weaker}
use Rattle.interp_data.proofs.Telling.{told}
use Rattle.interp_data.proofs.lookup.Lookup.meaning.Goals as goal

pub returns-in-Some : goal.returns-in-Some
returns-in-Some c = IfOk-weaker c.copy.result _ _
    (λ again e. e ∙ told c.args.self.now.facts c.args.self.now.slots c.args.self.now.told c.in-Some.meaning.now c.args.self.now.right c.args.name.now (sym c.get.ensures ∙ ap option_copied c.in-Some.is))
    c.copy.ensures
