use Rattle.std.proofs.Common.{◌≡◌, sym, ◌∙◌, subst, Some, if◌then◌else◌}
use Rattle.std.proofs.lemmas.Result.{on_ok_weaker}
use Rattle.f77_values.specs.Tables.{Name, name_eq, what}
use Rattle.interp_data.proofs.Telling.{tells_more}
use Rattle.interp_data.proofs.lookup.tell.Goals as goal

pub returns : goal.returns
returns c = on_ok_weaker c.insert.result (λ w.
    tells_more c.args.facts.now c.args.slot.now c.args.told.now c.insert.new.self c.in_ok-meaning.meaning (sym c.is_told.ensures ∙ c.if-is_told.false) c.in_ok-meaning.ensures
    (subst (λ n. (q : Name) → what c.insert.new.self q ≡ (if name_eq n q then Some c.in_ok-meaning.meaning else what c.args.told.now q)) c.in_ok-copy.ensures w))
    c.insert.ensures.what
