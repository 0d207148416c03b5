use Rattle.std.proofs.Common.{sym, ◌∙◌}
use Rattle.call_cycles.proofs.Ranking.{none_lead_up}
use Rattle.call_cycles.proofs.ranks.ranks_of.Goals as goal

pub returns : goal.returns
returns c = none_lead_up c.args.rows.now c.in_ok-ranks.ranks.items (sym c.some_lead_up.ensures ∙ c.if-some_lead_up.false)
