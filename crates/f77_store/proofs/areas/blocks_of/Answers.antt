use Rattle.f77_values.proofs.Given.{if_ok}
use Rattle.f77_store.proofs.Totals.{blocks_are}
use Rattle.f77_store.proofs.areas.blocks_of.Goals as goal

pub returns : goal.returns
returns c = λ size totals. if_ok c.all_sized.result (λ all e. blocks_are size c.args.members.now c.args.totals.now c.in_ok-names.names all totals (c.in_ok-names.ensures {u = tt}) e) c.all_sized.ensures
