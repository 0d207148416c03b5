use Rattle.prog_check.proofs.Storage.{storage_is}
use Rattle.prog_check.proofs.limits.storage.Goals as goal

pub returns : goal.returns
returns c = storage_is c.args.units.now c.in_ok-all.all.local c.in_ok-all.all.blocks c.in_ok-names.names c.in_ok-sizes.sizes c.add_all.result c.in_ok-all.ensures.local c.in_ok-all.ensures.blocks (c.in_ok-names.ensures {u = tt}) (c.in_ok-sizes.ensures {u = tt}) c.add_all.ensures
