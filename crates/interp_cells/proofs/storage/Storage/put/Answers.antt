use Rattle.interp_cells.proofs.Stores.{both_on_ok, local_stored, fresh_stored}
use Rattle.interp_cells.proofs.storage.Storage.put.Goals as goal

pub returns-in-Local : goal.returns-in-Local
returns-in-Local c =
    rw c.in-Local.is (both_on_ok c.put_local.result
    (λ rows seats. local_stored c.args.self.now (record { commons = c.args.self.now.commons; units = c.put_local.new.units }) (λ i. c.args.self.now.commons) c.in-Local.unit.now c.args.value c.args.spot.offset rows seats)
    c.put_local.ensures.row c.put_local.ensures.seats)

pub returns-then-spot-eq0 : goal.returns-then-spot-eq0
returns-then-spot-eq0 c =
    rw (c.in-Fresh.is, c.if-spot-eq0.true) (both_on_ok c.put_fresh.result
    (λ rows seats. fresh_stored c.args.self.now (record { commons = c.args.self.now.commons; units = c.put_fresh.new.units }) (λ i. c.args.self.now.commons) c.in-Fresh.unit.now c.args.value (record { site = c.in-Fresh.site; position = c.in-Fresh.position }) rows seats)
    c.put_fresh.ensures.row c.put_fresh.ensures.seats)
