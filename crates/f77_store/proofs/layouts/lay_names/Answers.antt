use Rattle.f77_store.proofs.layouts.lay_names.Goals as goal

pub returns : goal.returns
returns c = λ i. record {
  slots = (c.in_ok-slots.ensures {u = tt} i).slots;
  local_size = (c.in_ok-slots.ensures {u = tt} i).local_size;
  blocks = (c.in_ok-slots.ensures {u = tt} i).blocks;
  names = c.args.names;
  callees = (c.in_ok-callees.ensures {u = tt}) i;
}
