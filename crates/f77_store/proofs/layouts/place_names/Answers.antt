use Rattle.std.proofs.Common.{[], ap, flat_map, ◌∙◌}
use Rattle.f77_store.specs.Areas.{so_far}
use Rattle.f77_store.specs.Layouts.{slot_of}
use Rattle.f77_store.proofs.layouts.place_names.Goals as goal

pub returns : goal.returns
returns c = λ i. record {
  slots = ((c.in_ok-slots.ensures {u = tt}) ∙ ap (λ own. flat_map (slot_of c.args.facts.now c.args.commons.now own) c.args.names.now) c.in_ok-own.ensures.places) i;
  local_size = (c.so_far-local_size.ensures ∙ (ap (so_far c.in_ok-own.own.totals) c.blank_name-nameless.ensures ∙ c.in_ok-own.ensures.totals [])) i;
  blocks = c.args.blocks;
}
