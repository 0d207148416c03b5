use Rattle.std.proofs.Common.{◌≡◌, ◌+◌, ◌++◌, drop}
use Rattle.interp_data.specs.Meant.{meant}
use Rattle.interp_lower.specs.Pieces.{site_total, items_steps}
use Rattle.interp_lower.proofs.targets.push_items.Given as goal

abbrev pub invariant-loop-e : goal.invariant-loop-e
invariant-loop-e l = record {
  sites : l.next + site_total (meant l.names) (drop l.e-index l.e-items) ≡ l.fn.site + site_total (meant l.names) l.e-items;
  steps : l.code ++ items_steps (meant l.names) (drop l.e-index l.e-items) l.next ≡ l.initial.code ++ items_steps (meant l.names) l.e-items l.fn.site;
}
