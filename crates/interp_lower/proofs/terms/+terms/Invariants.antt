use Rattle.std.proofs.Common.{◌≡◌, ◌+◌, ◌++◌, drop}
use Rattle.interp_data.specs.Meant.{meant}
use Rattle.interp_lower.specs.Pieces.{site_total, values_steps, actuals_steps}
use Rattle.interp_lower.proofs.terms.+terms.Given as goal

-- What is still to come, from the next site on, behind the steps so far is all.
abbrev pub invariant-push_values-loop-e : goal.invariant-push_values-loop-e
invariant-push_values-loop-e l = record {
  sites : l.next + site_total (meant l.names) (drop l.e-index l.e-items) ≡ l.fn.site + site_total (meant l.names) l.e-items;
  steps : l.code ++ values_steps (meant l.names) (drop l.e-index l.e-items) l.next ≡ l.initial.code ++ values_steps (meant l.names) l.e-items l.fn.site;
}

abbrev pub invariant-push_actuals-loop-j : goal.invariant-push_actuals-loop-j
invariant-push_actuals-loop-j l = record {
  sites : l.next + site_total (meant l.names) (drop l.j l.actuals) ≡ l.fn.site + site_total (meant l.names) l.actuals;
  steps : l.code ++ actuals_steps (meant l.names) l.callee l.j (drop l.j l.actuals) l.next ≡ l.initial.code ++ actuals_steps (meant l.names) l.callee 0 l.actuals l.fn.site;
}
