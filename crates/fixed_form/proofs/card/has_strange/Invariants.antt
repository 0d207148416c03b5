use Rattle.std.proofs.Common.{◌≡◌, take, drop}
use Rattle.fixed_form.specs.Cards.{inside_from, has_strange}
use Rattle.fixed_form.proofs.card.has_strange.Given as goal

abbrev pub invariant-loop-b : goal.invariant-loop-b
invariant-loop-b l = record {
  behind : l.behind ≡ inside_from l.inside (take l.b-index l.field);
  known : has_strange l.inside l.field ≡ has_strange l.behind (drop l.b-index l.field);
}
