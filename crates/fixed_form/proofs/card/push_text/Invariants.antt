use Rattle.std.proofs.Common.{◌≡◌, ◌++◌, take}
use Rattle.fixed_form.specs.Cards.{text_from, inside_from}
use Rattle.fixed_form.proofs.card.push_text.Given as goal

abbrev pub invariant-loop-b : goal.invariant-loop-b
invariant-loop-b l = record {
  text : l.text ≡ l.fn.text ++ text_from l.inside (take l.b-index l.part);
  behind : l.behind ≡ inside_from l.inside (take l.b-index l.part);
}
