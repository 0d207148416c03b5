use Rattle.std.proofs.Common.{◌≡◌, ◌<◌, take}
use Rattle.fixed_form.specs.Cards.{value_of}
use Rattle.fixed_form.proofs.Labels.{ten}
use Rattle.fixed_form.proofs.card.value_of.Given as goal

abbrev pub invariant-loop-b : goal.invariant-loop-b
invariant-loop-b l = record { value : l.value ≡ value_of (take l.b-index l.part); small : l.value < ten l.b-index }
