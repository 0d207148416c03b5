use Rattle.std.proofs.Common.{◌≡◌, ◌<◌, take}
use Rattle.f77_expr.specs.Spelling.{value_of}
use Rattle.fixed_form.proofs.Labels.{ten}
use Rattle.form_kinds.proofs.labels.label_of.Given as goal

abbrev pub invariant-loop-b : goal.invariant-loop-b
invariant-loop-b l = record { value : l.value ≡ value_of (take l.b-index l.digits); small : l.value < ten l.b-index }
