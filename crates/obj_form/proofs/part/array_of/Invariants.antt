use Rattle.std.proofs.Common.{take}
use Rattle.serde_json.specs.View.{items_view}
use Rattle.obj_form.specs.Grammar.{Parts}
use Rattle.obj_form.proofs.part.array_of.Given as goal

abbrev pub invariant-part : goal.invariant-part
invariant-part g l = Parts g.T.Part.form (items_view (take l.value-index l.value-items)) l.parts
