use Rattle.std.proofs.Common.{◌≡◌, take}
use Rattle.serde_json.specs.Data.{Items}
use Rattle.serde_json.specs.View.{items_view}
use Rattle.obj_form.specs.Grammar.{Parts}
use Rattle.obj_form.proofs.part.array_value.Given as goal

abbrev pub invariant-part : goal.invariant-part
invariant-part g l = (ds : Items) → Parts g.T.Part.form ds (take l.part-index l.parts) → items_view l.values.items ≡ ds
