use Rattle.std.proofs.Common.{◌≡◌, ◌<◌, ◌≤◌, ◌∷◌, ◌++◌, [], length, get_or, ap, sym, subst, ◌∙◌, rules}
use Rattle.std.proofs.lemmas.List.{take_all}
use Rattle.serde_json.specs.Data.{array}
use Rattle.serde_json.specs.View.{view, items_view}
use Rattle.serde_json.proofs.Views.{view-Array}
use Rattle.obj_form.specs.Grammar.{Parts, Writes}
use Rattle.obj_form.proofs.Arrays.{more_values, no_values}
use Rattle.obj_form.proofs.part.array_value.Goals as goal

pub part-init : goal.part-init
part-init g c = λ ds h. ap items_view c.new-values.ensures.items ∙ no_values g.T.Part.form ds h

pub part-preserved : goal.part-preserved
part-preserved g c =
    let parts = c.args.parts.now in
    let here = c.part-item.result in
    let made = c.in_ok-part_value.field-0 in
    let within : c.part.part-index < length parts = search rules in
    let is : here ≡ get_or parts c.part.part-index here = search rules in
    let writes : Writes g.T.Part.form (view made) here = search rules in
    let grown : c.push.new.self.items ≡ c.part.values.items ++ made ∷ [] = search rules in
    λ ds h.
    ap items_view grown
    ∙ more_values g.T.Part.form c.part.values.items made parts c.part.part-index here within c.part.invariant
    (subst (Writes g.T.Part.form (view made)) is writes) ds h

pub returns : goal.returns
returns g c =
    let parts = c.args.parts.now in
    let past : length parts ≤ c.part.part-index = search rules in
    λ d h.
    view-Array c.part.values
    ∙ ap array (c.part.invariant h.0 (subst (Parts g.T.Part.form h.0) (sym (take_all c.part.part-index parts past)) h.2))
    ∙ sym h.1
