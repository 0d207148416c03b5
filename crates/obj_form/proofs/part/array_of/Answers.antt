use Rattle.std.proofs.Common.{◌≡◌, ◌+◌, ◌<◌, ◌∷◌, ◌++◌, [], length, take, get_or, sym, subst, rules}
use Rattle.serde_json.specs.Data.{array}
use Rattle.serde_json.specs.View.{view, items_view}
use Rattle.obj_form.specs.Grammar.{Never, Parts}
use Rattle.obj_form.proofs.Arrays.{more_parts, no_part}
use Rattle.obj_form.proofs.part.array_of.Goals as goal

pub returns-in_default-2 : goal.returns-in_default-2
returns-in_default-2 g c =
    let values = c.deref-value-items.result.now in
    let here = c.value-item.result in
    let whole : array (items_view values) ≡ view c.args.value.now = search rules in
    let within : c.part.value-index < length values = search rules in
    let is : here ≡ get_or values c.part.value-index here = search rules in
    let never : Never g.T.Part.form (view here) = search rules in
    no_part g.T.Part.form (view c.args.value.now) values c.part.value-index here whole within (subst (λ v. Never g.T.Part.form (view v)) is never)

pub part-preserved : goal.part-preserved
part-preserved g c =
    let values = c.deref-value-items.result.now in
    let here = c.value-item.result in
    let within : c.part.value-index < length values = search rules in
    let is : here ≡ get_or values c.part.value-index here = search rules in
    let reads : g.T.Part.form (view here) c.in-Some-2.part = search rules in
    let grown : c.push.new.self ≡ c.part.parts ++ c.in-Some-2.part ∷ [] = search rules in
    subst (λ xs. Parts g.T.Part.form (items_view (take (c.part.value-index + 1) values)) xs) (sym grown)
    (more_parts g.T.Part.form values c.part.parts c.part.value-index here c.in-Some-2.part within c.part.invariant
    (subst (λ v. g.T.Part.form (view v) c.in-Some-2.part) is reads))
