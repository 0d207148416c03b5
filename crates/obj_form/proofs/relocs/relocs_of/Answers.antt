use Rattle.std.proofs.Common.{◌≡◌, true, false, sym, subst, ◌∙◌}
use Rattle.serde_json.specs.View.{view}
use Rattle.obj_form.specs.Grammar.{IsArrayOf, IsReloc, Reads}
use Rattle.obj_form.specs.Objects.{ArePairs}
use Rattle.obj_form.proofs.Reading.{not_apart}
use Rattle.obj_form.proofs.relocs.relocs_of.Goals as goal

pub returns-in_default : goal.returns-in_default
returns-in_default c = λ relocs h. subst (Reads (IsArrayOf IsReloc) (view c.args.value.now)) c.in_default.is c.in_ok-relocs.ensures relocs h.0

pub returns-else-branch : goal.returns-else-branch
returns-else-branch c =
    not_apart c.args.words (view c.args.value.now) c.in-Some.relocs (subst (Reads (IsArrayOf IsReloc) (view c.args.value.now)) c.in-Some.is c.in_ok-relocs.ensures)
    (λ all. let yes : false ≡ true = sym c.if-branch.false ∙ c.in_ok-are_pairs.ensures.1 (subst (ArePairs c.args.words) (sym c.as_slice.ensures) all) in cc yes)
