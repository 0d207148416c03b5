-- Steps of the loops that go through two maps.
use Rattle.std.proofs.Common.{◌≡◌, Bool, true, false, not, List, [], ◌∷◌, ◌++◌, Option, Some, None, ap, sym, ◌∙◌, refl, cond}
use Rattle.std.proofs.lemmas.List.{append_assoc, append-nil}
use Rattle.f77_tree.specs.declared.unit.Value.{Value}
use Rattle.iv_set.specs.declared.bound.Bound.{Bound}
use Rattle.item_maps.specs.declared.step.Step.{Step}
use Rattle.item_maps.specs.Steps.{same, step, emit}
use Rattle.item_maps.specs.StepLaws.{same_is}
use Rattle.item_maps.specs.Walks.{first_place, has_value}

noted_by : (b : Bool) (s : Step) (before after rest whole : List Step) → before ++ cond b rest (s ∷ rest) ≡ whole → after ≡ before ++ cond b [] (s ∷ []) → after ++ rest ≡ whole
noted_by true s before after rest whole e h = ap (λ l. l ++ rest) h ∙ append_assoc before [] rest ∙ e
noted_by false s before after rest whole e h = ap (λ l. l ++ rest) h ∙ append_assoc before (s ∷ []) rest ∙ e

-- what was noted so far stands before what is still to come
pub noted : (old new : Option Value) (p : Bound) (before after rest whole : List Step) → before ++ emit p old new rest ≡ whole → after ≡ before ++ emit p old new [] → after ++ rest ≡ whole
noted old new p before after rest whole e h = noted_by (same old new) (step p new) before after rest whole e h

pub found : (new : Option Value) (p : Bound) (rest whole : List Step) → has_value new ≡ true → emit p None new rest ≡ whole → first_place whole ≡ Some p
found None p rest whole n e = absurd (cc)
found (Some v) p rest whole n e = ap first_place (sym e)

pub passed : (new : Option Value) (p : Bound) (rest whole : List Step) → has_value new ≡ false → emit p None new rest ≡ whole → rest ≡ whole
passed None p rest whole n e = e
passed (Some v) p rest whole n e = absurd (cc)
