-- Steps of the loops that go through two lists.
use Rattle.std.proofs.Common.{◌≡◌, Bool, true, false, List, [], ◌∷◌, ◌++◌, ap, sym, ◌∙◌}
use Rattle.std.proofs.lemmas.List.{append_assoc}
use Rattle.iv_set.specs.Toggles.{emit, is_empty}

-- what was noted so far stands before what is still to come
pub noted : {P : Type 0} (old new : Bool) (p : P) (before after rest whole : List P) → before ++ emit p old new rest ≡ whole → after ≡ before ++ emit p old new [] → after ++ rest ≡ whole
noted true true p before after rest whole e h = ap (λ l. l ++ rest) h ∙ append_assoc before [] rest ∙ e
noted true false p before after rest whole e h = ap (λ l. l ++ rest) h ∙ append_assoc before (p ∷ []) rest ∙ e
noted false true p before after rest whole e h = ap (λ l. l ++ rest) h ∙ append_assoc before (p ∷ []) rest ∙ e
noted false false p before after rest whole e h = ap (λ l. l ++ rest) h ∙ append_assoc before [] rest ∙ e

pub found : {P : Type 0} (old new : Bool) (p : P) (rest whole : List P) → old ≡ false → new ≡ true → emit p old new rest ≡ whole → is_empty whole ≡ false
found true new p rest whole o n e = absurd (cc)
found false true p rest whole o n e = ap is_empty (sym e)
found false false p rest whole o n e = absurd (cc)

pub passed : {P : Type 0} (old new : Bool) (p : P) (rest whole : List P) → old ≡ false → new ≡ false → emit p old new rest ≡ whole → rest ≡ whole
passed true new p rest whole o n e = absurd (cc)
passed false true p rest whole o n e = absurd (cc)
passed false false p rest whole o n e = e
