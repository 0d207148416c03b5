-- The trees of an accepted text are a program that can run.
use Rattle.std.proofs.Common.{◌≡◌, ℕ, Ok, Err, List, ◌∙◌, subst}
use Rattle.std.specs.Prelude.{IfOk}
use Rattle.std.specs.declared.result.Result.{Result}
use Rattle.f77_tree.specs.declared.unit.Unit.{Unit as SourceUnit}
use Rattle.fixed_form.specs.declared.reader.UnitText.{UnitText}
use Rattle.fixed_form.specs.Reading.{Reads}
use Rattle.rn_draft.specs.Accepted.{Accepted}
use Rattle.rn_draft.specs.Drafts.{drafted}
use Rattle.sound_units.specs.Accepted.{AllAreGood, NamesDiffer}
use Rattle.prog_check.specs.ProgramFaults.{IsAccepted}
use Rattle.sound_texts.specs.Laws.{AreSound, AcceptedAreSound}

sound_of : {E : Type 0} (found : Result (List SourceUnit) E) (lines : List (List ℕ)) (units draft slice : List UnitText) → AcceptedAreSound → Reads lines units → draft ≡ drafted units → slice ≡ draft → IfOk found (Accepted slice) → IfOk found AreSound
sound_of (Ok trees) lines units draft slice law reads is same h = law lines units trees reads (subst (λ us. Accepted us trees) (same ∙ is) h)
sound_of (Err e) lines units draft slice law reads is same h = tt

module _ {E : Type 0} where
  good : (found : Result (List SourceUnit) E) → IfOk found AreSound → IfOk found AllAreGood
  good (Ok trees) h = h.good
  good (Err e) h = tt

  differ : (found : Result (List SourceUnit) E) → IfOk found AreSound → IfOk found NamesDiffer
  differ (Ok trees) h = h.differ
  differ (Err e) h = tt

  whole : (found : Result (List SourceUnit) E) → IfOk found AreSound → IfOk found IsAccepted
  whole (Ok trees) h = h.whole
  whole (Err e) h = tt

pub good_of : {E : Type 0} (found : Result (List SourceUnit) E) (lines : List (List ℕ)) (units draft slice : List UnitText) → AcceptedAreSound → Reads lines units → draft ≡ drafted units → slice ≡ draft → IfOk found (Accepted slice) → IfOk found AllAreGood
good_of found lines units draft slice law reads is same h = good found (sound_of found lines units draft slice law reads is same h)

pub differ_of : {E : Type 0} (found : Result (List SourceUnit) E) (lines : List (List ℕ)) (units draft slice : List UnitText) → AcceptedAreSound → Reads lines units → draft ≡ drafted units → slice ≡ draft → IfOk found (Accepted slice) → IfOk found NamesDiffer
differ_of found lines units draft slice law reads is same h = differ found (sound_of found lines units draft slice law reads is same h)

pub whole_of : {E : Type 0} (found : Result (List SourceUnit) E) (lines : List (List ℕ)) (units draft slice : List UnitText) → AcceptedAreSound → Reads lines units → draft ≡ drafted units → slice ≡ draft → IfOk found (Accepted slice) → IfOk found IsAccepted
whole_of found lines units draft slice law reads is same h = whole found (sound_of found lines units draft slice law reads is same h)
