-- What the trees of a text are, and what their program does.
use Rattle.std.specs.Prelude.{◌≡◌, ℕ, ℤ, List, Some, slice_get}
use Rattle.f77_tree.specs.declared.unit.Unit.{Unit as SourceUnit}
use Rattle.fixed_form.specs.declared.reader.UnitText.{UnitText}
use Rattle.fixed_form.specs.Reading.{Reads}
use Rattle.f77_parse.specs.Parsed.{IsUnit, IsFaultless}
use Rattle.f77_parse.specs.Statements.{EndsUnit}
use Rattle.run_model.specs.Runs.{Wrong}
use Rattle.f77_semantics.specs.Source.{Source}
use Rattle.sound_units.specs.Accepted.{IsTextOf, AllAreGood, NamesDiffer}
use Rattle.prog_check.specs.ProgramFaults as program
use Rattle.rn_draft.specs.Accepted.{Accepted}
use Rattle.rn_draft.specs.Drafts.{drafted}

-- The tree of a unit that ends by END and has no fault of its own is one that a text gives.
abbrev pub TreesAreTexts : Type 0
TreesAreTexts = (u : UnitText) (unit : SourceUnit) → EndsUnit u → IsUnit u unit → IsFaultless u → IsTextOf unit

-- The units of a draft have different names.
abbrev pub DraftsDiffer : Type 0
DraftsDiffer = (units : List UnitText) (i j : ℕ) (u v : UnitText) → slice_get (drafted units) i ≡ Some u → slice_get (drafted units) j ≡ Some v → u.name ≡ v.name → i ≡ j

-- units that a text gave and that passed all checks, with different names
pub record AreSound (trees : List SourceUnit) : Type 0 where
  pub good : AllAreGood trees
  pub differ : NamesDiffer trees
  pub whole : program.IsAccepted trees

abbrev pub AcceptedAreSound : Type 0
AcceptedAreSound = (lines : List (List ℕ)) (units : List UnitText) (trees : List SourceUnit) → Reads lines units → Accepted (drafted units) trees → AreSound trees

-- The program of an accepted text is never stuck: on no input, and for no number of steps, does it stand before what has no meaning.
abbrev pub AcceptedAreNeverStuck : Type 0
AcceptedAreNeverStuck = (lines : List (List ℕ)) (units : List UnitText) (trees : List SourceUnit) → Reads lines units → Accepted (drafted units) trees → (input : List ℤ) (n : ℕ) → Source trees input n ≡ Wrong → ⊥
