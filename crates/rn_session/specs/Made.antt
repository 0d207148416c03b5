-- What is made of a text on the way to its file.
use Rattle.std.specs.Prelude.{◌≡◌, ℕ, ◌≤◌, List, sum_by}
use Rattle.f77_tree.specs.declared.fault.Refused.{Refused}
use Rattle.f77_tree.specs.declared.fault.Refused.TheVariants.{Fault, OutOfMemory as Starved}
use Rattle.thin_form.specs.declared.statement.Statement.{Statement}
use Rattle.thin_form.specs.Programs.{size_of}
use Rattle.thin_text.specs.declared.thin.Thin.{Thin}
use Rattle.thin_text.specs.declared.thin.Thin.TheVariants.{Broken, Nothing}
use Rattle.thin_text.specs.Thin.{text_bytes}
use Rattle.rn_session.specs.Texts.{IsThinText}

-- The statements are spelled in the text, so they have no more bytes than it.
pub record IsSizedText (bytes : List ℕ) (body : List Statement) : Type 0 where
  pub text : IsThinText bytes body
  pub size : sum_by size_of body ≤ text_bytes text.units

abbrev pub IsKnown : Thin → Type 0
IsKnown Nothing = ⊥
IsKnown _ = Unit {0}

-- the refusal of what isn't thin
abbrev pub Breaks : Refused → Thin → Type 0
Breaks (Fault fault) thin = thin ≡ Broken fault
Breaks Starved thin = Unit {0}
