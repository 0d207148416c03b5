-- How the run of a program depends on its steps and on its input.
use Rattle.std.specs.Prelude.{◌≡◌, ℕ, ◌<◌, ◌≤◌, List, [], Some, Bool, true, false, ◌⊎◌, ℤ, slice_get}
use Rattle.std.specs.List.{list_any}
use Rattle.run_model.specs.Runs.{Run, Going, Finished, UndefinedAt}
use Rattle.f77_tree.specs.declared.form.Form.{Form, out-Form}
use Rattle.f77_tree.specs.declared.form.Form.TheOpen.{Form-F}
use Rattle.f77_tree.specs.declared.unit.Unit.{Unit as SourceUnit}
use Rattle.f77_values.specs.Tables.{Name}
use Rattle.f77_semantics.specs.Source.{main_of, Source}

-- ---- steps

-- a run that was stopped before a further step began
abbrev pub IsGoing : Run → Type 0
IsGoing (Going out) = Unit {0}
IsGoing _ = ⊥

-- With fewer steps than these the runs go on, and with so many or more each is this one.
pub record IsFrom (runs : ℕ → Run) (step : ℕ) (r : Run) : Type 0 where
  pub before : (m : ℕ) → m < step → IsGoing (runs m)
  pub from : (m : ℕ) → step ≤ m → runs m ≡ r

-- A run that doesn't go on came to be so at a step, one of those that it could begin.
abbrev pub StopsAtAStep : Type 0
StopsAtAStep = (units : List SourceUnit) (input : List ℤ) (n : ℕ) → IsGoing (Source units input n) ⊎ ((step : ℕ) × (step ≤ n) × IsFrom (Source units input) step (Source units input n))

-- So did one that ended.
abbrev pub EndsAtAStep : Type 0
EndsAtAStep = (units : List SourceUnit) (input : List ℤ) (n status : ℕ) (out : List ℕ) → Source units input n ≡ Finished status out → (step : ℕ) × (step ≤ n) × IsFrom (Source units input) step (Finished status out)

-- Of an undefined run that is the step that it tells.
abbrev pub UndefinedAtItsStep : Type 0
UndefinedAtItsStep = (units : List SourceUnit) (input : List ℤ) (n step cause : ℕ) (out : List ℕ) → Source units input n ≡ UndefinedAt step cause out → (step ≤ n) × IsFrom (Source units input) step (UndefinedAt step cause out)

-- No unit with this name has dummy arguments.
abbrev pub HasNoDummies : List SourceUnit → Name → Type 0
HasNoDummies units name = (k : ℕ) (u : SourceUnit) → slice_get units k ≡ Some u → u.name ≡ name → u.dummies ≡ []

-- Before its first step a program has done nothing. A main program has no dummy arguments, whose bounds could be undefined at the entry.
abbrev pub BeginsBeforeItsFirstStep : Type 0
BeginsBeforeItsFirstStep = (units : List SourceUnit) (main : SourceUnit) → main_of units ≡ Some main → HasNoDummies units main.name → (input : List ℤ) → Source units input 0 ≡ Going []

-- So no run stops at step 0.
abbrev pub StopsInAStep : Type 0
StopsInAStep = (units : List SourceUnit) (main : SourceUnit) → main_of units ≡ Some main → HasNoDummies units main.name → (input : List ℤ) (step : ℕ) (r : Run) → IsFrom (Source units input) step r → IsGoing r ⊎ (0 < step)

-- ---- the input

abbrev pub is_read : Form-F Form → Bool
is_read (Form-F.Read es) = true
is_read _ = false

-- a READ, or a logical IF with one. A logical IF in another is no statement.
abbrev pub has_read : Form-F Form → Bool
has_read (Form-F.LogicalIf e i) = is_read (out-Form i)
has_read form = is_read form

abbrev pub unit_reads : SourceUnit → Bool
unit_reads u = list_any (λ s. has_read (out-Form s.form)) u.statements

-- Without READ the input makes no difference.
abbrev pub InputIsWhatIsRead : Type 0
InputIsWhatIsRead = (units : List SourceUnit) → list_any unit_reads units ≡ false → (a b : List ℤ) (n : ℕ) → Source units a n ≡ Source units b n
