-- Which status comes to an input, where it is no fault of a port and no want of memory.
use Rattle.std.specs.Prelude.{◌≡◌, ◌≢◌, ◌↔◌, ℕ, ◌<◌, ◌≤◌, List, length}
use Rattle.f77_tree.specs.declared.fault.SourceFault.{SourceFault}
use Rattle.thin_form.specs.declared.statement.Statement.{Statement}
use Rattle.rv_machine.specs.declared.outcome.Outcome.{Outcome}
use Rattle.rv_machine.specs.declared.outcome.Outcome.TheVariants.{Running, Halted, Trap}
use Rattle.rv_machine.specs.declared.outcome.TrapCause.{TrapCause}
use Rattle.rv_machine.specs.Machine.{State, run}
use Rattle.rn_session.specs.declared.status.Status.{Status}
use Rattle.rn_session.specs.declared.status.Status.TheVariants.{Ok as Done, SourceFault as Faulty, StepsSpent, Trapped}
use Rattle.rn_session.specs.Texts.{IsThinText, IsTextFault}
use Rattle.rn_session.specs.Answers.{StartsOn, long_fault}

-- the fault of an input: that of a long one, or that of a text that isn't a thin program
pub data HasFault (limit : ℕ) (bytes : List ℕ) (fault : SourceFault) : Type 0 where
  of_length : limit < length bytes → fault ≡ long_fault limit → HasFault limit bytes fault
  of_text : length bytes ≤ limit → IsTextFault fault bytes → HasFault limit bytes fault

-- an input that is a thin program
pub record IsProgramText (limit : ℕ) (bytes : List ℕ) : Type 0 where
  pub within : length bytes ≤ limit
  pub body : List Statement
  pub text : IsThinText bytes body

abbrev pub HasHalted : Outcome → Type 0
HasHalted (Halted k) = Unit {0}
HasHalted _ = ⊥

-- A machine was started on a file of the text, and the status is exactly the one in which so many steps left it.
pub record IsStatusOfRun (steps : ℕ) (bytes : List ℕ) (status : Status) : Type 0 where
  pub start : State
  pub starts : StartsOn bytes start
  pub done : (status ≡ Done) ↔ HasHalted (run steps start).outcome
  pub spent : (status ≡ StepsSpent) ↔ ((run steps start).outcome ≡ Running)
  pub trapped : (pc : ℕ) (cause : TrapCause) → (status ≡ Trapped pc cause) ↔ ((run steps start).outcome ≡ Trap pc cause)

-- A fault is told exactly where the input has it. Every other input is a program, and the status that of its run.
pub record IsExact (limit steps : ℕ) (bytes : List ℕ) (status : Status) : Type 0 where
  pub fault : (fault : SourceFault) → (status ≡ Faulty fault) ↔ HasFault limit bytes fault
  pub program : ((fault : SourceFault) → status ≢ Faulty fault) → IsProgramText limit bytes
  pub ran : IsProgramText limit bytes → IsStatusOfRun steps bytes status
