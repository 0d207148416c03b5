-- What a run replies.
use Rattle.std.specs.Prelude.{◌≡◌, ◌≢◌, ℕ, Bool, false, List, [], ◌∷◌, ◌++◌, if◌then◌else◌, codes, decimal}
use Rattle.std.specs.Io.KnownBytes.{Appends}
use Rattle.std.specs.declared.option.Option.{Option}
use Rattle.rn_ports.specs.Sent.{AppendsPart}
use Rattle.f77_tree.specs.declared.fault.SourceFault.{SourceFault}
use Rattle.rv_machine.specs.declared.outcome.Outcome.{Outcome}
use Rattle.rv_machine.specs.declared.outcome.Outcome.TheVariants.{Running, Halted, Trap}
use Rattle.rv_machine.specs.Lines.{within_line}
use Rattle.rv_machine.specs.Machine.{State, run, output}
use Rattle.rn_session.specs.declared.status.Status.{Status}
use Rattle.rn_session.specs.declared.status.Status.TheVariants.{Ok as Done, SourceFault as Faulty, WriteFault, StepsSpent, Trapped}
use Rattle.rn_session.specs.Statuses.{fault_line, trap_text}

-- the output of a run, the status, and the text that follows the output
pub record Reply : Type 0 where
  pub output : List ℕ
  pub status : Status
  pub line : List ℕ

abbrev pub status_at : Outcome → Status
status_at Running = StepsSpent
status_at (Halted k) = Done
status_at (Trap pc cause) = Trapped pc cause

abbrev pub line_at : Outcome → List ℕ
line_at Running = codes "steps spent\n"
line_at (Halted k) = codes "ended " ++ decimal k ++ codes "\n"
line_at (Trap pc cause) = codes "trapped " ++ trap_text pc cause ++ codes "\n"

-- A line begins a line: where it follows a text that stands within one, a line end comes before it.
abbrev pub begun : Bool → List ℕ → List ℕ
begun within line = if within then 10 ∷ line else line

-- a line behind an output
abbrev pub behind : List ℕ → List ℕ → List ℕ
behind out line = begun (within_line false out) line

-- the reply of a machine that stands so after so many steps
abbrev pub run_reply : ℕ → State → Reply
run_reply steps s = record {
  output = output steps s;
  status = status_at (run steps s).outcome;
  line = behind (output steps s) (line_at (run steps s).outcome);
}

abbrev pub fault_reply : SourceFault → Reply
fault_reply fault = record { output = []; status = Faulty fault; line = fault_line fault }

-- The known bytes grew by an output and behind it a front of a line.
pub record AppendsLine (old new : Option (List ℕ)) (output line : List ℕ) : Type 0 where
  pub front : List ℕ
  pub rest : List ℕ
  pub cut : line ≡ front ++ rest
  pub grew : Appends old new (output ++ front)

-- What is written of a reply, and what is answered: its own status where the whole output was written, also where the sink failed
-- in the line; but where a run that ended wasn't told, and where the sink failed in the output, that.
pub data MayEnd (reply : Reply) (old new : Option (List ℕ)) (status : Status) : Type 0 where
  own : status ≡ reply.status → AppendsLine old new reply.output reply.line → MayEnd reply old new status
  in_line : status ≡ WriteFault → reply.status ≡ Done → AppendsLine old new reply.output reply.line → MayEnd reply old new status
  in_output : status ≡ WriteFault → reply.output ≢ [] → AppendsPart old new reply.output → MayEnd reply old new status
