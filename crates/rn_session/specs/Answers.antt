-- What `one STEPS` answers, and what the sink and the tally get.
use Rattle.std.specs.Prelude.{◌≡◌, ℕ, ℤ, ◌+◌, ◌*◌, ◌≤◌, ◌<◌, List, [], ◌∷◌, ◌++◌, length, None, Some, ◌⊎◌, IsNone, IfSome, codes}
use Rattle.std.specs.Io.KnownBytes.{Appends}
use Rattle.std.specs.declared.option.Option.{Option}
use Rattle.rn_ports.specs.Sent.{AppendsPart}
use Rattle.rn_ports.specs.declared.ports.Kind.{Kind}
use Rattle.rn_ports.specs.declared.ports.Kind.TheVariants.{Compile}
use Rattle.f77_tree.specs.declared.fault.SourceFault.{SourceFault}
use Rattle.f77_tree.specs.declared.fault.Refused.{Refused}
use Rattle.f77_tree.specs.declared.fault.Refused.TheVariants.{Fault, OutOfMemory as Starved}
use Rattle.thin_form.specs.declared.statement.Statement.{Statement}
use Rattle.thin_text.specs.Thin.{text_bytes}
use Rattle.run_inputs.specs.Inputs.{AllWord64}
use Rattle.rn_session.specs.Texts.{IsThinText, IsTextFault}
use Rattle.f77_semantics.specs.Source.{Source}
use Rattle.thin_code.specs.Sizes.{steps_each, words_each}
use Rattle.thin_code.specs.Agreement.{Agrees, EndsWithin, IsOrderly}
use Rattle.rv_machine.specs.Start.{Loads}
use Rattle.rv_machine.specs.Machine.{State}
use Rattle.rn_session.specs.declared.status.Status.{Status}
use Rattle.rn_session.specs.declared.status.Status.TheVariants.{Ok as Done, BadWords, ReadFault, WriteFault, OutOfMemory, StepsSpent, Trapped}
use Rattle.rn_session.specs.Words.{steps_of}
use Rattle.rn_session.specs.Replies.{Reply, run_reply, fault_reply, MayEnd}

-- A file that agrees with the program that a thin text is, by the runs of its units on inputs of integers of 64 bits. Its machine ends
-- within 64 instructions and 32 for each byte of the statement texts; the program itself ends with status 0 or never.
pub record IsFileOf (bytes file : List ℕ) : Type 0 where
  pub body : List Statement
  pub text : IsThinText bytes body
  pub orderly : (input : List ℤ) → AllWord64 input → (n : ℕ) → IsOrderly (Source text.trees input n)
  pub agrees : Agrees (Source text.trees) (steps_each body) (words_each body) file
  pub bound : EndsWithin file (64 + 32 * text_bytes text.units)

-- the greatest number of bytes of an input
abbrev pub input_limit : ℕ
input_limit = 67108864

-- the fault of an input above the limit
abbrev pub long_fault : ℕ → SourceFault
long_fault limit = record { number = 37; place = record { unit = None; line = 0 }; limit = limit }

-- the machine stands at the start of a file of the text
pub record StartsOn (bytes : List ℕ) (s : State) : Type 0 where
  pub file : List ℕ
  pub made : IsFileOf bytes file
  pub loads : Loads file [] s

-- the reply of a machine that was started on a file of the text and took so many steps
pub record IsRunOf (steps : ℕ) (bytes : List ℕ) (reply : Reply) : Type 0 where
  pub start : State
  pub starts : StartsOn bytes start
  pub replied : reply ≡ run_reply steps start

-- What `one STEPS` may reply to an input: the fault of a long one, that of a text that isn't a thin program, or the run of a file.
pub data MayReply (limit steps : ℕ) (left : Option (List ℕ)) (reply : Reply) : Type 0 where
  too_long : IfSome left (λ bytes. limit < length bytes) → reply ≡ fault_reply (long_fault limit) → MayReply limit steps left reply
  faulty : (bytes : List ℕ) → IfSome left (λ known. bytes ≡ known) → length bytes ≤ limit →
      (fault : SourceFault) → IsTextFault fault bytes → reply ≡ fault_reply fault → MayReply limit steps left reply
  ran : (bytes : List ℕ) → IfSome left (λ known. bytes ≡ known) → length bytes ≤ limit → IsRunOf steps bytes reply → MayReply limit steps left reply

-- What `one STEPS` may answer to these words and this input, the text of that answer, and of a reply what is written where.
pub data MayAnswer (limit : ℕ) (words : List (List ℕ)) (left old new : Option (List ℕ)) (status : Status) (text : List ℕ) : Type 0 where
  bad_words : IsNone (steps_of words) → status ≡ BadWords → text ≡ codes "bad words\n" → MayAnswer limit words left old new status text
  read_fault : status ≡ ReadFault → text ≡ codes "read fault\n" → MayAnswer limit words left old new status text
  out_of_memory : status ≡ OutOfMemory → text ≡ codes "out of memory\n" → MayAnswer limit words left old new status text
  replied : (steps : ℕ) (reply : Reply) → steps_of words ≡ Some steps → MayReply limit steps left reply → MayEnd reply old new status →
      text ≡ reply.output ++ reply.line → MayAnswer limit words left old new status text

-- The sink got the text of the answer, or a front of it where its count of faults rose.
pub record Answered (limit : ℕ) (words : List (List ℕ)) (left : Option (List ℕ)) (status : Status) (old new : Option (List ℕ)) (rose : Type 0) : Type 0 where
  pub text : List ℕ
  pub may : MayAnswer limit words left old new status text
  pub front : AppendsPart old new text
  pub whole : ¬ rose → Appends old new text

-- Without a fault of a port the answer is the reply's own, or want of memory.
pub data IsComplete (limit steps : ℕ) (left : Option (List ℕ)) (status : Status) : Type 0 where
  without_memory : status ≡ OutOfMemory → IsComplete limit steps left status
  with_reply : (reply : Reply) → MayReply limit steps left reply → status ≡ reply.status → IsComplete limit steps left status

-- the note that the main program was compiled
abbrev pub compiled : List (Kind × List ℕ)
compiled = (Compile, codes "MAIN") ∷ []

-- a text with a fault is not compiled, and memory may run out before or after
abbrev pub NotedAt : Refused → (old new : List (Kind × List ℕ)) → Type 0
NotedAt (Fault fault) old new = new ≡ old
NotedAt Starved old new = (new ≡ old) ⊎ (new ≡ old ++ compiled)

-- One Compile of MAIN is noted where a file was made, and nothing else.
abbrev pub Noted : Status → (old new : List (Kind × List ℕ)) → Type 0
Noted Done old new = new ≡ old ++ compiled
Noted StepsSpent old new = new ≡ old ++ compiled
Noted (Trapped pc cause) old new = new ≡ old ++ compiled
Noted WriteFault old new = new ≡ old ++ compiled
Noted OutOfMemory old new = (new ≡ old) ⊎ (new ≡ old ++ compiled)
Noted status old new = new ≡ old
