-- The statuses as numbers, and the lines that tell of them.
use Rattle.std.specs.Prelude.{ℕ, zero, suc, ◌+◌, ◌/◌, ◌%◌, ◌==◌, nat_lt, List, [], ◌∷◌, ◌++◌, None, Some, if◌then◌else◌, codes, decimal}
use Rattle.std.specs.declared.option.Option.{Option}
use Rattle.f77_tree.specs.declared.fault.SourceFault.{SourceFault}
use Rattle.rv_machine.specs.declared.outcome.TrapCause.{TrapCause}
use Rattle.rv_machine.specs.declared.outcome.TrapCause.TheVariants.{Misaligned, Unmapped, UnknownWord, Breakpoint, UnknownCall}
use Rattle.rn_session.specs.declared.status.Status.{Status}
use Rattle.rn_session.specs.declared.status.Status.TheVariants.{Ok as Done, SourceFault as Faulty, BadWords, ReadFault, WriteFault, OutOfMemory, StepsSpent, Trapped}

-- the exit status of the process
abbrev pub number_of_status : Status → ℕ
number_of_status Done = 0
number_of_status (Faulty fault) = 1
number_of_status BadWords = 2
number_of_status ReadFault = 3
number_of_status WriteFault = 4
number_of_status OutOfMemory = 7
number_of_status StepsSpent = 13
number_of_status (Trapped pc cause) = 14

-- a unit's name, or `-` where the fault is of the text
abbrev pub unit_text : Option (List ℕ) → List ℕ
unit_text None = codes "-"
unit_text (Some name) = name

-- fault 37 tells the limit that was passed
abbrev pub limit_text : ℕ → ℕ → List ℕ
limit_text number limit = if number == 37 then codes " limit " ++ decimal limit else []

abbrev pub fault_line : SourceFault → List ℕ
fault_line fault =
    codes "fault " ++ decimal fault.number ++ codes " " ++ unit_text fault.place.unit
    ++ codes " line " ++ decimal fault.place.line ++ limit_text fault.number fault.limit ++ codes "\n"

-- the whole text of a refusal
abbrev pub refusal_text : Status → List ℕ
refusal_text (Faulty fault) = fault_line fault
refusal_text BadWords = codes "bad words\n"
refusal_text ReadFault = codes "read fault\n"
refusal_text OutOfMemory = codes "out of memory\n"
refusal_text status = []

-- a small hexadecimal digit
abbrev pub hex_digit : ℕ → ℕ
hex_digit d = if nat_lt d 10 then 48 + d else 87 + d

-- the lowest digits of a number, so many
unfoldable pub hex_digits : ℕ → ℕ → List ℕ
hex_digits zero n = []
hex_digits (suc k) n = hex_digits k (n / 16) ++ hex_digit (n % 16) ∷ []

abbrev pub number_of_cause : TrapCause → ℕ
number_of_cause Misaligned = 1
number_of_cause Unmapped = 2
number_of_cause UnknownWord = 3
number_of_cause Breakpoint = 4
number_of_cause UnknownCall = 5

-- the address of the instruction in 16 digits, and the cause
abbrev pub trap_text : ℕ → TrapCause → List ℕ
trap_text pc cause = hex_digits 16 pc ++ 32 ∷ (48 + number_of_cause cause) ∷ []
