-- What the status of `one STEPS` says of the source, by the runs of the text's units.
use Rattle.std.specs.Prelude.{◌≡◌, ℕ, ◌+◌, ◌*◌, ◌<◌, List, [], ◌++◌, codes, decimal}
use Rattle.std.specs.Io.KnownBytes.{Appends}
use Rattle.std.specs.declared.option.Option.{Option}
use Rattle.run_model.specs.Runs.{Finished, Begins, text_of}
use Rattle.f77_tree.specs.declared.unit.Unit.{Unit as SourceUnit}
use Rattle.f77_semantics.specs.Source.{Source}
use Rattle.thin_form.specs.declared.statement.Statement.{Statement}
use Rattle.thin_code.specs.Sizes.{steps_each, words_each}
use Rattle.thin_code.specs.Agreement.{IsUndefined}
use Rattle.rv_machine.specs.declared.outcome.TrapCause.{TrapCause}
use Rattle.rn_session.specs.declared.status.Status.{Status}
use Rattle.rn_session.specs.declared.status.Status.TheVariants.{Ok as Done, StepsSpent, Trapped}
use Rattle.rn_session.specs.Statuses.{trap_text}
use Rattle.rn_session.specs.Replies.{behind, AppendsLine}
use Rattle.thin_text.specs.Thin.{text_bytes}
use Rattle.rn_session.specs.Texts.{IsThinText}

-- The program meets no undefined action, whatever number of steps it is given.
abbrev pub IsDefined : List SourceUnit → Type 0
IsDefined trees = (n : ℕ) → IsUndefined (Source trees [] n) → ⊥

-- The program ends with this status and this output.
pub record Finishes (trees : List SourceUnit) (status : ℕ) (out : List ℕ) : Type 0 where
  pub steps : ℕ
  pub ends : Source trees [] steps ≡ Finished status out

-- The sink got an output and `ended K`. Where the program is defined that is its whole output, and K is 0, its status.
pub record RanToTheEnd (bytes : List ℕ) (old new : Option (List ℕ)) : Type 0 where
  pub body : List Statement
  pub text : IsThinText bytes body
  pub status : ℕ
  pub out : List ℕ
  pub wrote : Appends old new (out ++ behind out (codes "ended " ++ decimal status ++ codes "\n"))
  pub whole : IsDefined text.trees → Finishes text.trees status out
  pub zero : IsDefined text.trees → status ≡ 0

-- The sink got an output, and behind it the line of spent steps as far as it took that. Where the program is defined the output is a beginning of
-- what it prints in (STEPS + 1) * L steps. STEPS is below the number of instructions by which every program of this length has ended,
-- and below n * W + 2 where this one ends at step n.
pub record RanOutOfSteps (steps : ℕ) (bytes : List ℕ) (old new : Option (List ℕ)) : Type 0 where
  pub body : List Statement
  pub text : IsThinText bytes body
  pub out : List ℕ
  pub wrote : AppendsLine old new out (behind out (codes "steps spent\n"))
  pub begins : IsDefined text.trees → Begins out (text_of (Source text.trees [] ((steps + 1) * steps_each body)))
  pub few : steps < 64 + 32 * text_bytes text.units
  pub late : (n status : ℕ) (ended : List ℕ) → Source text.trees [] n ≡ Finished status ended → steps < n * words_each body + 2

-- The sink got an output, and behind it the line of the trap as far as it took that. The program meets an undefined action.
pub record RanIntoATrap (pc : ℕ) (cause : TrapCause) (bytes : List ℕ) (old new : Option (List ℕ)) : Type 0 where
  pub body : List Statement
  pub text : IsThinText bytes body
  pub out : List ℕ
  pub wrote : AppendsLine old new out (behind out (codes "trapped " ++ trap_text pc cause ++ codes "\n"))
  pub steps : ℕ
  pub undefined : IsUndefined (Source text.trees [] steps)

-- What a status says of the program, where it says something.
abbrev pub SaysOfSource : Status → (steps : ℕ) → (bytes : List ℕ) → (old new : Option (List ℕ)) → Type 0
SaysOfSource Done steps bytes old new = RanToTheEnd bytes old new
SaysOfSource StepsSpent steps bytes old new = RanOutOfSteps steps bytes old new
SaysOfSource (Trapped pc cause) steps bytes old new = RanIntoATrap pc cause bytes old new
SaysOfSource status steps bytes old new = Unit {0}
