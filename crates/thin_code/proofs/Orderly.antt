-- What a program's run can come to.
use Rattle.std.proofs.Common.{ℕ, suc, ℤ, List, [], refl, sym, ap, subst, arith}
use Rattle.run_model.specs.Acts.{Outcome, Answer, no_calls}
use Rattle.run_model.specs.Turns.{turns}
use Rattle.run_model.specs.Runs.{answer}
use Rattle.thin_form.specs.declared.statement.Statement.{Statement}
use Rattle.thin_form.specs.Programs.{IsProgram}
use Rattle.rv_machine.specs.Memory.{Memory}
use Rattle.thin_code.specs.Layout.{names_of}
use Rattle.thin_code.specs.Meaning.{Source, fresh}
use Rattle.thin_code.specs.Code.{Frame, frame_of}
use Rattle.thin_code.specs.Agreement.{IsOrderly}
use Rattle.thin_code.proofs.Sourced.{Holds}
use Rattle.thin_code.proofs.Stepped.{Comes, going, ended, undefined, comes, turn_of}
use Rattle.thin_code.proofs.Placed.{sound}

-- no cell is defined at the start
pub nothing_holds : (f : Frame) (input : List ℤ) (n : ℕ) (m : Memory) → Holds f (fresh input n).cells m
nothing_holds f input n m = record { holds = λ o x l e. absurd (cc) }

pub orderly : (body : List Statement) → IsProgram body → (input : List ℤ) (n : ℕ) → IsOrderly (Source body input n)
orderly body p input n =
    go (turns no_calls (turn_of (frame_of body) body) (suc n) 0 (fresh input n))
    (comes (frame_of body) body [] p.front p.ends p.plain (sound (frame_of body) p.front (ap names_of p.ends) p.plain) n (suc n) (omega arith) (λ a. 0) (fresh input n) refl (nothing_holds (frame_of body) input n (λ a. 0)))
  where
    go : (o : Outcome Answer) → Comes (frame_of body) p.front n (λ a. 0) (fresh input n) o → IsOrderly (answer n o)
    go o (going v l e t) = subst (λ o. IsOrderly (answer n o)) (sym e) tt
    go o (ended v l e t) = subst (λ o. IsOrderly (answer n o)) (sym e) refl
    go o (undefined c v e) = subst (λ o. IsOrderly (answer n o)) (sym e) tt
