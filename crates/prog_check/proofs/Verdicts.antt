-- The faults of a program, from their kinds.
use Rattle.std.proofs.Common.{◌≡◌, List, Some, None, sym, subst, ◌⊎◌, inl, inr}
use Rattle.std.specs.declared.option.Option.{Option}
use Rattle.f77_tree.specs.declared.unit.Unit.{Unit as SourceUnit}
use Rattle.call_cycles.specs.declared.marks.ProgramMark.{ProgramMark}
use Rattle.call_cycles.specs.Cycles.{HasCycle}
use Rattle.prog_check.specs.Initialised.{IsInitialisedAgain}
use Rattle.call_cycles.specs.Marks.{Earliest, first_of}
use Rattle.prog_check.specs.ProgramFaults as p
use Rattle.prog_check.specs.ProgramFaults.{MainFaults, TextFaults, LimitFaults, CallFaults, ProgramShows}
use Rattle.call_cycles.proofs.Firsts.{mapped, either}

module _ (units : List SourceUnit) where
  call_to : (m : ProgramMark) → TextFaults units m ⊎ HasCycle units m → CallFaults units m
  call_to m (inl h) = p.by_text h
  call_to m (inr h) = p.by_cycle h

  call_from : (m : ProgramMark) → CallFaults units m → TextFaults units m ⊎ HasCycle units m
  call_from m (p.by_text h) = inl h
  call_from m (p.by_cycle h) = inr h

  pub calls_found : (a b all : Option ProgramMark) → Earliest (TextFaults units) a → Earliest (HasCycle units) b → all ≡ first_of a b → Earliest (CallFaults units) all
  calls_found a b all h k e = subst (Earliest (CallFaults units)) (sym e) (mapped (λ m. TextFaults units m ⊎ HasCycle units m) (CallFaults units) (first_of a b) call_to call_from (either (TextFaults units) (HasCycle units) a b h k))

  abbrev Later : ProgramMark → Type 0
  Later m = IsInitialisedAgain units m ⊎ LimitFaults units m

  abbrev Others : ProgramMark → Type 0
  Others m = CallFaults units m ⊎ Later m

  any_to : (m : ProgramMark) → MainFaults units m ⊎ Others m → ProgramShows units m
  any_to m (inl h) = p.mains h
  any_to m (inr (inl h)) = p.calls h
  any_to m (inr (inr (inl h))) = p.initialised h
  any_to m (inr (inr (inr h))) = p.limits h

  any_from : (m : ProgramMark) → ProgramShows units m → MainFaults units m ⊎ Others m
  any_from m (p.mains h) = inl h
  any_from m (p.calls h) = inr (inl h)
  any_from m (p.initialised h) = inr (inr (inl h))
  any_from m (p.limits h) = inr (inr (inr h))

  pub program_found : (mains calls initial limits later others all : Option ProgramMark)
      → Earliest (MainFaults units) mains → Earliest (CallFaults units) calls → Earliest (IsInitialisedAgain units) initial → Earliest (LimitFaults units) limits
      → later ≡ first_of initial limits → others ≡ first_of calls later → all ≡ first_of mains others → Earliest (ProgramShows units) all
  program_found mains calls initial limits later others all m c i l e f g =
      let behind = subst (Earliest Later) (sym e) (either (IsInitialisedAgain units) (LimitFaults units) initial limits i l) in
      let rest = subst (Earliest Others) (sym f) (either (CallFaults units) Later calls later c behind) in
      let any = subst (Earliest (λ x. MainFaults units x ⊎ Others x)) (sym g) (either (MainFaults units) Others mains others m rest) in
      mapped (λ x. MainFaults units x ⊎ Others x) (ProgramShows units) all any_to any_from any
