-- The first fault of units that initialise what an earlier one does.
use Rattle.std.proofs.Common.{◌≡◌, ◌<◌, ◌≤◌, ◌⊎◌, inl, inr, List, Some, None, true, refl, sym, ap, ◌∙◌, subst, arith}
use Rattle.std.specs.declared.option.Option.{Option}
use Rattle.std.specs.Option.{option_map}
use Rattle.std.proofs.lemmas.Bool.{cases_lt}
use Rattle.f77_tree.specs.declared.unit.Unit.{Unit as SourceUnit}
use Rattle.check_common.specs.declared.again.Again.{Again}
use Rattle.check_common.specs.Again.{IsAgain, IsFirstAgain, FirstAgain}
use Rattle.check_common.specs.Initials.{initials}
use Rattle.call_cycles.specs.declared.marks.ProgramMark.{ProgramMark}
use Rattle.prog_check.specs.Initialised.{mark_of, IsInitialisedAgain}
use Rattle.call_cycles.specs.Marks.{comes_first, Earliest}
use Rattle.call_cycles.specs.Marks.{mark_at}
use Rattle.call_cycles.proofs.Firsts.{earlier_unit, earlier_line}

module _ (units : List SourceUnit) where
  -- of two, by unit and then by line
  before : (a : Again) → IsFirstAgain (initials units) a → (b : Again) → IsAgain (initials units) b → comes_first (mark_of a) (mark_of b) ≡ true
  before a h b k = go (cases_lt a.place b.place)
    where
      go : (a.place < b.place) ⊎ (b.place ≤ a.place) → comes_first (mark_of a) (mark_of b) ≡ true
      go (inl l) = earlier_unit 36 0 a.place b.place a.line b.line l
      go (inr l) =
          let f = h.first_unit b k in
          let e : b.place ≡ a.place = omega (arith, f, l) in
          ap (λ p. comes_first (mark_of a) (mark_at 36 0 (Some p) b.line)) e ∙ earlier_line 36 0 a.place a.line b.line (h.first_line b k e)

  pub initial_found : (found : Option Again) (mark : Option ProgramMark) → FirstAgain (initials units) found → mark ≡ option_map mark_of found → Earliest (IsInitialisedAgain units) mark
  initial_found None mark h e = subst (Earliest (IsInitialisedAgain units)) (sym e) (λ other k. h k.again k.initialises)
  initial_found (Some a) mark h e = subst (Earliest (IsInitialisedAgain units)) (sym e) (record {
    shows = record { again = a; initialises = h.initialises; mark_is = refl };
    first = λ other k. ap (comes_first (mark_of a)) k.mark_is ∙ before a h k.again k.initialises;
  })
