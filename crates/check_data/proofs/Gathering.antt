-- The first fault of a unit in DATA, from those of each kind.
use Rattle.std.proofs.Common.{◌≡◌, ◌⊎◌, inl, inr, subst, sym}
use Rattle.std.specs.declared.option.Option.{Option}
use Rattle.f77_tree.specs.declared.unit.Unit.{Unit}
use Rattle.fault_marks.specs.declared.marks.Mark.{Mark}
use Rattle.fault_marks.specs.Earliest.{Earliest, first_of}
use Rattle.fault_marks.specs.Places.{ShowsAt}
use Rattle.fault_marks.proofs.Firsts.{mapped, either}
use Rattle.check_data.specs.Faults.{DataFaults, data_wrong, initialises_twice, DataWrong, InitialisesTwice}

module _ (u : Unit) where
  abbrev Data : Mark → Type 0
  Data m = ShowsAt u.statements (DataWrong u) 23 0 m

  abbrev Twice : Mark → Type 0
  Twice m = ShowsAt u.statements (InitialisesTwice u) 23 0 m

  to : (m : Mark) → Data m ⊎ Twice m → DataFaults u m
  to m (inl h) = data_wrong h
  to m (inr h) = initialises_twice h

  from : (m : Mark) → DataFaults u m → Data m ⊎ Twice m
  from m (data_wrong h) = inl h
  from m (initialises_twice h) = inr h

  pub gathered : (a b c : Option Mark) → Earliest Data a → Earliest Twice b → c ≡ first_of a b → Earliest (DataFaults u) c
  gathered a b c f g is_c =
      subst (Earliest (DataFaults u)) (sym is_c) (mapped (λ m. Data m ⊎ Twice m) (DataFaults u) (first_of a b) to from (either Data Twice a b f g))
