-- The faults of the four kinds together.
use Rattle.std.proofs.Common.{◌⊎◌, inl, inr}
use Rattle.std.specs.declared.option.Option.{Option}
use Rattle.f77_tree.specs.declared.unit.Unit.{Unit}
use Rattle.f77_names.specs.declared.facts.Facts.{Facts}
use Rattle.fault_marks.specs.declared.marks.Mark.{Mark}
use Rattle.fault_marks.specs.Earliest.{first_of, Earliest}
use Rattle.fault_marks.proofs.Firsts.{mapped, either}
use Rattle.check_names.specs.NameFaults.{ShowsConflict, ShowsUntyped, ShowsDisplaced, ShowsLarge, FaultsUnder}
use Rattle.check_names.specs.NameFaults.FaultsUnder.{conflict, untyped, displaced, large}

pub gathered : (f : Facts) (u : Unit) (a b c d : Option Mark) → Earliest (ShowsConflict f u) a → Earliest (ShowsUntyped f u) b → Earliest (ShowsDisplaced f u) c → Earliest (ShowsLarge f u) d → Earliest (FaultsUnder f u) (first_of (first_of a b) (first_of c d))
gathered f u a b c d ha hb hc hd =
    mapped _ (FaultsUnder f u) (first_of (first_of a b) (first_of c d)) to from
    (either (λ m. ShowsConflict f u m ⊎ ShowsUntyped f u m) (λ m. ShowsDisplaced f u m ⊎ ShowsLarge f u m) (first_of a b) (first_of c d)
    (either (ShowsConflict f u) (ShowsUntyped f u) a b ha hb) (either (ShowsDisplaced f u) (ShowsLarge f u) c d hc hd))
  where
    to : (m : Mark) → (ShowsConflict f u m ⊎ ShowsUntyped f u m) ⊎ (ShowsDisplaced f u m ⊎ ShowsLarge f u m) → FaultsUnder f u m
    to m (inl (inl x)) = conflict x
    to m (inl (inr x)) = untyped x
    to m (inr (inl x)) = displaced x
    to m (inr (inr x)) = large x

    from : (m : Mark) → FaultsUnder f u m → (ShowsConflict f u m ⊎ ShowsUntyped f u m) ⊎ (ShowsDisplaced f u m ⊎ ShowsLarge f u m)
    from m (conflict x) = inl (inl x)
    from m (untyped x) = inl (inr x)
    from m (displaced x) = inr (inl x)
    from m (large x) = inr (inr x)
