-- The first fault of a unit out of those of its kinds.
use Rattle.std.proofs.Common.{◌≡◌, ◌⊎◌, inl, inr, sym, ap, ◌∙◌, subst}
use Rattle.std.specs.declared.option.Option.{Option}
use Rattle.f77_tree.specs.declared.fault.Refused.{Refused}
use Rattle.f77_tree.specs.declared.fault.Refused.TheVariants.{Fault, OutOfMemory}
use Rattle.f77_tree.specs.declared.unit.Unit.{Unit as SourceUnit}
use Rattle.fault_marks.specs.declared.marks.Mark.{Mark}
use Rattle.fault_marks.specs.Earliest.{first_of, Earliest}
use Rattle.fault_marks.specs.Marks.{IsFirst}
use Rattle.fault_marks.specs.Refusals.{RefusesMark}
use Rattle.fault_marks.proofs.Firsts.{mapped, either}
use Rattle.check_names.specs.NameFaults.{NameFaults}
use Rattle.check_jumps.specs.Faults.{JumpFaults}
use Rattle.check_types.specs.TypeFaults.{TypeFaults}
use Rattle.check_constants.specs.Faults.{ConstantFaults}
use Rattle.check_data.specs.Faults.{DataFaults}
use Rattle.f77_check.specs.UnitFaults.{UnitFaults, ValueFaults, of_names, of_jumps, of_types, of_constants, of_data, Explains}

pub values_found : (u : SourceUnit) (a b c : Option Mark) → Earliest (ConstantFaults u) a → Earliest (DataFaults u) b → c ≡ first_of a b → Earliest (ValueFaults u) c
values_found u a b c constants items e = subst (Earliest (ValueFaults u)) (sym e) (either (ConstantFaults u) (DataFaults u) a b constants items)

first_among : (u : SourceUnit) (a b c d : Option Mark) → Earliest (NameFaults u) a → Earliest (JumpFaults u.statements) b → Earliest (TypeFaults u) c → Earliest (ValueFaults u) d →
    Earliest (UnitFaults u) (first_of (first_of a b) (first_of c d))
first_among u a b c d names jumps types values =
    mapped (λ m. (NameFaults u m ⊎ JumpFaults u.statements m) ⊎ (TypeFaults u m ⊎ ValueFaults u m)) (UnitFaults u) (first_of (first_of a b) (first_of c d)) to from
    (either (λ m. NameFaults u m ⊎ JumpFaults u.statements m) (λ m. TypeFaults u m ⊎ ValueFaults u m) (first_of a b) (first_of c d)
    (either (NameFaults u) (JumpFaults u.statements) a b names jumps) (either (TypeFaults u) (ValueFaults u) c d types values))
  where
    to : (m : Mark) → (NameFaults u m ⊎ JumpFaults u.statements m) ⊎ (TypeFaults u m ⊎ ValueFaults u m) → UnitFaults u m
    to m (inl (inl h)) = of_names h
    to m (inl (inr h)) = of_jumps h
    to m (inr (inl h)) = of_types h
    to m (inr (inr (inl h))) = of_constants h
    to m (inr (inr (inr h))) = of_data h

    from : (m : Mark) → UnitFaults u m → (NameFaults u m ⊎ JumpFaults u.statements m) ⊎ (TypeFaults u m ⊎ ValueFaults u m)
    from m (of_names h) = inl (inl h)
    from m (of_jumps h) = inl (inr h)
    from m (of_types h) = inr (inl h)
    from m (of_constants h) = inr (inr (inl h))
    from m (of_data h) = inr (inr (inr h))

pub found : (u : SourceUnit) (a b c d ab cd all : Option Mark) → Earliest (NameFaults u) a → Earliest (JumpFaults u.statements) b → Earliest (TypeFaults u) c → Earliest (ValueFaults u) d →
    ab ≡ first_of a b → cd ≡ first_of c d → all ≡ first_of ab cd → Earliest (UnitFaults u) all
found u a b c d ab cd all names jumps types values e f g =
    subst (Earliest (UnitFaults u)) (sym (g ∙ (ap (λ x. first_of x cd) e ∙ ap (first_of (first_of a b)) f))) (first_among u a b c d names jumps types values)

pub refused : (e : Refused) (u : SourceUnit) (mark : Mark) → IsFirst (UnitFaults u) mark → RefusesMark e u.name mark → Explains e u
refused (Fault fault) u mark first told = record { mark = mark; first = first; told = told }
refused OutOfMemory u mark first told = tt
