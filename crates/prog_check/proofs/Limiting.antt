-- The faults on limits, from their kinds.
use Rattle.std.proofs.Common.{◌≡◌, List, Some, None, refl, sym, subst, ◌⊎◌, inl, inr}
use Rattle.std.specs.declared.option.Option.{Option}
use Rattle.f77_tree.specs.declared.unit.Unit.{Unit as SourceUnit}
use Rattle.prog_check.specs.declared.limits.Measure.TheVariants.{Tokens, Weight}
use Rattle.call_cycles.specs.declared.marks.ProgramMark.{ProgramMark}
use Rattle.prog_check.specs.Limits.{HasManyUnits, Passes, HasMuchStorage, measured, limit_of, most_tokens, most_weight}
use Rattle.call_cycles.specs.Marks.{Earliest, first_of}
use Rattle.prog_check.specs.ProgramFaults as p
use Rattle.prog_check.specs.ProgramFaults.{LimitFaults}
use Rattle.prog_check.specs.Scans.{passing}
use Rattle.call_cycles.proofs.Firsts.{mapped, either}
use Rattle.prog_check.proofs.Counting.{passing_found}

module _ (units : List SourceUnit) where
  abbrev Toks : ProgramMark → Type 0
  Toks = Passes (measured Tokens) most_tokens units

  abbrev Weights : ProgramMark → Type 0
  Weights = Passes (measured Weight) most_weight units

  to : (m : ProgramMark) → HasManyUnits units m ⊎ (Toks m ⊎ (Weights m ⊎ HasMuchStorage units m)) → LimitFaults units m
  to m (inl h) = p.many_units h
  to m (inr (inl h)) = p.many_tokens h
  to m (inr (inr (inl h))) = p.much_weight h
  to m (inr (inr (inr h))) = p.much_storage h

  from : (m : ProgramMark) → LimitFaults units m → HasManyUnits units m ⊎ (Toks m ⊎ (Weights m ⊎ HasMuchStorage units m))
  from m (p.many_units h) = inl h
  from m (p.many_tokens h) = inr (inl h)
  from m (p.much_weight h) = inr (inr (inl h))
  from m (p.much_storage h) = inr (inr (inr h))

  pub limits_found : (many tokens weight storage sums heavy all : Option ProgramMark) → Earliest (HasManyUnits units) many
      → tokens ≡ passing (measured Tokens) (limit_of Tokens) 0 0 units → weight ≡ passing (measured Weight) (limit_of Weight) 0 0 units → Earliest (HasMuchStorage units) storage
      → heavy ≡ first_of weight storage → sums ≡ first_of tokens heavy → all ≡ first_of many sums → Earliest (LimitFaults units) all
  limits_found many tokens weight storage sums heavy all m t w s h u a =
      let ts = subst (Earliest Toks) (sym t) (passing_found (measured Tokens) most_tokens units) in
      let ws = subst (Earliest Weights) (sym w) (passing_found (measured Weight) most_weight units) in
      let heavies = subst (Earliest (λ x. Weights x ⊎ HasMuchStorage units x)) (sym h) (either Weights (HasMuchStorage units) weight storage ws s) in
      let both = subst (Earliest (λ x. Toks x ⊎ (Weights x ⊎ HasMuchStorage units x))) (sym u) (either Toks (λ x. Weights x ⊎ HasMuchStorage units x) tokens heavy ts heavies) in
      let any = subst (Earliest (λ x. HasManyUnits units x ⊎ (Toks x ⊎ (Weights x ⊎ HasMuchStorage units x)))) (sym a) (either (HasManyUnits units) (λ x. Toks x ⊎ (Weights x ⊎ HasMuchStorage units x)) many sums m both) in
      mapped (λ x. HasManyUnits units x ⊎ (Toks x ⊎ (Weights x ⊎ HasMuchStorage units x))) (LimitFaults units) all to from any
