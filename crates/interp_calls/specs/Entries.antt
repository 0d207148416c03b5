-- Entries, by the steps of the bounds of dummy arrays.
use Rattle.std.specs.Prelude.{ℕ, suc, List, [], ◌∷◌, Bool, if◌then◌else◌}
use Rattle.run_model.specs.Storage.{Interval}
use Rattle.run_model.specs.Acts.{Act, Done, and_then}
use Rattle.interp_cells.specs.Rows.{is_marked}
use Rattle.f77_semantics.specs.declared.storage.Base.TheVariants.{Dummy}
use Rattle.f77_semantics.specs.Expressions.{Frame, interval, only_first}
use Rattle.f77_semantics.specs.Units.{with_shape}
use Rattle.interp_code.specs.Steps.{Operands, steps}
use Rattle.interp_code.specs.Entries.{shaped}
use Rattle.interp_lower.specs.Routines.{Dimensioned}

-- how many storage units the actual argument of a dummy has
abbrev pub long : Frame → ℕ → ℕ
long f dummy = (interval f (Dummy dummy) 0).length

-- the dummy array's shape by the operands that the steps of its bounds leave
abbrev pub fixed : Frame → ℕ → Operands → Act Frame
fixed f dummy s = and_then (shaped (long f dummy) s) (λ es. Done (with_shape dummy es f))

-- array by array
abbrev pub entry_by : Frame → List Dimensioned → Act Frame
entry_by f [] = Done f
entry_by f (a ∷ as_) = and_then (steps f a.1 []) (λ s. and_then (fixed f a.0 s) (λ g. entry_by g as_))

-- actual arguments of dummies, of which those that are arrays are marked
abbrev pub associated_by : List Bool → ℕ → List Interval → List Interval
associated_by arrays j [] = []
associated_by arrays j (i ∷ is) = (if is_marked arrays j then i else only_first i) ∷ associated_by arrays (suc j) is
