-- How a program's run can end.
use Rattle.std.specs.Prelude.{◌≡◌, ℕ, ◌≤◌, Option, Result, Ok, Err}
use Rattle.f77_tree.specs.declared.unit.Value.{Value}
use Rattle.interp_steps.specs.declared.stop.Stop.TheVariants.{Undefined, Stuck}
use Rattle.interp_calls.specs.declared.halt.Halt.{Halt}
use Rattle.interp_calls.specs.declared.halt.Halt.TheVariants.{Stop, WriteFault}

-- Undefined actions have the numbers 1 to 6.
pub record IsCause (c : ℕ) : Type 0 where
  pub least : 1 ≤ c
  pub most : c ≤ 6

-- A main program never returns, and no run is stuck.
abbrev pub IsEnd : Result (Option Value) Halt → Type 0
IsEnd (Ok value) = ⊥
IsEnd (Err (Stop (Undefined c))) = IsCause c
IsEnd (Err (Stop Stuck)) = ⊥
IsEnd (Err halt) = Unit {0}

-- the sink failed
abbrev pub IsFault : {M E : Type 0} → Result (Result (Option Value) Halt × M) E → Type 0
IsFault (Ok p) = p.0 ≡ Err WriteFault
IsFault (Err e) = ⊥
