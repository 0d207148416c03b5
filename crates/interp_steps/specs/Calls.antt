-- Which steps are calls.
use Rattle.std.specs.Prelude.{Bool, true, false}
use Rattle.interp_code.specs.declared.step.Step.{Step}
use Rattle.interp_code.specs.declared.step.Step.TheVariants.{Refer, Perform}

abbrev pub calls : Step → Bool
calls (Refer site) = true
calls (Perform site) = true
calls _ = false
