-- Steps that are no calls.
use Rattle.std.proofs.Common.{◌≡◌, ℕ, false, refl}
use Rattle.interp_code.specs.declared.step.Step.{Step}
use Rattle.interp_code.specs.declared.step.Step.TheVariants.{Refer, Perform}
use Rattle.interp_steps.specs.Calls.{calls}

pub no_call : (s : Step) → ((site : ℕ) → s ≡ Refer site → ⊥) → ((site : ℕ) → s ≡ Perform site → ⊥) → calls s ≡ false
no_call (Refer site) refers performs = absurd (refers site refl)
no_call (Perform site) refers performs = absurd (performs site refl)
no_call _ refers performs = refl
