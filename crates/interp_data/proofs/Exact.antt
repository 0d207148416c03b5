-- The meaning that stands for something is the only one.
use Rattle.std.proofs.Common.{◌≡◌, refl, sym, ap, ◌∙◌}
use Rattle.f77_semantics.specs.Terms as terms
use Rattle.f77_semantics.specs.Terms.{Meant}
use Rattle.interp_data.specs.declared.meaning.Meaning.{Meaning}
use Rattle.interp_data.specs.declared.meaning.Meaning.TheVariants.{Constant, Variable, Array, Function, Intrinsic, Unknown}
use Rattle.interp_data.specs.Meanings.{meant_of, meaning_as}

pub meant-there : (x : Meant) → meant_of (meaning_as x) ≡ x
meant-there (terms.Constant v) = refl
meant-there (terms.Variable ty b) = refl
meant-there (terms.AnArray ty a) = refl
meant-there terms.Function = refl
meant-there (terms.AnIntrinsic i) = refl
meant-there terms.Unknown = refl

meant-back : (m : Meaning) → meaning_as (meant_of m) ≡ m
meant-back (Constant v) = refl
meant-back (Variable ty b) = refl
meant-back (Array ty a) = refl
meant-back Function = refl
meant-back (Intrinsic i) = refl
meant-back Unknown = refl

-- a meaning by what it stands for
pub only_meaning : {m : Meaning} {x : Meant} → meant_of m ≡ x → m ≡ meaning_as x
only_meaning {m} {x} e = sym (meant-back m) ∙ ap meaning_as e
