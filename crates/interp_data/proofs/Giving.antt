-- What DATA gives, run by run.
use Rattle.std.proofs.Common.{◌≡◌, ℕ, ℤ, suc, zero, ◌+◌, List, [], refl, ap, arith, append_assoc, append-nil}
use Rattle.std.specs.List.{repeat}
use Rattle.std.proofs.lemmas.Grind.{flat_map-append}
use Rattle.f77_tree.specs.declared.unit.Value.{Value}
use Rattle.f77_semantics.specs.declared.storage.Base.TheVariants.{Common, Dummy, Own}
use Rattle.f77_semantics.specs.declared.storage.Bounds.{Bounds}
use Rattle.f77_semantics.specs.declared.storage.Base.{Base}
use Rattle.f77_semantics.specs.declared.storage.Bounds.TheVariants.{AtEntry, Known}
use Rattle.f77_semantics.specs.Data.{beyond, unit_at, element_in}
use Rattle.interp_data.specs.Spans.{element_number}

pub beyond-none : (b : Base) → beyond b 0 ≡ b
beyond-none (Dummy k) = refl
beyond-none (Own from) = let e : from + 0 ≡ from = omega arith in ap Own e
beyond-none (Common block from) = let e : from + 0 ≡ from = omega arith in ap (Common block) e

pub repeat-none : (n : ℕ) → repeat {A = Value} n [] ≡ []
repeat-none zero = refl
repeat-none (suc n) = repeat-none n

pub element_in-number : (b : Base) (bounds : Bounds) (is : List ℤ) → element_in b bounds is ≡ unit_at b (element_number bounds is)
element_in-number b (Known extents) is = refl
element_in-number b (AtEntry k) is = refl

pub ruleset giving = (flat_map-append, append_assoc, append-nil, beyond-none, repeat-none, element_in-number)
