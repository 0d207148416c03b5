-- The value of a cell that a value was stored to.
use Rattle.std.proofs.Common.{◌≡◌, refl}
use Rattle.f77_tree.specs.declared.unit.Value.{Value}
use Rattle.f77_tree.specs.declared.unit.Value.TheVariants.{Integer, Logical}
use Rattle.f77_semantics.specs.Values.{stored, seen}

pub seen_stored : (v : Value) → seen (stored v) ≡ v
seen_stored (Integer x) = refl
seen_stored (Logical b) = refl
