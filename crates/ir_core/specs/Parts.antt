-- When a body is of a unit.
use Rattle.std.specs.Prelude.{ℕ, ◌+◌, Bool, true, ◌&&◌, nat_lt, nat_le}
use Rattle.std.specs.List.{list_all}
use Rattle.run_model.specs.Storage.{Name}
use Rattle.ir_core.specs.declared.instruction.Base.{Base}
use Rattle.ir_core.specs.declared.instruction.Base.TheVariants.{Dummy, Local, Common}
use Rattle.ir_core.specs.declared.instruction.Spot.{Spot}
use Rattle.ir_core.specs.declared.instruction.Instr.{Instr}
use Rattle.ir_core.specs.declared.instruction.Instr.TheVariants as instr
use Rattle.ir_core.specs.declared.block.Block.{Block}
use Rattle.ir_core.specs.Listings.{Listing}

-- what a body may name of its unit: so many dummies, units of the local area and of each COMMON block, and sites, which are numbered from 1
pub record Parts : Type 0 where
  pub dummies : ℕ
  pub locals : ℕ
  pub common : Name → ℕ
  pub sites : ℕ

abbrev pub has_units : Parts → Base → (length : ℕ) → Bool
has_units p (Dummy k) n = nat_lt k p.dummies
has_units p (Local from) n = nat_le (from + n) p.locals
has_units p (Common b from) n = nat_le (from + n) (p.common b)

abbrev pub has_spot : Parts → Spot → Bool
has_spot p s = has_units p s.base s.length

abbrev pub has_site : Parts → ℕ → Bool
has_site p s = nat_lt 0 s && nat_le s p.sites

-- a unit has at most 63 dummies
abbrev pub is_position : ℕ → Bool
is_position k = nat_lt k 63

abbrev pub has_instruction : Parts → Instr → Bool
has_instruction p (instr.Load t spot) = has_spot p spot
has_instruction p (instr.Store spot ty u) = has_spot p spot
has_instruction p (instr.Address t spot) = has_spot p spot
has_instruction p (instr.Fresh t seat ty u) = has_site p seat.site && is_position seat.position
has_instruction p (instr.Argument k u) = is_position k
has_instruction p (instr.Call site r) = has_site p site
has_instruction p _ = true

-- Its spots lie in the unit's storage, its sites are the unit's, and its arguments have positions that actual arguments have.
abbrev pub is_of : Parts → Listing → Bool
is_of p l = list_all (λ (b : Block). list_all (has_instruction p) b.code) l.blocks
