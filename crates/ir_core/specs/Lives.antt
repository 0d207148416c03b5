-- Where temporaries are live, and places that keep those apart that are live at once.
use Rattle.std.specs.Prelude.{◌≡◌, ℕ, List, [], ◌∷◌, Option, Some, None, slice_get, slice_index_or}
use Rattle.std.specs.List.{Contains}
use Rattle.ir_core.specs.declared.instruction.Instr.{Instr}
use Rattle.ir_core.specs.declared.block.End.{End}
use Rattle.ir_core.specs.declared.block.Block.{Block}
use Rattle.ir_core.specs.declared.places.Places.{Places}
use Rattle.ir_core.specs.Uses.{reads, writes, end_reads, goes_to}
use Rattle.ir_core.specs.Listings.{Listing}

-- The temporary's content before these instructions and this end is read by one of them, or behind the end, before it is written.
pub data Live (l : Listing) (t : ℕ) : List Instr → End → Type 0 where
  Read : (i : Instr) (is : List Instr) (e : End) → Contains (reads i) t → Live l t (i ∷ is) e
  Kept : (i : Instr) (is : List Instr) (e : End) → (writes i ≡ Some t → ⊥) → Live l t is e → Live l t (i ∷ is) e
  Ended : (e : End) → Contains (end_reads e) t → Live l t [] e
  Onward : (e : End) (k : ℕ) (b : Block) → Contains (goes_to e) k → slice_get l.blocks k ≡ Some b → Live l t b.code b.end → Live l t [] e

abbrev pub register : Places → ℕ → Option ℕ
register p t = slice_index_or p.registers t None

-- Two temporaries that are live at once have no register in common.
abbrev pub AreApart : Listing → Places → Type 0
AreApart l p = (t u r : ℕ) (is : List Instr) (e : End) → Live l t is e → Live l u is e → register p t ≡ Some r → register p u ≡ Some r → t ≡ u
