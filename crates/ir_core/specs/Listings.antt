-- What a body is, and what every body keeps to.
use Rattle.std.specs.Prelude.{ℕ, List, Option, Some, None, Bool, true, not, ◌&&◌, nat_eq, nat_lt, length, if◌then◌else◌}
use Rattle.std.specs.List.{list_all}
use Rattle.ir_core.specs.declared.instruction.Base.{Base}
use Rattle.ir_core.specs.declared.instruction.Base.TheVariants.{Dummy}
use Rattle.ir_core.specs.declared.instruction.Spot.{Spot}
use Rattle.ir_core.specs.declared.instruction.Instr.{Instr}
use Rattle.ir_core.specs.declared.block.Block.{Block}
use Rattle.ir_core.specs.Uses.{reads, writes, accessed, end_reads, goes_to}

-- blocks, of which a run enters the first, and the number of temporaries
pub record Listing : Type 0 where
  pub blocks : List Block
  pub temps : ℕ

abbrev pub all_below : ℕ → List ℕ → Bool
all_below n ts = list_all (λ t. nat_lt t n) ts

abbrev pub is_below : ℕ → Option ℕ → Bool
is_below n None = true
is_below n (Some t) = nat_lt t n

-- the temporaries of an instruction are in range
abbrev pub within : ℕ → Instr → Bool
within n i = all_below n (reads i) && is_below n (writes i)

-- the temporaries of a block are in range, and so are the blocks where it goes
abbrev pub block_within : (temps blocks : ℕ) → Block → Bool
block_within n m b = list_all (within n) b.code && (all_below n (end_reads b.end) && all_below m (goes_to b.end))

-- the dummy of a spot without an index, and of one with an index
abbrev pub plain_in : Base → Option ℕ → Option ℕ
plain_in (Dummy k) None = Some k
plain_in _ _ = None

abbrev pub indexed_in : Base → Option ℕ → Option ℕ
indexed_in (Dummy k) (Some t) = Some k
indexed_in _ _ = None

abbrev pub plain_of : Option Spot → Option ℕ
plain_of None = None
plain_of (Some s) = plain_in s.base s.index

abbrev pub indexed_of : Option Spot → Option ℕ
indexed_of None = None
indexed_of (Some s) = indexed_in s.base s.index

-- the dummy that an instruction loads or stores without an index, and with one
abbrev pub plain : Instr → Option ℕ
plain i = plain_of (accessed i)

abbrev pub indexed : Instr → Option ℕ
indexed i = indexed_of (accessed i)

abbrev pub is_other : Option ℕ → ℕ → Bool
is_other None k = true
is_other (Some j) k = not (nat_eq j k)

-- no instruction loads or stores the dummy without an index
abbrev pub never_plain : List Block → ℕ → Bool
never_plain blocks k = list_all (λ (b : Block). list_all (λ i. is_other (plain i) k) b.code) blocks

-- of the dummy, if there is one
abbrev pub if_some : (ℕ → Bool) → Option ℕ → Bool
if_some test None = true
if_some test (Some k) = test k

-- the dummies that instructions load or store with an index pass the test
abbrev pub all_indexed : (ℕ → Bool) → List Block → Bool
all_indexed test blocks = list_all (λ (b : Block). list_all (λ i. if_some test (indexed i)) b.code) blocks

-- a dummy that has an index somewhere has one everywhere
abbrev pub dummies_agree : List Block → Bool
dummies_agree blocks = all_indexed (never_plain blocks) blocks

-- There is a first block, numbers are in range, and each dummy stands in Loads and Stores always with an index or never.
abbrev pub is_body : Listing → Bool
is_body l = nat_lt 0 (length l.blocks) && (list_all (block_within l.temps (length l.blocks)) l.blocks && dummies_agree l.blocks)

-- the body of these blocks and so many temporaries, if they are one's
abbrev pub made : List Block → (temps : ℕ) → Option Listing
made blocks n = if is_body (record { blocks = blocks; temps = n }) then Some (record { blocks = blocks; temps = n }) else None
