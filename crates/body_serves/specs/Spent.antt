-- When a body has nothing left that the passes could take from it under a record: no constant is calculated or loaded, none is branched on,
-- no item is loaded that a temporary holds, no store is dead.
use Rattle.std.specs.Prelude.{◌≡◌, ◌≢◌, ◌≤◌, ℕ, suc, Option, Some, None, Bool, true, false, ◌⊎◌, ℤ, slice_get, length}
use Rattle.std.specs.List.{Contains}
use Rattle.run_model.specs.Storage.{Value}
use Rattle.f77_tree.specs.declared.unit.Item.{Item}
use Rattle.f77_tree.specs.declared.unit.Item.TheVariants as item
use Rattle.run_records.specs.Records.{Record}
use Rattle.ir_core.specs.declared.instruction.Base.{Base}
use Rattle.ir_core.specs.declared.instruction.Base.TheVariants.{Dummy, Local, Common}
use Rattle.ir_core.specs.declared.instruction.Spot.{Spot}
use Rattle.ir_core.specs.declared.instruction.Calc.{Calc}
use Rattle.ir_core.specs.declared.instruction.Instr.{Instr}
use Rattle.ir_core.specs.declared.instruction.Instr.TheVariants as instr
use Rattle.ir_core.specs.declared.block.End.{End}
use Rattle.ir_core.specs.declared.block.End.TheVariants.{Branch, Switch, Return, Exit}
use Rattle.ir_core.specs.declared.block.Block.{Block}
use Rattle.ir_core.specs.Words.{word_of, calculated}
use Rattle.ir_core.specs.Uses.{writes, goes_to}
use Rattle.ir_core.specs.Listings.{Listing}

-- ---- points of a body

-- a block that a walk from the first one reaches, whatever its ends are on
pub data IsReached (l : Listing) : ℕ → Type 0 where
  first : IsReached l 0
  onward : (j k : ℕ) (b : Block) → IsReached l j → slice_get l.blocks j ≡ Some b → Contains (goes_to b.end) k → IsReached l k

-- in a block, before the instruction with this number, or before its end
pub record Point : Type 0 where
  pub block : ℕ
  pub number : ℕ

-- a point of a block that is reached
pub record IsPoint (l : Listing) (p : Point) : Type 0 where
  pub reached : IsReached l p.block
  pub block : Block
  pub stands : slice_get l.blocks p.block ≡ Some block
  pub inside : p.number ≤ length block.code

-- an instruction that is reached
pub record Runs (l : Listing) (p : Point) (i : Instr) : Type 0 where
  pub reached : IsReached l p.block
  pub block : Block
  pub stands : slice_get l.blocks p.block ≡ Some block
  pub is : slice_get block.code p.number ≡ Some i

-- an end that is reached
pub record Leaves (l : Listing) (p : Point) (e : End) : Type 0 where
  pub reached : IsReached l p.block
  pub block : Block
  pub stands : slice_get l.blocks p.block ≡ Some block
  pub at_end : p.number ≡ length block.code
  pub is : block.end ≡ e

abbrev pub after : Point → Point
after p = record { block = p.block; number = suc p.number }

abbrev pub start : ℕ → Point
start k = record { block = k; number = 0 }

-- ---- what instructions touch

abbrev pub item_of : Base → Item
item_of (Dummy k) = item.Dummy k
item_of (Local o) = item.Local o
item_of (Common b o) = item.Common b o

-- with an index: the dummy, or any unit of the local area or of the block, own or not
abbrev pub IsAlong : Base → Item → Type 0
IsAlong (Dummy k) x = x ≡ item.Dummy k
IsAlong (Local from) x = (o : ℕ) × (x ≡ item.Local o)
IsAlong (Common b from) x = (o : ℕ) × (x ≡ item.Common b o)

abbrev pub IsMeant : Base → Option ℕ → Item → Type 0
IsMeant b None x = x ≡ item_of b
IsMeant b (Some t) x = IsAlong b x

-- A Load or Store touches the items that its spot may mean, and those that are paired with one.
pub data Touches (r : Record) (s : Spot) (x : Item) : Type 0 where
  itself : IsMeant s.base s.index x → Touches r s x
  by_pair : (y : Item) → IsMeant s.base s.index y → r.paired y x ≡ true → Touches r s x

-- ---- constants

-- a temporary or an item
pub data Holder : Type 0 where
  Temporary : ℕ → Holder
  AnItem : Item → Holder

-- at each point the word that a temporary or the cell of an item always has; None where that isn't known
abbrev pub Known : Type 0
Known = Point → Holder → Option ℤ

-- Both words are known, and calculating with them gives a word. A zero divisor gives none.
pub record IsCalculated (c : Calc) (x y : Option ℤ) (n : ℤ) : Type 0 where
  pub left : ℤ
  pub right : ℤ
  pub left_is : x ≡ Some left
  pub right_is : y ≡ Some right
  pub gives : calculated c left right ≡ Some n

-- what is known of an item behind a Store: of its own item, the stored word; of others, only where it doesn't touch them
pub data KnownStored (r : Record) (s : Spot) (stored : Option ℤ) (x : Item) (before : Option ℤ) (n : ℤ) : Type 0 where
  own : s.index ≡ None → x ≡ item_of s.base → stored ≡ Some n → KnownStored r s stored x before n
  other : (Touches r s x → ⊥) → before ≡ Some n → KnownStored r s stored x before n

-- the word that an instruction gives its temporary
abbrev pub loaded : Option ℕ → Option ℤ → Option ℤ
loaded None known = known
loaded (Some t) known = None

abbrev pub IsGiven : (Holder → Option ℤ) → Instr → ℤ → Type 0
IsGiven k (instr.Const t m) n = m ≡ n
IsGiven k (instr.Copy t u) n = k (Temporary u) ≡ Some n
IsGiven k (instr.Load t s) n = loaded s.index (k (AnItem (item_of s.base))) ≡ Some n
IsGiven k (instr.Calc t c u v) n = IsCalculated c (k (Temporary u)) (k (Temporary v)) n
IsGiven k _ n = ⊥

-- an item keeps its word behind an instruction, or is stored to
abbrev pub ItemKnown : Record → (Holder → Option ℤ) → Instr → Item → ℤ → Type 0
ItemKnown r k (instr.Store s ty u) x n = KnownStored r s (k (Temporary u)) x (k (AnItem x)) n
ItemKnown r k (instr.Call site t) x n = (r.may_mod site x ≡ false) × (k (AnItem x) ≡ Some n)
ItemKnown r k _ x n = k (AnItem x) ≡ Some n

-- What is known behind an instruction by what is known before it.
abbrev pub IsKnownAfter : Record → (Holder → Option ℤ) → Instr → Holder → ℤ → Type 0
IsKnownAfter r k i (Temporary t) n = ((writes i ≡ Some t) × IsGiven k i n) ⊎ ((writes i ≢ Some t) × (k (Temporary t) ≡ Some n))
IsKnownAfter r k i (AnItem x) n = ItemKnown r k i x n

-- at the entry the items have the record's constants
abbrev pub KnownAtEntry : Record → Holder → ℤ → Type 0
KnownAtEntry r (Temporary t) n = ⊥
KnownAtEntry r (AnItem x) n = (v : Value) × (r.constant x ≡ Some v) × (word_of v ≡ n)

-- nothing is known but what follows along each way to a point
pub record AreKnown (r : Record) (l : Listing) (known : Known) : Type 0 where
  pub entry : (h : Holder) (n : ℤ) → known (start 0) h ≡ Some n → KnownAtEntry r h n
  pub step : (p : Point) (i : Instr) → Runs l p i → (h : Holder) (n : ℤ) → known (after p) h ≡ Some n → IsKnownAfter r (known p) i h n
  pub ends : (p : Point) (e : End) → Leaves l p e → (k : ℕ) → Contains (goes_to e) k → (h : Holder) (n : ℤ) → known (start k) h ≡ Some n → known p h ≡ Some n

-- The greatest assignment: all that may be known is.
pub record IsGreatest (r : Record) (l : Listing) (known : Known) : Type 0 where
  pub follows : AreKnown r l known
  pub greatest : (other : Known) → AreKnown r l other → (p : Point) → IsPoint l p → (h : Holder) (n : ℤ) → other p h ≡ Some n → known p h ≡ Some n

-- what isn't to be: a Load without an index or a Calc whose word is known, a Branch or Switch on a known word
abbrev pub NotCalculated : Known → Point → Instr → Type 0
NotCalculated known p (instr.Load t s) = s.index ≡ None → known (after p) (Temporary t) ≡ None
NotCalculated known p (instr.Calc t c u v) = known (after p) (Temporary t) ≡ None
NotCalculated known p _ = Unit {0}

abbrev pub NotDecided : Known → Point → End → Type 0
NotDecided known p (Branch t a b) = known p (Temporary t) ≡ None
NotDecided known p (Switch t labels b) = known p (Temporary t) ≡ None
NotDecided known p _ = Unit {0}

pub record ConstantsSpent (r : Record) (l : Listing) : Type 0 where
  pub known : Known
  pub solution : IsGreatest r l known
  pub instructions : (p : Point) (i : Instr) → Runs l p i → NotCalculated known p i
  pub ends : (p : Point) (e : End) → Leaves l p e → NotDecided known p e

-- ---- copies

-- at each point, whether an item and a temporary always hold the same word
abbrev pub Copies : Type 0
Copies = Point → Item → ℕ → Bool

-- a Load or Store without an index makes a pair of its item and its temporary
abbrev pub Pairs : Instr → Item → ℕ → Type 0
Pairs (instr.Load t s) x u = (s.index ≡ None) × (x ≡ item_of s.base) × (u ≡ t)
Pairs (instr.Store s ty t) x u = (s.index ≡ None) × (x ≡ item_of s.base) × (u ≡ t)
Pairs _ x u = ⊥

-- a Store ends the pairs of all items that it touches, a call those of its MOD
abbrev pub LeavesItem : Record → Instr → Item → Type 0
LeavesItem r (instr.Store s ty t) x = Touches r s x → ⊥
LeavesItem r (instr.Call site t) x = r.may_mod site x ≡ false
LeavesItem r _ x = Unit {0}

-- What is a pair behind an instruction was made by it, or is one before it that it doesn't end.
abbrev pub IsCopyAfter : Record → (Item → ℕ → Bool) → Instr → Item → ℕ → Type 0
IsCopyAfter r c i x t = Pairs i x t ⊎ ((writes i ≢ Some t) × LeavesItem r i x × (c x t ≡ true))

pub record AreCopies (r : Record) (l : Listing) (copies : Copies) : Type 0 where
  pub entry : (x : Item) (t : ℕ) → copies (start 0) x t ≡ false
  pub step : (p : Point) (i : Instr) → Runs l p i → (x : Item) (t : ℕ) → copies (after p) x t ≡ true → IsCopyAfter r (copies p) i x t
  pub ends : (p : Point) (e : End) → Leaves l p e → (k : ℕ) → Contains (goes_to e) k → (x : Item) (t : ℕ) → copies (start k) x t ≡ true → copies p x t ≡ true

-- the greatest sets of pairs
pub record AreAllCopies (r : Record) (l : Listing) (copies : Copies) : Type 0 where
  pub follows : AreCopies r l copies
  pub greatest : (other : Copies) → AreCopies r l other → (p : Point) → IsPoint l p → (x : Item) (t : ℕ) → other p x t ≡ true → copies p x t ≡ true

-- a Load without an index of an item that a temporary holds
abbrev pub NotHeld : Copies → Point → Instr → Type 0
NotHeld copies p (instr.Load t s) = s.index ≡ None → (u : ℕ) → copies p (item_of s.base) u ≡ false
NotHeld copies p _ = Unit {0}

pub record CopiesSpent (r : Record) (l : Listing) : Type 0 where
  pub copies : Copies
  pub solution : AreAllCopies r l copies
  pub instructions : (p : Point) (i : Instr) → Runs l p i → NotHeld copies p i

-- ---- stores

-- at each point, whether an item is live
abbrev pub Lives : Type 0
Lives = Point → Item → Bool

-- a Store without an index ends the life of its one item
abbrev pub Ends : Spot → Item → Type 0
Ends s x = (s.index ≡ None) × (x ≡ item_of s.base)

-- what is live before an instruction by what is live behind it
abbrev pub IsLiveBefore : Record → (Item → Bool) → Instr → Item → Type 0
IsLiveBefore r live (instr.Load t s) x = Touches r s x ⊎ (live x ≡ true)
IsLiveBefore r live (instr.Store s ty t) x = (Ends s x → ⊥) × (live x ≡ true)
IsLiveBefore r live (instr.Call site t) x = (r.may_ref site x ≡ true) ⊎ (live x ≡ true)
IsLiveBefore r live _ x = live x ≡ true

-- at a return every item, at an exit none
abbrev pub IsLiveAtEnd : (ℕ → Item → Bool) → End → Item → Type 0
IsLiveAtEnd live (Return res) x = Unit {0}
IsLiveAtEnd live (Exit status) x = ⊥
IsLiveAtEnd live e x = (k : ℕ) × Contains (goes_to e) k × (live k x ≡ true)

pub record AreLive (r : Record) (l : Listing) (live : Lives) : Type 0 where
  pub step : (p : Point) (i : Instr) → Runs l p i → (x : Item) → IsLiveBefore r (live (after p)) i x → live p x ≡ true
  pub ends : (p : Point) (e : End) → Leaves l p e → (x : Item) → IsLiveAtEnd (λ k. live (start k)) e x → live p x ≡ true

-- the least sets of live items
pub record IsLeast (r : Record) (l : Listing) (live : Lives) : Type 0 where
  pub holds : AreLive r l live
  pub least : (other : Lives) → AreLive r l other → (p : Point) → IsPoint l p → (x : Item) → live p x ≡ true → other p x ≡ true

pub record SomeLive (r : Record) (s : Spot) (live : Item → Bool) : Type 0 where
  pub item : Item
  pub touched : Touches r s item
  pub is : live item ≡ true

-- some item that a Store touches is live behind it
abbrev pub NotDead : Record → Lives → Point → Instr → Type 0
NotDead r live p (instr.Store s ty t) = SomeLive r s (live (after p))
NotDead r live p _ = Unit {0}

pub record StoresSpent (r : Record) (l : Listing) : Type 0 where
  pub live : Lives
  pub solution : IsLeast r l live
  pub instructions : (p : Point) (i : Instr) → Runs l p i → NotDead r live p i

-- ---- all of it

pub record Spent (r : Record) (l : Listing) : Type 0 where
  pub constants : ConstantsSpent r l
  pub copies : CopiesSpent r l
  pub stores : StoresSpent r l
