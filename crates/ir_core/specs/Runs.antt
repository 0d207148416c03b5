-- What a body does. What no body of an accepted unit comes to is Stuck: a temporary that isn't set, or holds an address where a word is
-- wanted; an index outside of its spot; an argument that isn't set; a word that is no truth value where one is wanted.
use Rattle.std.specs.Prelude.{ℕ, zero, suc, ◌+◌, ◌-◌, List, [], ◌∷◌, Option, Some, None, Bool, true, false, cond, ℤ, pos, negsuc, nat_eq, nat_lt, slice_get, if◌then◌else◌}
use Rattle.std.specs.Fmt.{signed_decimal}
use Rattle.std.specs.Ordering.{int_eq}
use Rattle.run_model.specs.Storage.{Name, Value, Block as CommonBlock, Local as LocalArea, Fresh as FreshCell, Loc, Interval}
use Rattle.run_model.specs.Acts.{World, Ended, Undefined, Stuck, Outcome, Answer, Handler, Act, Done, Get, Put, Say, Take, Ask, Fail, ◌>>=◌}
use Rattle.run_model.specs.Turns.{After, Again, Result, run_from}
use Rattle.f77_tree.specs.declared.unit.Ty.{Ty}
use Rattle.ir_core.specs.declared.instruction.Base.{Base}
use Rattle.ir_core.specs.declared.instruction.Base.TheVariants.{Dummy, Local, Common}
use Rattle.ir_core.specs.declared.instruction.Spot.{Spot}
use Rattle.ir_core.specs.declared.instruction.Calc.{Calc}
use Rattle.ir_core.specs.declared.instruction.Seat.{Seat}
use Rattle.ir_core.specs.declared.instruction.Instr.{Instr}
use Rattle.ir_core.specs.declared.instruction.Instr.TheVariants as instr
use Rattle.ir_core.specs.declared.block.End.{End}
use Rattle.ir_core.specs.declared.block.End.TheVariants.{Jump, Branch, Switch, Return, Exit}
use Rattle.ir_core.specs.declared.block.Block.{Block}
use Rattle.ir_core.specs.Words.{word_of, truth_of, value_of, calculated}
use Rattle.ir_core.specs.Listings.{Listing}

-- an activation: the unit, and what its dummies are associated with
pub record Activation : Type 0 where
  pub unit : Name
  pub actuals : List Interval

-- what a temporary holds: a word, or an address, which is known by what there is from it on
pub data Content : Type 0 where
  Word : ℤ → Content
  Address : Interval → Content

abbrev pub Temporaries : Type 0
Temporaries = ℕ → Option Content

-- within a block: the temporaries, and the arguments that are set for the next call, by their positions
pub record Values : Type 0 where
  pub temporaries : Temporaries
  pub arguments : List (Option Interval)

abbrev pub put : ℕ → Content → Temporaries → Temporaries
put t x f u = cond (nat_eq t u) (Some x) (f u)

abbrev pub set : ℕ → Content → Values → Values
set t x v = record v { temporaries = put t x v.temporaries }

abbrev pub or_stuck : {A : Type 0} → Option A → Act A
or_stuck None = Fail Stuck
or_stuck (Some a) = Done a

abbrev pub as_word : Content → Act ℤ
as_word (Word x) = Done x
as_word (Address i) = Fail Stuck

abbrev pub as_address : Content → Act Interval
as_address (Address i) = Done i
as_address (Word x) = Fail Stuck

abbrev pub word : Temporaries → ℕ → Act ℤ
word f t = do
  x ← or_stuck (f t)
  as_word x

abbrev pub address : Temporaries → ℕ → Act Interval
address f t = do
  x ← or_stuck (f t)
  as_address x

-- the value of a type, and the truth value, whose word a temporary holds
abbrev pub value : Temporaries → Ty → ℕ → Act Value
value f ty t = do
  x ← word f t
  or_stuck (value_of ty x)

abbrev pub truth : Temporaries → ℕ → Act Bool
truth f t = do
  x ← word f t
  or_stuck (truth_of x)

abbrev pub at : Interval → ℕ → Loc
at i k = record { area = i.area; offset = i.from + k }

abbrev pub rest : Interval → ℕ → Interval
rest i k = record { area = i.area; from = i.from + k; length = i.length - k }

-- the storage units of a spot, whatever its index
abbrev pub interval : Activation → Base → (length : ℕ) → Option Interval
interval a (Dummy k) n = slice_get a.actuals k
interval a (Local from) n = Some (record { area = LocalArea a.unit; from = from; length = n })
interval a (Common b from) n = Some (record { area = CommonBlock b; from = from; length = n })

abbrev pub natural : ℤ → Act ℕ
natural (pos n) = Done n
natural (negsuc n) = Fail Stuck

-- so many units from the beginning, of which there are more
abbrev pub inside : Interval → ℕ → Act ℕ
inside i k = if nat_lt k i.length then Done k else Fail Stuck

abbrev pub counted : Temporaries → Interval → ℕ → Act ℕ
counted f i t = do
  x ← word f t
  k ← natural x
  inside i k

-- without an index a spot is its first storage unit
abbrev pub index : Temporaries → Interval → Option ℕ → Act ℕ
index f i None = inside i 0
index f i (Some t) = counted f i t

-- the location that is loaded or stored
abbrev pub location : Activation → Temporaries → Spot → Act Loc
location a f s = do
  i ← or_stuck (interval a s.base s.length)
  k ← index f i s.index
  Done (at i k)

-- without an index the address of a spot is that of all of it
abbrev pub rest_by : Temporaries → Interval → Option ℕ → Act Interval
rest_by f i None = Done i
rest_by f i (Some t) = do
  k ← counted f i t
  Done (rest i k)

abbrev pub pointed : Activation → Temporaries → Spot → Act Interval
pointed a f s = do
  i ← or_stuck (interval a s.base s.length)
  rest_by f i s.index

-- the cell of an actual argument without a location
abbrev pub fresh : Activation → Seat → Interval
fresh a s = record { area = FreshCell a.unit s.site s.position; from = 0; length = 1 }

-- arguments with this one at its position
abbrev pub with_argument : ℕ → Interval → List (Option Interval) → List (Option Interval)
with_argument zero i [] = Some i ∷ []
with_argument zero i (d ∷ ds) = Some i ∷ ds
with_argument (suc k) i [] = None ∷ with_argument k i []
with_argument (suc k) i (d ∷ ds) = d ∷ with_argument k i ds

abbrev pub joined : Option Interval → Option (List Interval) → Option (List Interval)
joined (Some i) (Some is) = Some (i ∷ is)
joined _ _ = None

-- all arguments up to the last that is set
abbrev pub all_set : List (Option Interval) → Option (List Interval)
all_set [] = Some []
all_set (d ∷ ds) = joined d (all_set ds)

abbrev pub or_zero_divisor : Option ℤ → Act ℤ
or_zero_divisor None = Fail (Undefined 5)
or_zero_divisor (Some x) = Done x

abbrev pub calculate : Temporaries → Calc → ℕ → ℕ → Act ℤ
calculate f c t u = do
  x ← word f t
  y ← word f u
  or_zero_divisor (calculated c x y)

abbrev pub forget : Values → Values
forget v = record v { arguments = [] }

-- a result's word; a call that answers none has none
abbrev pub result_set : ℕ → Values → Answer → Act Values
result_set t v None = Fail Stuck
result_set t v (Some x) = Done (set t (Word (word_of x)) v)

-- What is made of the answer to a call, whose arguments aren't kept.
abbrev pub answered : Option ℕ → Values → Answer → Act Values
answered None v r = Done (forget v)
answered (Some t) v r = result_set t (forget v) r

abbrev pub letter : Bool → ℕ
letter true = 84
letter false = 70

abbrev pub instruction : Activation → Instr → Values → Act Values
instruction a (instr.Const t n) v = Done (set t (Word n) v)
instruction a (instr.Copy t u) v = do
  x ← or_stuck (v.temporaries u)
  Done (set t x v)
instruction a (instr.Load t spot) v = do
  l ← location a v.temporaries spot
  Get l (λ x. Done (set t (Word (word_of x)) v))
instruction a (instr.Store spot ty u) v = do
  l ← location a v.temporaries spot
  x ← value v.temporaries ty u
  Put l x (Done v)
instruction a (instr.Calc t c u w) v = do
  x ← calculate v.temporaries c u w
  Done (set t (Word x) v)
instruction a (instr.Address t spot) v = do
  i ← pointed a v.temporaries spot
  Done (set t (Address i) v)
instruction a (instr.Fresh t seat ty u) v = do
  x ← value v.temporaries ty u
  Put (at (fresh a seat) 0) x (Done (set t (Address (fresh a seat)) v))
instruction a (instr.Argument k u) v = do
  i ← address v.temporaries u
  Done (record v { arguments = with_argument k i v.arguments })
instruction a (instr.Call site r) v = do
  ds ← or_stuck (all_set v.arguments)
  Ask site ds (answered r v)
instruction a (instr.PrintInt u) v = do
  x ← word v.temporaries u
  Say (signed_decimal x) (Done v)
instruction a (instr.PrintTruth u) v = do
  b ← truth v.temporaries u
  Say (letter b ∷ []) (Done v)
instruction a (instr.PrintByte b) v = Say (b ∷ []) (Done v)
instruction a instr.EndLine v = Say (10 ∷ []) (Done v)
instruction a (instr.Read t) v = Take (λ x. Done (set t (Word x) v))

abbrev pub instructions : Activation → List Instr → Values → Act Values
instructions a [] v = Done v
instructions a (i ∷ is) v = do
  w ← instruction a i v
  instructions a is w

-- where an activation is: a block, and the temporaries
pub record Here : Type 0 where
  pub block : ℕ
  pub temporaries : Temporaries

abbrev pub to : ℕ → Temporaries → Act (After Here)
to b f = Done (Again (record { block = b; temporaries = f }))

-- the first block where the word isn't 0, else the second
abbrev pub chosen : ℤ → ℕ → ℕ → ℕ
chosen x b c = if int_eq x (pos 0) then c else b

abbrev pub or_other : Option ℕ → ℕ → ℕ
or_other None b = b
or_other (Some c) b = c

-- the label that the word counts, from 1 on
abbrev pub label : List ℕ → ℤ → Option ℕ
label labels (pos (suc k)) = slice_get labels k
label labels _ = None

abbrev pub labelled : List ℕ → ℤ → ℕ → ℕ
labelled labels x b = or_other (label labels x) b

abbrev pub branched : ℕ → ℕ → ℕ → Temporaries → Act (After Here)
branched t b c f = do
  x ← word f t
  to (chosen x b c) f

abbrev pub switched : ℕ → List ℕ → ℕ → Temporaries → Act (After Here)
switched t labels b f = do
  x ← word f t
  to (labelled labels x b) f

abbrev pub returned : Option (Ty × ℕ) → Temporaries → Act (After Here)
returned None f = Done (Result None)
returned (Some r) f = do
  x ← value f r.0 r.1
  Done (Result (Some x))

abbrev pub ending : End → Temporaries → Act (After Here)
ending (Jump b) f = to b f
ending (Branch t b c) f = branched t b c f
ending (Switch t labels b) f = switched t labels b f
ending (Return r) f = returned r f
ending (Exit status) f = Fail (Ended status)

-- A visit of a block. Arguments that are set behind its last call are forgotten.
abbrev pub visit_block : Activation → Block → Temporaries → Act (After Here)
visit_block a b f = do
  v ← instructions a b.code (record { temporaries = f; arguments = [] })
  ending b.end v.temporaries

abbrev pub visit : Activation → Option Block → Temporaries → Act (After Here)
visit a None f = Fail Stuck
visit a (Some b) f = visit_block a b f

-- one visit of a block is one turn, and so one step
abbrev pub body_turn : Activation → Listing → Here → Act (After Here)
body_turn a l s = visit a (slice_get l.blocks s.block) s.temporaries

-- A run enters the first block, with no temporary set.
abbrev pub entrance : Here
entrance = record { block = 0; temporaries = λ t. None }

-- An activation of a body, in a world whose local cells are as at the unit's entry.
abbrev pub run_body : Handler → Activation → Listing → World → Outcome Answer
run_body h a l w = run_from h (body_turn a l) entrance w
