-- The example of docs/SERVES.md: a unit, a record of its call, and a body that serves it under that record.
use Rattle.std.specs.Prelude.{ℕ, suc, List, [], ◌∷◌, Some, None, Bool, true, false, ◌||◌, ◌&&◌, pos, nat_eq, nat_lt, if◌then◌else◌}
use Rattle.run_model.specs.Storage.{Name, name_eq, Integer, Interval}
use Rattle.f77_tree.specs.declared.expr.Op.TheVariants as op
use Rattle.f77_tree.specs.declared.unit.Ty.TheVariants as types
use Rattle.f77_tree.specs.declared.unit.Value.TheVariants as value
use Rattle.f77_tree.specs.declared.unit.Item.{Item}
use Rattle.f77_tree.specs.declared.unit.Item.TheVariants as item
use Rattle.f77_flow.specs.Graph.{At}
use Rattle.f77_semantics.specs.Program.{Routine, Term, Literal, Variable, Binary, End, ◌and◌, Assign, Call, Return}
use Rattle.f77_semantics.specs.declared.storage.Base.TheVariants.{Dummy, Common}
use Rattle.run_records.specs.Records.{Association, Record}
use Rattle.run_records.specs.Serving.{Serves}
use Rattle.unit_serves.specs.Units.{unit_behaviour, interval_in}
use Rattle.ir_core.specs.declared.instruction.Base.{Base}
use Rattle.ir_core.specs.declared.instruction.Base.TheVariants as base
use Rattle.ir_core.specs.declared.instruction.Spot.{Spot}
use Rattle.ir_core.specs.declared.instruction.Calc.TheVariants as calc
use Rattle.ir_core.specs.declared.instruction.Instr.TheVariants as instr
use Rattle.ir_core.specs.declared.instruction.Instr.{Instr}
use Rattle.ir_core.specs.declared.block.End.{End as BlockEnd}
use Rattle.ir_core.specs.declared.block.End.TheVariants as ends
use Rattle.ir_core.specs.declared.block.Block.{Block}
use Rattle.ir_core.specs.Listings.{Listing}
use Rattle.body_serves.specs.Bodies.{body_behaviour}

abbrev pub block : Name
block = 66 ∷ []

abbrev pub k : Term
k = Variable types.Integer (Dummy 0)

abbrev pub n : Term
n = Variable types.Integer (Common block 0)

abbrev pub m : Term
m = Variable types.Integer (Common block 1)

-- SUBROUTINE P(K); COMMON /B/ N, M; M = 1; CALL Q(K); M = K + N; END
abbrev pub unit_p : Routine
unit_p = record {
  name = 80 ∷ [];
  statements = Assign m (Literal (value.Integer (pos 1))) ∷ Call 1 (k and End) ∷ Assign m (Binary op.Add k n) ∷ Return ∷ [];
  first = 0;
  below = λ j. suc j;
  after = λ j. At (suc j);
  leaving = λ j. At (suc j);
  callees = (81 ∷ []) ∷ [];
  dummy_arrays = [];
  result = None;
  kept = [];
  initial = [];
}

abbrev pub is_k : Item → Bool
is_k (item.Dummy j) = nat_eq j 0
is_k _ = false

abbrev pub is_n : Item → Bool
is_n (item.Common b o) = name_eq b block && nat_eq o 0
is_n _ = false

abbrev pub is_own_p : Item → Bool
is_own_p (item.Dummy j) = nat_eq j 0
is_own_p (item.Local o) = false
is_own_p (item.Common b o) = name_eq b block && nat_lt o 2

abbrev pub places_p : List Interval → Association
places_p ds = record { own = is_own_p; interval = interval_in unit_p ds }

-- The call may change N and read K and N, no two items share a location, and K is 5 at each entry.
abbrev pub record_p : Record
record_p = record {
  may_mod = λ s x. is_n x;
  may_ref = λ s x. is_k x || is_n x;
  paired = λ x y. false;
  constant = λ x. if is_k x then Some (Integer (pos 5)) else None;
}

abbrev pub spot : Base → Spot
spot b = record { base = b; length = 1; index = None }

abbrev pub visited : ℕ → List Instr → BlockEnd → Block
visited s code e = record { statement = s; code = code; end = e }

-- It doesn't store 1 to M, calls, adds 5 to N and stores that to M, and returns.
abbrev pub body_p : Listing
body_p = record {
  blocks =
      visited 0 [] (ends.Jump 1)
      ∷ visited 1 (instr.Address 0 (spot (base.Dummy 0)) ∷ instr.Argument 0 0 ∷ instr.Call 1 None ∷ []) (ends.Jump 2)
      ∷ visited 2 (instr.Const 1 (pos 5) ∷ instr.Load 2 (spot (base.Common block 0)) ∷ instr.Calc 3 calc.Add 1 2 ∷ instr.Store (spot (base.Common block 1)) types.Integer 3 ∷ []) (ends.Jump 3)
      ∷ visited 3 [] (ends.Return None)
      ∷ [];
  temps = 4;
}

abbrev pub ExampleServes : Type 0
ExampleServes = Serves places_p record_p (unit_behaviour unit_p) (body_behaviour unit_p body_p)

-- where the call may read every item
abbrev pub open_p : Record
open_p = record record_p { may_ref = λ s x. true }

-- A callee that reads M would show that 1 isn't stored, so the body doesn't serve where the record lets the call read it.
abbrev pub ExampleNeedsItsRecord : Type 0
ExampleNeedsItsRecord = Serves places_p open_p (unit_behaviour unit_p) (body_behaviour unit_p body_p) → ⊥
