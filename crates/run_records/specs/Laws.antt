-- Laws of serving: it composes, it gives serving by lists of rows, wider records give it for narrower ones, and callees may be others.
use Rattle.std.specs.Prelude.{◌≡◌, ℕ, List, true}
use Rattle.run_model.specs.Storage.{Loc, Interval}
use Rattle.run_model.specs.Acts.{World, Handler}
use Rattle.f77_tree.specs.declared.unit.Item.{Item}
use Rattle.run_calls.specs.Calls.{Call, Each}
use Rattle.run_calls.specs.Same.{SameRun, IfDefined}
use Rattle.run_calls.specs.Behaviours.{Behaviour, DependsOnItsCalls}
use Rattle.run_records.specs.Records.{Association, Record, IsReadThrough, IsChanged, StandsIn, IsEntry}
use Rattle.run_records.specs.Rows.{Row, IsRow, Respects}
use Rattle.run_records.specs.Serving.{Serves}
use Rattle.run_records.specs.Oracles.{ServesByRows}
use Rattle.run_records.specs.Widest.{AsWide, may_pair, widest}

-- What serves what serves a behaviour serves it.
abbrev pub Composes : Type 0
Composes = (associate : List Interval → Association) (r : Record) (a b c : Behaviour) → Serves associate r a b → Serves associate r b c → Serves associate r a c

abbrev pub ServesItself : Type 0
ServesItself = (associate : List Interval → Association) (r : Record) (a : Behaviour) → Serves associate r a a

-- What serves under handlers that keep to the record serves under call oracles.
abbrev pub GivesRows : Type 0
GivesRows = (associate : List Interval → Association) (r : Record) (a b : Behaviour) → Serves associate r a b → ServesByRows associate r a b

-- What serves under a record serves under each that it is as wide as.
abbrev pub Narrows : Type 0
Narrows = (associate : List Interval → Association) (r s : Record) (a b : Behaviour) → AsWide r s → Serves associate s a b → Serves associate r a b

-- At this call and from each world that stands in, the second handler's answer is that of the first as far as it is defined.
abbrev pub StandInsAlike : Record → Association → Handler → Handler → Call → Type 0
StandInsAlike r place h g c = (v : World) → StandsIn r place c.site c.world v → SameRun (h c.site c.actuals v) (g c.site c.actuals v)

-- What serves a behaviour runs as it does also with other callees, where these do what its own do from all that stands in at its calls.
abbrev pub CalleesMayChange : Type 0
CalleesMayChange = (associate : List Interval → Association) (r : Record) (a b : Behaviour) → Serves associate r a b → DependsOnItsCalls b
    → (h g : Handler) (ds : List Interval) (w : World) → IsEntry r (associate ds) w
    → IfDefined (a.run h ds w) (Each (Respects r (associate ds) h) (a.calls h ds w))
    → IfDefined (a.run h ds w) (Each (StandInsAlike r (associate ds) h g) (a.calls h ds w))
    → SameRun (a.run h ds w) (b.run g ds w)

-- The widest record lets each location be changed and read, so only a world with the same storage stands in.
pub record WidestAllowsAll : Type 0 where
  pub read : (place : Association) (s : ℕ) (l : Loc) → IsReadThrough widest place s l
  pub changed : (place : Association) (s : ℕ) (l : Loc) → IsChanged widest place s l

-- Each call that answers some row keeps to the widest record.
abbrev pub WidestIsKept : Type 0
WidestIsKept = (place : Association) (h : Handler) (c : Call) (row : Row) → IsRow row c.world (h c.site c.actuals c.world) → Respects widest place h c

-- A record that pairs nothing but dummies with dummies and with units of COMMON.
abbrev pub PairsDummies : Record → Type 0
PairsDummies r = (x y : Item) → r.paired x y ≡ true → may_pair x y ≡ true

-- What serves under the widest record serves under every record.
abbrev pub WidestServesAll : Type 0
WidestServesAll = (associate : List Interval → Association) (r : Record) (a b : Behaviour) → PairsDummies r → Serves associate widest a b → Serves associate r a b
