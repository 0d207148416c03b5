-- A unit as a behaviour, where its own items stand, and what it is to serve it.
use Rattle.std.specs.Prelude.{ℕ, List, Option, Some, None, Bool, false, slice_get, nat_lt, length}
use Rattle.run_model.specs.Storage.{Block, Local, Interval}
use Rattle.f77_tree.specs.declared.unit.Item.{Item}
use Rattle.f77_tree.specs.declared.unit.Item.TheVariants as item
use Rattle.f77_tree.specs.declared.unit.Unit.{Unit}
use Rattle.f77_values.specs.Tables.{what}
use Rattle.f77_store.specs.Layouts.{local_size, blocks}
use Rattle.f77_semantics.specs.Program.{Routine}
use Rattle.f77_semantics.specs.Statements.{turn}
use Rattle.f77_semantics.specs.Units.{entry, associated, entered, beginning}
use Rattle.f77_semantics.specs.Source.{routine}
use Rattle.run_calls.specs.Behaviours.{Behaviour, activation}
use Rattle.run_records.specs.Records.{Association, Record}
use Rattle.run_records.specs.Serving.{Serves}
use Rattle.run_records.specs.Oracles.{ServesByRows}

-- What a unit does from where its cells were cleared at the entry: the bounds of its dummy arrays, which is no step, and turn by turn its
-- statements.
abbrev pub unit_behaviour : Routine → Behaviour
unit_behaviour u = activation (λ ds. entry (entered u ds) u.dummy_arrays) (turn u) (λ f. beginning u)

abbrev pub within_size : Option ℕ → ℕ → Bool
within_size None o = false
within_size (Some n) o = nat_lt o n

-- the dummies of a unit, the units of its local area, and those of the blocks that it declares, up to the size that it declares
abbrev pub is_own : Unit → Item → Bool
is_own u (item.Dummy k) = nat_lt k (length u.dummies)
is_own u (item.Local o) = nat_lt o (local_size u)
is_own u (item.Common b o) = within_size (what (blocks u) b) o

-- A dummy covers what its actual gives it, a scalar one location of that; a storage unit covers itself.
abbrev pub interval_in : Routine → List Interval → Item → Option Interval
interval_in u ds (item.Dummy k) = slice_get (associated u.dummy_arrays 0 ds) k
interval_in u ds (item.Local o) = Some (record { area = Local u.name; from = o; length = 1 })
interval_in u ds (item.Common b o) = Some (record { area = Block b; from = o; length = 1 })

-- where the own items of a unit stand, by its actual arguments
abbrev pub associate : Unit → List Interval → Association
associate u ds = record { own = is_own u; interval = interval_in (routine u) ds }

-- A behaviour serves a unit under a record.
abbrev pub ServesUnit : Record → Unit → Behaviour → Type 0
ServesUnit r u b = Serves (associate u) r (unit_behaviour (routine u)) b

-- the same by call oracles
abbrev pub ServesUnitByRows : Record → Unit → Behaviour → Type 0
ServesUnitByRows r u b = ServesByRows (associate u) r (unit_behaviour (routine u)) b
