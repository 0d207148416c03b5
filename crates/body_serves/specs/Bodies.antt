-- A body as a behaviour, when it is of a unit and serves it, and when one body does what another does.
use Rattle.std.specs.Prelude.{◌≡◌, ℕ, List, Option, Some, None, true, length}
use Rattle.run_model.specs.Storage.{Interval}
use Rattle.run_model.specs.Acts.{Done}
use Rattle.f77_tree.specs.declared.unit.Item.{Item}
use Rattle.f77_tree.specs.declared.unit.Unit.{Unit}
use Rattle.f77_values.specs.Tables.{what}
use Rattle.f77_store.specs.Layouts.{local_size, blocks, callees}
use Rattle.f77_semantics.specs.Program.{Routine}
use Rattle.f77_semantics.specs.Statements.{turn}
use Rattle.f77_semantics.specs.Units.{entry, associated, entered, beginning}
use Rattle.f77_semantics.specs.Source.{routine}
use Rattle.run_calls.specs.Behaviours.{Behaviour, activation}
use Rattle.run_records.specs.Records.{Record, Stands}
use Rattle.run_records.specs.Serving.{Serves}
use Rattle.run_alike.specs.Alike.{EntersAlike}
use Rattle.unit_serves.specs.Units.{is_own, associate, ServesUnit}
use Rattle.ir_core.specs.Listings.{Listing}
use Rattle.ir_core.specs.Runs.{Activation, body_turn, entrance}
use Rattle.ir_core.specs.Parts.{Parts, is_of}

-- An activation of a unit's body: its dummies are associated with what those of the unit are.
abbrev pub activated : Routine → List Interval → Activation
activated u ds = record { unit = u.name; actuals = associated u.dummy_arrays 0 ds }

-- What a body of a unit does from where the unit's cells were cleared. All its work is in its blocks.
abbrev pub body_behaviour : Routine → Listing → Behaviour
body_behaviour u l = activation (λ ds. Done (activated u ds)) (λ a. body_turn a l) (λ a. entrance)

-- A body serves a unit under a record.
abbrev pub BodyServes : Record → Unit → Listing → Type 0
BodyServes r u l = ServesUnit r u (body_behaviour (routine u) l)

-- The second body does what the first does, for a unit under a record.
abbrev pub BodyKeeps : Record → Unit → Listing → Listing → Type 0
BodyKeeps r u old new = Serves (associate u) r (body_behaviour (routine u) old) (body_behaviour (routine u) new)

abbrev pub or_none : Option ℕ → ℕ
or_none None = 0
or_none (Some n) = n

-- what a unit has for its bodies to name
abbrev pub parts_of : Unit → Parts
parts_of u = record { dummies = length u.dummies; locals = local_size u; common = λ b. or_none (what (blocks u) b); sites = length (callees u) }

-- the body is of the unit
abbrev pub IsOf : Unit → Listing → Type 0
IsOf u l = is_of (parts_of u) l ≡ true

-- Where each dummy has an actual argument, the body does act by act what the unit does, and the entry's work in its first step.
abbrev pub Follows : Unit → Listing → Type 0
Follows u l = (ds : List Interval) → ((x : Item) → is_own u x ≡ true → Stands (associate u ds) x)
    → EntersAlike (entry (entered (routine u) ds) (routine u).dummy_arrays) (turn (routine u)) (λ f. beginning (routine u)) (body_turn (activated (routine u) ds) l) entrance
