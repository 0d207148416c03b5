-- What a program means: its runs, by its units.
use Rattle.std.specs.Prelude.{ℕ, suc, List, [], ◌∷◌, ◌++◌, Option, Some, None, Bool, true, false, ℤ, map}
use Rattle.std.specs.List.{find}
use Rattle.run_model.specs.Runs.{Run, Wrong}
use Rattle.f77_tree.specs.declared.expr.Expr.{Expr}
use Rattle.f77_tree.specs.declared.unit.Ty.{Ty}
use Rattle.f77_tree.specs.declared.unit.Unit.{Unit}
use Rattle.f77_tree.specs.declared.unit.UnitKind.{UnitKind}
use Rattle.f77_tree.specs.declared.unit.UnitKind.TheVariants.{Main, Function}
use Rattle.f77_names.specs.declared.facts.Facts.{Facts}
use Rattle.f77_names.specs.declared.roles.Role.{Role}
use Rattle.f77_names.specs.declared.roles.Role.TheVariants as role
use Rattle.f77_store.specs.declared.storage.Layout.{Layout}
use Rattle.f77_store.specs.declared.storage.Slot.{Slot}
use Rattle.f77_values.specs.Tables.{Name, name_eq}
use Rattle.f77_names.specs.Roles as roles
use Rattle.f77_store.specs.Layouts.{layout_of}
use Rattle.f77_flow.specs.Blocks.{first, below}
use Rattle.f77_flow.specs.Graph.{after, leaving}
use Rattle.f77_semantics.specs.Program.{Base, Bound, DummyArray, Routine}
use Rattle.f77_semantics.specs.Units.{running}
use Rattle.f77_semantics.specs.Terms.{Meant, Variable, meant_as}
use Rattle.f77_semantics.specs.Resolve.{optional, statements_from}
use Rattle.f77_semantics.specs.Data.{initial, kept}

abbrev pub slot_named : List Slot → Name → Option Slot
slot_named slots name = find (λ s. name_eq name s.name) slots

-- what the names of a unit stand for, by its facts and its slots
abbrev pub meant_in : Facts → List Slot → Name → Meant
meant_in f slots name = meant_as f.constants name (roles.role f name) (slot_named slots name)

-- the bounds of a dummy array, which have no sites
abbrev pub bound_of : (Name → Meant) → Option Expr × Option Expr → Bound
bound_of meant bound = record { lower = optional meant bound.0 1; upper = optional meant bound.1 1 }

abbrev pub dummy_array : (Name → Meant) → ℕ → Role → List DummyArray
dummy_array meant k (role.Array bounds) = record { dummy = k; bounds = map (bound_of meant) bounds } ∷ []
dummy_array meant k _ = []

abbrev pub dummy_arrays_from : Facts → (Name → Meant) → ℕ → List Name → List DummyArray
dummy_arrays_from f meant k [] = []
dummy_arrays_from f meant k (name ∷ names) = dummy_array meant k (roles.role f name) ++ dummy_arrays_from f meant (suc k) names

abbrev pub result_as : Meant → Option (Ty × Base)
result_as (Variable ty b) = Some (ty, b)
result_as _ = None

abbrev pub result_of : UnitKind → Meant → Option (Ty × Base)
result_of Function m = result_as m
result_of _ m = None

abbrev pub is_main : UnitKind → Bool
is_main Main = true
is_main _ = false

abbrev pub routine_with : Facts → Layout → Unit → Routine
routine_with f layout u =
    let meant : Name → Meant = meant_in f layout.slots in
    record {
      name = u.name;
      statements = statements_from meant f (is_main u.kind) u.statements 0 1 u.statements;
      first = first u.statements;
      below = below u.statements;
      after = after u.statements;
      leaving = leaving u.statements;
      callees = layout.callees;
      dummy_arrays = dummy_arrays_from f meant 0 u.dummies;
      result = result_of u.kind (meant u.name);
      kept = kept u.statements layout.slots;
      initial = initial f.constants meant u.statements;
    }

-- a unit with its names, labels and sites looked up
abbrev pub routine : Unit → Routine
routine u = routine_with (roles.facts u) (layout_of u) u

-- the main program: the first unit that is one
abbrev pub main_of : List Unit → Option Unit
main_of units = find (λ u. is_main u.kind) units

abbrev pub with_main : List Routine → Option Unit → List ℤ → ℕ → Run
with_main routines None input n = Wrong
with_main routines (Some main) input n = running routines (routine main) input n

-- The run of a program on an input, just before step n + 1 would begin: it goes on, has ended, or is undefined.
abbrev pub Source : List Unit → List ℤ → ℕ → Run
Source units input n = with_main (map routine units) (main_of units) input n
