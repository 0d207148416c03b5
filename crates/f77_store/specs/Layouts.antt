-- The storage of a unit: its variables, arrays, dummies and its result, each with its area, and its sites.
use Rattle.std.specs.Prelude.{ℕ, List, [], ◌∷◌, Option, Some, None, Bool, true, false, not, ◌&&◌, if◌then◌else◌, flat_map, unwrap_or, is_some}
use Rattle.std.specs.List.{position_or_len}
use Rattle.f77_tree.specs.declared.unit.Ty.TheVariants as ty
use Rattle.f77_tree.specs.declared.unit.Unit.{Unit}
use Rattle.f77_names.specs.declared.occurrences.Manner.{Manner}
use Rattle.f77_names.specs.declared.occurrences.Manner.TheVariants as manner
use Rattle.f77_names.specs.declared.occurrences.Occurrence.{Occurrence}
use Rattle.f77_names.specs.declared.attributes.Attributes.{Attributes}
use Rattle.f77_names.specs.declared.facts.Facts.{Facts}
use Rattle.f77_names.specs.declared.roles.Known.{Known}
use Rattle.f77_names.specs.declared.roles.Role.{Role}
use Rattle.f77_names.specs.declared.roles.Role.TheVariants as role
use Rattle.f77_store.specs.declared.areas.Member.{Member}
use Rattle.f77_store.specs.declared.areas.Place.{Place}
use Rattle.f77_store.specs.declared.storage.Area.{Area}
use Rattle.f77_store.specs.declared.storage.Area.TheVariants.{Dummy, Local, Common}
use Rattle.f77_store.specs.declared.storage.Slot.{Slot}
use Rattle.f77_store.specs.declared.storage.Layout.{Layout}
use Rattle.f77_store.specs.declared.layouts.Stored.{Stored}
use Rattle.f77_values.specs.Tables.{Name, name_eq, is_among, what, Told, saturated}
use Rattle.f77_names.specs.Occurrences.{Occurrences, occurrences}
use Rattle.f77_names.specs.Declarations.{declarations}
use Rattle.f77_names.specs.Roles.{facts, is_function, names}
use Rattle.f77_store.specs.Areas as area

abbrev pub is_array : Role → Bool
is_array (role.Array bounds) = true
is_array _ = false

abbrev pub is_variable : Role → Bool
is_variable (role.Array bounds) = true
is_variable role.Scalar = true
is_variable _ = false

abbrev pub is_dummy : Facts → Known → Bool
is_dummy f k = is_among f.attributes.dummies k.name

-- a variable or array that is neither a dummy nor in COMMON
abbrev pub is_local : Facts → Told Place → Known → Bool
is_local f commons k = is_variable k.role && (not (is_dummy f k) && not (is_some (what commons k.name)))

-- The local area is laid out as a block without a name, in the order of first appearance.
abbrev pub local_member : Facts → Told Place → Known → List Member
local_member f commons k = if is_local f commons k then record { block = []; name = k.name } ∷ [] else []

abbrev pub locals : Facts → Told Place → List Known → List Member
locals f commons all = flat_map (local_member f commons) all

abbrev pub common_area : Option Place → Area
common_area None = Local
common_area (Some place) = Common place.block

abbrev pub from_of : Option Place → ℕ
from_of None = 0
from_of (Some place) = place.from

abbrev pub either_place : Option Place → Option Place → Option Place
either_place (Some place) other = Some place
either_place None other = other

-- a dummy by its position in the head
abbrev pub position : Facts → Name → ℕ
position f name = saturated (position_or_len (name_eq name) f.attributes.dummies)

abbrev pub dummy_slot : Facts → Known → Slot
dummy_slot f k = record {
  name = k.name;
  ty = unwrap_or k.ty ty.Integer;
  area = Dummy (position f k.name);
  from = 0;
  size = if is_array k.role then 0 else 1;
  is_array = is_array k.role;
}

abbrev pub own_slot : Facts → Told Place → Told Place → Known → Slot
own_slot f commons own k = record {
  name = k.name;
  ty = unwrap_or k.ty ty.Integer;
  area = common_area (what commons k.name);
  from = from_of (either_place (what commons k.name) (what own k.name));
  size = area.size_of f.shapes k.name;
  is_array = is_array k.role;
}

-- Each dummy has a slot, and each variable and array.
abbrev pub slot_of : Facts → Told Place → Told Place → Known → List Slot
slot_of f commons own k =
    if is_dummy f k then dummy_slot f k ∷ []
    else (if is_variable k.role then own_slot f commons own k ∷ [] else [])

-- a CALL, or a reference to a function
abbrev pub is_site : Attributes → Manner → Name → Bool
is_site a manner.Called name = true
is_site a manner.Listed name = is_function a name
is_site a _ name = false

abbrev pub callee : Attributes → Occurrence → List Name
callee a o = if is_site a o.manner o.name then o.name ∷ [] else []

-- Storage, given the facts, the members of COMMON blocks and the names.
abbrev pub sizes : Facts → Name → ℕ
sizes f = area.size_of f.shapes

abbrev pub common_places : Facts → List Member → Told Place
common_places f commons = area.places (sizes f) commons

abbrev pub local_members : Facts → List Member → List Known → List Member
local_members f commons all = locals f (common_places f commons) all

abbrev pub local_places : Facts → List Member → List Known → Told Place
local_places f commons all = area.places (sizes f) (local_members f commons all)

abbrev pub slots_with : Facts → List Member → List Known → List Slot
slots_with f commons all = flat_map (slot_of f (common_places f commons) (local_places f commons all)) all

abbrev pub local_size_with : Facts → List Member → List Known → ℕ
local_size_with f commons all = saturated (area.total (sizes f) [] (local_members f commons all))

abbrev pub blocks_with : Facts → List Member → List (Name × ℕ)
blocks_with f commons = area.blocks (sizes f) commons

abbrev pub callees_with : Facts → Occurrences → List Name
callees_with f all = flat_map (callee f.attributes) all

abbrev pub stored_in : Facts → Told Place → List (Name × ℕ) → List Known → Stored
stored_in f commons blocks all = record {
  slots = flat_map (slot_of f commons (area.places (sizes f) (locals f commons all))) all;
  local_size = saturated (area.total (sizes f) [] (locals f commons all));
  blocks = blocks;
}

abbrev pub stored : Facts → List Member → List Known → Stored
stored f commons all = stored_in f (common_places f commons) (blocks_with f commons) all

abbrev pub layout_with : Facts → Occurrences → List Member → List Known → Layout
layout_with f all commons names = record {
  slots = slots_with f commons names;
  local_size = local_size_with f commons names;
  blocks = blocks_with f commons;
  names = names;
  callees = callees_with f all;
}

-- the layout of a unit, and its parts beside its names
abbrev pub layout_of : Unit → Layout
layout_of u = layout_with (facts u) (occurrences u) (area.commons (declarations u.statements)) (names u)

abbrev pub slots : Unit → List Slot
slots u = (layout_of u).slots

abbrev pub local_size : Unit → ℕ
local_size u = (layout_of u).local_size

abbrev pub blocks : Unit → List (Name × ℕ)
blocks u = (layout_of u).blocks

abbrev pub callees : Unit → List Name
callees u = (layout_of u).callees
