-- Fault 13: a name has a type other than INTEGER and LOGICAL.
use Rattle.std.specs.Prelude.{ℕ, Bool, true, false, not, ◌&&◌, ◌||◌, List, map, is_some}
use Rattle.std.specs.List.{list_any}
use Rattle.f77_tree.specs.declared.unit.Unit.{Unit}
use Rattle.f77_tree.specs.declared.unit.UnitKind.{UnitKind}
use Rattle.f77_tree.specs.declared.unit.UnitKind.TheVariants.{Function}
use Rattle.f77_names.specs.declared.attributes.Attributes.{Attributes}
use Rattle.f77_names.specs.declared.occurrences.Occurrence.{Occurrence}
use Rattle.f77_names.specs.declared.facts.Facts.{Facts}
use Rattle.f77_values.specs.Tables.{Name, name_eq, is_among, distinct}
use Rattle.f77_names.specs.Occurrences.{Occurrences}
use Rattle.f77_names.specs.Roles.{is_function, is_intrinsic}
use Rattle.f77_names.specs.Types.{name_word, storage_type}
use Rattle.check_names.specs.Places.{before, occurrences_at}

abbrev pub is_function_kind : UnitKind → Bool
is_function_kind Function = true
is_function_kind _ = false

-- a function's own name
abbrev pub is_result : Unit → Name → Bool
is_result u name = is_function_kind u.kind && name_eq name u.name

-- a variable, or a dummy that is no subroutine and no procedure
abbrev pub is_variable : Attributes → Name → Bool
is_variable a name = not (is_among a.called name || is_among a.external name) && (is_among a.dummies name || not (is_intrinsic a name))

-- Subroutines, procedures and intrinsics have no type of their own. A name with another role beside one of these, which fault 12
-- refuses, has the type of that role.
abbrev pub has_type : Unit → Attributes → Name → Bool
has_type u a name = is_among a.arrays name || is_among a.constants name || is_function a name || is_result u name || is_variable a name

abbrev pub lacks_type : Unit → Facts → Name → Bool
lacks_type u f name = has_type u f.attributes name && not (is_some (storage_type (name_word f.words f.letters name)))

-- Such a name stands here, and not among those before.
abbrev pub is_new_untyped : Unit → Facts → List Name → Occurrence → Bool
is_new_untyped u f seen o = not (is_among seen o.name) && lacks_type u f o.name

abbrev pub names_in : Occurrences → List Name
names_in all = map (λ o. o.name) all

-- the names that stand before statement k, each once
abbrev pub seen_before : Unit → ℕ → List Name
seen_before u k = distinct (names_in (before (occurrences_at u) k))

-- Statement k is the one in which such a name appears first.
abbrev pub untyped_at : Facts → Unit → ℕ → Bool
untyped_at f u k = list_any (is_new_untyped u f (seen_before u k)) (occurrences_at u k)
