-- Names, lists of names, and what is told of names.
use Rattle.std.specs.Prelude.{ℕ, min, List, [], ◌∷◌, ◌++◌, Option, Bool, nat_eq, fold, is_some, if◌then◌else◌}
use Rattle.std.specs.List.{list_any}
use Rattle.std.specs.Map.{lookup}
use Rattle.indexmap.specs.IndexMap.{insert_entry}
use Rattle.std.specs.Cmp.Lexicographic.{pointwise}

-- a name by its bytes
abbrev pub Name : Type 0
Name = List ℕ

abbrev pub name_eq : Name → Name → Bool
name_eq = pointwise nat_eq

abbrev pub is_among : List Name → Name → Bool
is_among names name = list_any (name_eq name) names

-- a name that appears for the first time goes last
abbrev pub with_name : List Name → Name → List Name
with_name known name = if is_among known name then known else known ++ name ∷ []

-- each name once, in the order of first appearance
abbrev pub distinct : List Name → List Name
distinct names = fold with_name [] names

-- what is told of names, of each once
abbrev pub Told : Type 0 → Type 0
Told A = List (Name × A)

-- what is told of a name
abbrev pub what : {A : Type 0} → Told A → Name → Option A
what known name = lookup (name_eq name) known

-- What is told of a name again takes the place of what was told first.
abbrev pub with_told : {A : Type 0} → Told A → Name → A → Told A
with_told known name new = insert_entry name_eq known name new

abbrev pub with_pair : {A : Type 0} → Told A → Name × A → Told A
with_pair known pair = with_told known pair.0 pair.1

abbrev pub told : {A : Type 0} → List (Name × A) → Told A
told pairs = fold with_pair [] pairs

-- What is told of a name first counts, and what is told of it again doesn't.
abbrev pub with_first : {A : Type 0} → Told A → Name × A → Told A
with_first known pair = if is_some (what known pair.0) then known else with_pair known pair

abbrev pub told_first : {A : Type 0} → List (Name × A) → Told A
told_first pairs = fold with_first [] pairs

-- Numbers of storage units have 32 bits. What is more stands still at the greatest.
abbrev pub most : ℕ
most = 4294967295

abbrev pub saturated : ℕ → ℕ
saturated n = min n most
