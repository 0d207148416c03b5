-- What holds of the runs and relocations of an object.
use Rattle.std.specs.Prelude.{ℕ, ◌+◌, ◌<◌, ◌≤◌, ◌≡◌, ◌≢◌, ◌⊎◌, List, Some}
use Rattle.std.specs.List.{slice_get}
use Rattle.obj_form.specs.declared.object.InitialRun.{InitialRun}
use Rattle.obj_form.specs.declared.object.Reloc.{Reloc}

-- The first ends before the second begins, or where it begins, and then has another value: so neither can be longer.
abbrev pub IsBefore : InitialRun → InitialRun → Type 0
IsBefore r s = (r.from + r.count < s.from) ⊎ ((r.from + r.count ≡ s.from) × (r.value ≢ s.value))

-- each run stands before the next
abbrev pub AreRuns : List InitialRun → Type 0
AreRuns runs = (i : ℕ) (r s : InitialRun) → slice_get runs i ≡ Some r → slice_get runs (i + 1) ≡ Some s → IsBefore r s

-- the pair of words of one ends before that of the other begins
abbrev pub AreApart : Reloc → Reloc → Type 0
AreApart r s = (r.word + 2 ≤ s.word) ⊎ (s.word + 2 ≤ r.word)

-- each pair of words lies in the code, and no two have a word in common
abbrev pub ArePairs : ℕ → List Reloc → Type 0
ArePairs words relocs =
    ((i : ℕ) (r : Reloc) → slice_get relocs i ≡ Some r → r.word + 2 ≤ words)
    × ((i j : ℕ) (r s : Reloc) → i < j → slice_get relocs i ≡ Some r → slice_get relocs j ≡ Some s → AreApart r s)
