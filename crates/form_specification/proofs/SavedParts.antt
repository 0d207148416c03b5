-- What SAVE names is read in one way.
use Rattle.std.proofs.Common.{◌≡◌, ℕ, ◌<◌, true, List, [], length, ap, sym, ◌∙◌, refl, arith, flat_map}
use Rattle.f77_expr.specs.Kinds.{Tokens}
use Rattle.form_specification.specs.declared.saved.Saved.{Saved}
use Rattle.form_specification.specs.declared.saved.Saved.TheVariants as saved
use Rattle.form_parts.specs.Listed.{Listed, last, more, Whole}
use Rattle.form_parts.specs.Only.{Sole, OnlyPart, NoPart, OnlyFront, NoFront}
use Rattle.form_parts.specs.Parts.{IsName}
use Rattle.form_specification.specs.Specifications.{IsNamedBlock, IsSaved, a_name, a_block, name_in, block_in, IsSave, alone, some}
use Rattle.form_parts.proofs.NextToken.{same_kind, name_next, none_next, nil_of}

name_only : {ts s z : Tokens} {name : List ℕ} {x : Saved} → OnlyFront IsName ts name s → IsSaved ts x z → (x ≡ saved.Name name) × (z ≡ s)
name_only {z = z} o (a_name {name = other} n is) = let same = o.only other z n in (is ∙ ap saved.Name same.0, same.1)
name_only o (a_block b is) = let kinds = same_kind (name_next o.part) b.opens in cc

pub saves_name : {ts s : Tokens} {name : List ℕ} → OnlyFront IsName ts name s → OnlyPart IsSaved true ts (saved.Name name) s
saves_name o = record { part = a_name o.part refl; shorter = o.shorter; only = λ x z p f. name_only o p }

block_only : {ts s z : Tokens} {name : List ℕ} {x : Saved} → NoFront IsName ts → OnlyFront IsNamedBlock ts name s → IsSaved ts x z → (x ≡ saved.Block name) × (z ≡ s)
block_only {z = z} lacks o (a_name {name = other} n is) = absurd (lacks.not other z n)
block_only {z = z} lacks o (a_block {name = other} b is) = let same = o.only other z b in (is ∙ ap saved.Block same.0, same.1)

pub saves_block : {ts s : Tokens} {name : List ℕ} → NoFront IsName ts → OnlyFront IsNamedBlock ts name s → OnlyPart IsSaved true ts (saved.Block name) s
saves_block lacks o = record { part = a_block o.part refl; shorter = o.shorter; only = λ x z p f. block_only lacks o p }

neither : {ts z : Tokens} {x : Saved} → NoFront IsName ts → NoFront IsNamedBlock ts → IsSaved ts x z → ⊥
neither {z = z} n b (a_name {name = other} m is) = n.not other z m
neither {z = z} n b (a_block {name = other} c is) = b.not other z c

pub saves_nothing : {ts : Tokens} → NoFront IsName ts → NoFront IsNamedBlock ts → NoPart IsSaved true ts
saves_nothing n b = record { not = λ x z p f. neither n b p }

-- ---- the whole

saved_next : {ts s : Tokens} {x : Saved} → IsSaved ts x s → ts ≡ [] → ⊥
saved_next (a_name n is) empty = none_next empty (name_next n)
saved_next (a_block b is) empty = none_next empty b.opens

listed_next : {ts s : Tokens} {all : List Saved} → Listed IsSaved ts all s → ts ≡ [] → ⊥
listed_next (last p is) empty = saved_next p empty
listed_next (more p n l is) empty = saved_next p empty

alone_only : {ts : Tokens} {x : List (List ℕ) × List (List ℕ)} → ts ≡ [] → IsSave ts x → x ≡ ([], [])
alone_only empty (alone e is) = is
alone_only empty (some l is) = absurd (listed_next l empty)

pub saves_all : {ts : Tokens} → length ts ≡ 0 → Sole IsSave ts ([], [])
saves_all empty = let e = nil_of _ empty in record { is = alone e refl; only = λ x s. alone_only e s }

abbrev told : List Saved → List (List ℕ) × List (List ℕ)
told all = (flat_map name_in all, flat_map block_in all)

some_only : {ts : Tokens} {all : List Saved} {y : List (List ℕ) × List (List ℕ)} → 0 < length ts → Sole (Whole IsSaved) ts all → IsSave ts y → y ≡ told all
some_only filled o (alone e is) = absurd (omega (arith, ap length e, filled))
some_only filled o (some {all = others} l is) = is ∙ ap told (o.only others l)

pub saves_some : {ts : Tokens} {all : List Saved} {x : List (List ℕ) × List (List ℕ)} → 0 < length ts → Sole (Whole IsSaved) ts all → x ≡ (flat_map name_in all, flat_map block_in all) → Sole IsSave ts x
saves_some filled o is = record { is = some o.is is; only = λ y s. some_only filled o s ∙ sym is }
