-- The blocks of COMMON are read in one way.
use Rattle.std.proofs.Common.{◌≡◌, ℕ, true, List, [], ◌∷◌, subst, refl, arith}
use Rattle.f77_tree.specs.declared.form.Declarator.{Declarator}
use Rattle.f77_expr.specs.declared.token.Token.{Token}
use Rattle.f77_expr.specs.declared.token.Kind.{Kind}
use Rattle.f77_expr.specs.declared.token.Kind.TheVariants as k
use Rattle.f77_expr.specs.Kinds.{Tokens, kind_of, IsNext}
use Rattle.form_parts.specs.Listed.{Listed, last, more, behind_comma, behind_comma_at}
use Rattle.form_parts.specs.Only.{NotNext, Follows, over, comma, cut, Halts, OnlyListed, NoList, OnlyFront, NoFront, Resumes, ended, resumed, OnlyEntry, NoEntry}
use Rattle.form_parts.specs.Parts.{IsName}
use Rattle.form_specification.specs.Declarators.{IsDeclarator, plain, array}
use Rattle.form_specification.specs.Specifications.{IsNamedBlock, AreSlashes, NoSlashes, IsBlock, named, blank, IsEntry, IsFirstEntry, with_block, without_block}
use Rattle.form_parts.proofs.NextToken.{next_shorter, same_kind, same_rest, none_next, pair_is, name_next}
use Rattle.form_parts.proofs.Lists.{halts_at_nothing, halts_at_slash}

-- ---- a name between slashes

pub no_block_opens : {ts : Tokens} → NotNext ts k.Slash → NoFront IsNamedBlock ts
no_block_opens lacks = record { not = λ name z b. lacks.not b.inside b.opens }

no_closing : {ts inside behind z : Tokens} {name other : List ℕ} → IsNext ts k.Slash inside → OnlyFront IsName inside name behind → NotNext behind k.Slash → IsNamedBlock ts other z → ⊥
no_closing {z = z} {other = other} n m lacks b =
    let same = m.only other b.behind (subst (λ w. IsName w other b.behind) (same_rest n b.opens) b.name_is) in
    lacks.not z (subst (λ w. IsNext w k.Slash z) same.1 b.closes)

pub no_block_closes : {ts inside behind : Tokens} {name : List ℕ} → IsNext ts k.Slash inside → OnlyFront IsName inside name behind → NotNext behind k.Slash → NoFront IsNamedBlock ts
no_block_closes n m lacks = record { not = λ other z b. no_closing n m lacks b }

-- ---- two slashes

pub no_first_slash : {ts : Tokens} → NotNext ts k.Slash → NoSlashes ts
no_first_slash lacks = record { not = λ z b. lacks.not b.inside b.opens }

pub no_second_slash : {ts inside : Tokens} → IsNext ts k.Slash inside → NotNext inside k.Slash → NoSlashes ts
no_second_slash n lacks = record { not = λ z b. lacks.not z (subst (λ w. IsNext w k.Slash z) (same_rest n b.opens) b.closes) }

-- ---- a block

blank_only : {ts s z : Tokens} {name : List ℕ} → AreSlashes ts s → IsBlock ts name z → (name ≡ []) × (z ≡ s)
blank_only {z = z} b (named c) =
    let closes = subst (λ w. IsNext w k.Slash _) (same_rest c.opens b.opens) b.closes in
    let kinds = same_kind (name_next c.name_is) closes in cc
blank_only {z = z} b (blank c is) = (is, same_rest b.closes (subst (λ w. IsNext w k.Slash z) (same_rest b.opens c.opens) c.closes))

pub blank_block : {ts s : Tokens} → AreSlashes ts s → OnlyFront IsBlock ts [] s
blank_block b = record {
  part = blank b refl;
  shorter = omega (arith, next_shorter b.opens, next_shorter b.closes);
  only = λ name z c. blank_only b c;
}

named_only : {ts s z : Tokens} {name other : List ℕ} → NoSlashes ts → OnlyFront IsNamedBlock ts name s → IsBlock ts other z → (other ≡ name) × (z ≡ s)
named_only {z = z} {other = other} lacks o (named c) = o.only other z c
named_only {z = z} lacks o (blank c is) = absurd (lacks.not z c)

pub block_named : {ts s : Tokens} {name : List ℕ} → NoSlashes ts → OnlyFront IsNamedBlock ts name s → OnlyFront IsBlock ts name s
block_named lacks o = record { part = named o.part; shorter = o.shorter; only = λ other z c. named_only lacks o c }

neither : {ts z : Tokens} {name : List ℕ} → NoSlashes ts → NoFront IsNamedBlock ts → IsBlock ts name z → ⊥
neither {z = z} {name = name} lacks o (named c) = o.not name z c
neither {z = z} lacks o (blank c is) = lacks.not z c

pub no_block : {ts : Tokens} → NoSlashes ts → NoFront IsNamedBlock ts → NoFront IsBlock ts
no_block lacks o = record { not = λ name z c. neither lacks o c }

-- ---- where the list of a block ends

-- a slash, with a comma in front or not
data Slashed (ts : Tokens) : Type 0 where
  at_once : (rest : Tokens) → IsNext ts k.Slash rest → Slashed ts
  after_comma : (rest more : Tokens) → IsNext ts k.Comma rest → IsNext rest k.Slash more → Slashed ts

slashed_at : (kind : Kind) {token : Token} {ts rest : Tokens} → kind_of token ≡ kind → IsNext (behind_comma_at kind token ts) k.Slash rest → Slashed (token ∷ ts)
slashed_at k.Comma {token} {ts} {rest} is n = after_comma ts rest (record { token = token; front = refl; is = is }) n
slashed_at _ {rest = rest} is n = at_once rest n

slashed : (ts : Tokens) {rest : Tokens} → IsNext (behind_comma ts) k.Slash rest → Slashed ts
slashed [] n = absurd (none_next refl n)
slashed (token ∷ ts) n = slashed_at (kind_of token) refl n

block_slash : {ts s : Tokens} {name : List ℕ} → IsBlock ts name s → (rest : Tokens) × IsNext ts k.Slash rest
block_slash (named b) = (b.inside, b.opens)
block_slash (blank b is) = (b.inside, b.opens)

entry_slash : {ts : Tokens} {s : Tokens} {entry : List ℕ × List Declarator} → IsEntry (behind_comma ts) entry s → Slashed ts
entry_slash {ts} e = slashed ts (block_slash e.block).1

declarator_word : {ts s : Tokens} {d : Declarator} → IsDeclarator ts d s → (rest : Tokens) × IsNext ts k.Word rest
declarator_word {s = s} (plain n is) = (s, name_next n)
declarator_word (array {rest = rest} n b) = (rest, name_next n)

no_declarator : {ts rest s : Tokens} {d : Declarator} → IsNext ts k.Slash rest → IsDeclarator ts d s → ⊥
no_declarator n d = let kinds = same_kind n (declarator_word d).1 in cc

slashed_follows : {ts : Tokens} → Slashed ts → Follows true ts
slashed_follows (at_once rest n) = cut rest refl n
slashed_follows (after_comma rest after n m) = comma rest n

slashed_halts : {ts : Tokens} → Slashed ts → Halts IsDeclarator ts
slashed_halts (at_once rest n) = halts_at_slash n
slashed_halts (after_comma rest after n m) = record { not = λ place s d o p. no_declarator m (subst (λ w. IsDeclarator w d s) (same_rest n o) p) }

pub entry_follows : {ts : Tokens} → Resumes IsEntry ts → Follows true ts
entry_follows (ended is) = over is
entry_follows (resumed x s some e) = slashed_follows (entry_slash e)

pub entry_halts : {ts : Tokens} → Resumes IsEntry ts → Halts IsDeclarator ts
entry_halts (ended is) = halts_at_nothing is
entry_halts (resumed x s some e) = slashed_halts (entry_slash e)

-- ---- a block with its list

entry_only : {ts rest s z : Tokens} {name : List ℕ} {all : List Declarator} {y : List ℕ × List Declarator} → OnlyFront IsBlock ts name rest → OnlyListed IsDeclarator true rest all s → IsEntry ts y z → Resumes IsEntry z → (y ≡ (name, all)) × (z ≡ s)
entry_only {z = z} {y = y} b l e r =
    let same = b.only y.0 e.rest e.block in
    let lists = l.only y.1 z (subst (λ w. Listed IsDeclarator w y.1 z) same.1 e.listed) (entry_follows r) (entry_halts r) in
    (pair_is y same.0 lists.0, lists.1)

pub is_entry : {ts rest s : Tokens} {name : List ℕ} {all : List Declarator} → OnlyFront IsBlock ts name rest → OnlyListed IsDeclarator true rest all s → OnlyEntry IsEntry IsEntry ts (name, all) s
is_entry {rest = rest} b l = record {
  part = record { rest = rest; block = b.part; listed = l.listed };
  shorter = omega (arith, b.shorter, l.shorter);
  only = λ y z e r. entry_only b l e r;
}

pub no_entry : {ts rest : Tokens} {name : List ℕ} → OnlyFront IsBlock ts name rest → NoList IsDeclarator true rest → NoEntry IsEntry IsEntry ts
no_entry b l = record { not = λ y z e r. let same = b.only y.0 e.rest e.block in l.not y.1 z (subst (λ w. Listed IsDeclarator w y.1 z) same.1 e.listed) (entry_follows r) }

-- ---- the first block

listed_word : {ts s : Tokens} {all : List Declarator} → Listed IsDeclarator ts all s → (rest : Tokens) × IsNext ts k.Word rest
listed_word (last d is) = declarator_word d
listed_word (more d n l is) = declarator_word d

first_bare : {ts s z : Tokens} {all : List Declarator} {y : List ℕ × List Declarator} → OnlyListed IsDeclarator true ts all s → IsFirstEntry ts y z → Resumes IsEntry z → (y ≡ ([], all)) × (z ≡ s)
first_bare l (with_block e) r = let kinds = same_kind (listed_word l.listed).1 (block_slash e.block).1 in cc
first_bare {z = z} {y = y} l (without_block is m) r =
    let lists = l.only y.1 z m (entry_follows r) (entry_halts r) in (pair_is y is lists.0, lists.1)

pub first_without : {ts s : Tokens} {all : List Declarator} → OnlyListed IsDeclarator true ts all s → OnlyEntry IsFirstEntry IsEntry ts ([], all) s
first_without l = record { part = without_block refl l.listed; shorter = l.shorter; only = λ y z e r. first_bare l e r }

first_slashed : {ts s z : Tokens} {x y : List ℕ × List Declarator} → NoList IsDeclarator true ts → OnlyEntry IsEntry IsEntry ts x s → IsFirstEntry ts y z → Resumes IsEntry z → (y ≡ x) × (z ≡ s)
first_slashed {z = z} {y = y} l o (with_block e) r = o.only y z e r
first_slashed {z = z} {y = y} l o (without_block is m) r = absurd (l.not y.1 z m (entry_follows r))

pub first_with : {ts s : Tokens} {x : List ℕ × List Declarator} → NoList IsDeclarator true ts → OnlyEntry IsEntry IsEntry ts x s → OnlyEntry IsFirstEntry IsEntry ts x s
first_with l o = record { part = with_block o.part; shorter = o.shorter; only = λ y z e r. first_slashed l o e r }

first_not : {ts z : Tokens} {y : List ℕ × List Declarator} → NoList IsDeclarator true ts → NoEntry IsEntry IsEntry ts → IsFirstEntry ts y z → Resumes IsEntry z → ⊥
first_not {z = z} {y = y} l o (with_block e) r = o.not y z e r
first_not {z = z} {y = y} l o (without_block is m) r = l.not y.1 z m (entry_follows r)

pub no_first : {ts : Tokens} → NoList IsDeclarator true ts → NoEntry IsEntry IsEntry ts → NoEntry IsFirstEntry IsEntry ts
no_first l o = record { not = λ y z e r. first_not l o e r }

-- the first block with slashes is an entry
first_entry : {ts s z : Tokens} {x y : List ℕ × List Declarator} → IsEntry ts x s → OnlyEntry IsEntry IsEntry ts x s → IsFirstEntry ts y z → Resumes IsEntry z → (y ≡ x) × (z ≡ s)
first_entry {z = z} {y = y} e o (with_block d) r = o.only y z d r
first_entry e o (without_block is m) r = let kinds = same_kind (listed_word m).1 (block_slash e.block).1 in cc

pub first_of_entry : {ts s : Tokens} {x : List ℕ × List Declarator} → IsEntry ts x s → OnlyEntry IsEntry IsEntry ts x s → OnlyEntry IsFirstEntry IsEntry ts x s
first_of_entry e o = record { part = with_block e; shorter = o.shorter; only = λ y z d r. first_entry e o d r }
