-- The parts of statements that are read from such tokens have integers of 64 bits.
use Rattle.std.proofs.Common.{◌≡◌, ℕ, zero, suc, ◌<◌, ◌^◌, Bool, true, false, List, ℤ, pos, negsuc, neg_ℤ, refl, ap, ◌∙◌, nat_lt, arith}
use Rattle.std.specs.List.{list_all}
use Rattle.std.proofs.lemmas.Bool.Decides.{nat_tests}
use Rattle.run_inputs.specs.Inputs.{is_word64}
use Rattle.f77_tree.specs.declared.expr.Expr.{Expr}
use Rattle.f77_tree.specs.declared.form.DataConst.{DataConst}
use Rattle.f77_tree.specs.declared.form.Declarator.{Declarator}
use Rattle.f77_expr.specs.Kinds.{Tokens}
use Rattle.f77_expr.specs.Grammar.{ReadsExpression}
use Rattle.form_parts.specs.Listed.{Listed, last, more, Parenthesized, Chained, none, some, Sequence}
use Rattle.form_parts.specs.Parts.{IsName, IsVariable, plain, element}
use Rattle.form_specification.specs.DataForms as d
use Rattle.form_specification.specs.Declarators as shapes
use Rattle.form_specification.specs.Specifications as c
use Rattle.form_execution.specs.Control.{IsCondition}
use Rattle.form_execution.specs.InputOutput as io
use Rattle.form_execution.specs.Transfer.{IsLabel}
use Rattle.word_laws.specs.Literals.{has_word64, optional_has_word64, bound_has_word64, declarator_has_word64, data_has_word64}
use Rattle.word_texts.proofs.Tokens.{IsSmall, Small, small_word, behind, behind_one, first_small, comma_small}
use Rattle.word_texts.proofs.Expressions.{join, word_Apply, word_Int, word_Truth, word_Text, word_Scalar, read}

-- ---- lists of parts

-- A part passes a test, and leaves such tokens.
abbrev pub Reading : {A : Type 0} → (Tokens → A → Tokens → Type 0) → (A → Bool) → Type 0
Reading {A} Part t = (ts s : Tokens) (x : A) → Part ts x s → Small ts → (t x ≡ true) × Small s

pub listed_all : {A : Type 0} → (Part : Tokens → A → Tokens → Type 0) (t : A → Bool) → Reading Part t → {ts s : Tokens} {all : List A} → Listed Part ts all s → Small ts → (list_all t all ≡ true) × Small s
listed_all Part t r (last {x = x} p eq) h = let b = r _ _ x p h in (ap (list_all t) eq ∙ join (t x) true b.0 refl, b.1)
listed_all Part t r (more {x = x} {others = others} p n l eq) h =
    let b = r _ _ x p h in
    let c = listed_all Part t r l (behind n b.1) in
    (ap (list_all t) eq ∙ join (t x) (list_all t others) b.0 c.0, c.1)

pub inside_all : {A : Type 0} → (Part : Tokens → A → Tokens → Type 0) (t : A → Bool) → Reading Part t → (ts s : Tokens) (all : List A) → Parenthesized Part ts all s → Small ts → (list_all t all ≡ true) × Small s
inside_all Part t r ts s all p h = let b = listed_all Part t r p.listed (behind p.opens h) in (b.0, behind p.closes b.1)

chained_all : {A : Type 0} → (Part : Tokens → A → Tokens → Type 0) (t : A → Bool) → Reading Part t → {ts : Tokens} {all : List A} → Chained Part ts all → Small ts → list_all t all ≡ true
chained_all Part t r (none e eq) h = ap (list_all t) eq
chained_all Part t r (some {ts = ts} {x = x} {others = others} l p k eq) h =
    let b = r _ _ x p (comma_small ts h) in
    ap (list_all t) eq ∙ join (t x) (list_all t others) b.0 (chained_all Part t r k b.1)

pub sequence_all : {A : Type 0} → (First Part : Tokens → A → Tokens → Type 0) (t : A → Bool) → Reading First t → Reading Part t → (ts : Tokens) (all : List A) → Sequence First Part ts all → Small ts → list_all t all ≡ true
sequence_all First Part t f r ts all q h =
    let b = f _ _ q.x q.first h in
    ap (list_all t) q.is ∙ join (t q.x) (list_all t q.others) b.0 (chained_all Part t r q.chained b.1)

-- ---- expressions, names and labels

pub expression : Reading ReadsExpression has_word64
expression ts s x r h = read r h

name_small : (ts : Tokens) (name : List ℕ) (s : Tokens) → IsName ts name s → Small ts → Small s
name_small ts name s n h = behind_one ts _ s n.front h

abbrev pub anything : ℕ → Bool
anything n = true

pub label : Reading IsLabel anything
label ts s n l h = (refl, behind_one ts _ s l.front h)

pub variable : Reading IsVariable has_word64
variable ts s x (plain {name = name} n eq) h = (ap has_word64 eq ∙ word_Scalar name, name_small _ _ _ n h)
variable ts s x (element {name = name} {subscripts = all} n l eq) h =
    let b = inside_all ReadsExpression has_word64 expression _ _ all l (name_small _ _ _ n h) in
    (ap has_word64 eq ∙ (word_Apply name all ∙ b.0), b.1)

pub item : Reading io.IsItem has_word64
item ts s x (io.value r) h = read r h
item ts s x (io.literal bytes f eq) h = (ap has_word64 eq ∙ word_Text bytes, behind_one ts _ s f h)

pub condition : Reading IsCondition has_word64
condition ts s x c h = let b = read c.reads (behind c.opens h) in (b.0, behind c.closes b.1)

-- ---- declarators

upper : Reading shapes.IsUpper optional_has_word64
upper ts s high (shapes.given r eq) h = let b = read r h in (ap optional_has_word64 eq ∙ b.0, b.1)
upper ts s high (shapes.assumed n eq) h = (ap optional_has_word64 eq, behind n h)

bound : Reading shapes.IsBound bound_has_word64
bound ts s x (shapes.upper {high = high} u eq) h = let b = upper _ _ high u h in (ap bound_has_word64 eq ∙ b.0, b.1)
bound ts s x (shapes.both {low = low} {high = high} r n u eq) h =
    let b = read r h in
    let c = upper _ _ high u (behind n b.1) in
    (ap bound_has_word64 eq ∙ join (has_word64 low) (optional_has_word64 high) b.0 c.0, c.1)

pub declarator : Reading shapes.IsDeclarator declarator_has_word64
declarator ts s x (shapes.plain n eq) h = (ap (list_all bound_has_word64) eq, name_small _ _ _ n h)
declarator ts s x (shapes.array n a) h = inside_all shapes.IsBound bound_has_word64 bound _ s x.bounds a.listed (name_small _ _ _ n h)

-- ---- COMMON and PARAMETER

abbrev pub block_has : List ℕ × List Declarator → Bool
block_has block = list_all declarator_has_word64 block.1

block_small : (ts : Tokens) (name : List ℕ) (s : Tokens) → c.IsBlock ts name s → Small ts → Small s
block_small ts name s (c.named n) h = behind n.closes (name_small _ _ _ n.name_is (behind n.opens h))
block_small ts name s (c.blank n eq) h = behind n.closes (behind n.opens h)

pub entry : Reading c.IsEntry block_has
entry ts s x n h = listed_all shapes.IsDeclarator declarator_has_word64 declarator n.listed (block_small ts x.0 n.rest n.block h)

pub first_entry : Reading c.IsFirstEntry block_has
first_entry ts s x (c.with_block n) h = entry ts s x n h
first_entry ts s x (c.without_block e l) h = listed_all shapes.IsDeclarator declarator_has_word64 declarator l h

abbrev pub definition_has : List ℕ × Expr → Bool
definition_has definition = has_word64 definition.1

pub definition : Reading c.IsConstant definition_has
definition ts s x n h = read n.value (behind n.equals (name_small ts x.0 n.rest n.name h))

-- ---- DATA

record Signed (n : ℤ) (s : Tokens) : Type 0 where
  has : is_word64 n ≡ true
  rest : Small s

less : (n m : ℕ) → suc n < m → nat_lt n m ≡ true
less n m l = grind (arith, nat_tests)

opposite : (n : ℤ) → IsSmall n → is_word64 (neg_ℤ n) ≡ true
opposite (pos zero) h = small_word (pos 0) h
opposite (pos (suc n)) h = less n (2 ^ 63) h
opposite (negsuc n) h = absurd h

signed : (ts s : Tokens) (n : ℤ) → d.IsSigned ts n s → Small ts → Signed n s
signed ts s n (d.bare i) h = record { has = small_word n (first_small _ n _ _ i.front h); rest = behind_one _ _ _ i.front h }
signed ts s n (d.plus p i) h = let k = behind p h in record { has = small_word n (first_small _ n _ _ i.front k); rest = behind_one _ _ _ i.front k }
signed ts s m (d.minus {n = n} p i eq) h = let k = behind p h in record { has = ap is_word64 eq ∙ opposite n (first_small _ n _ _ i.front k); rest = behind_one _ _ _ i.front k }

value : Reading d.IsValue has_word64
value ts s x (d.number {n = n} i eq) h = let b = signed ts s n i h in (ap has_word64 eq ∙ (word_Int n ∙ b.has), b.rest)
value ts s x (d.yes n eq) h = (ap has_word64 eq ∙ word_Truth true, behind n h)
value ts s x (d.no n eq) h = (ap has_word64 eq ∙ word_Truth false, behind n h)
value ts s x (d.named {name = name} n eq) h = (ap has_word64 eq ∙ word_Scalar name, name_small _ _ _ n h)

times_small : (ts : Tokens) (x : Expr) (s : Tokens) → d.IsTimes ts x s → Small ts → Small s
times_small ts x s (d.count i p eq) h = behind_one _ _ _ i.front h
times_small ts x s (d.by_name n eq) h = name_small _ _ _ n h

abbrev constant_has : DataConst → Bool
constant_has c = has_word64 c.value

constant : Reading d.IsConst constant_has
constant ts s x (d.once v eq) h = value ts s x.value v h
constant ts s x (d.repeated {r = r} p v eq) h = value _ s x.value v (behind p.star (times_small ts r p.rest p.times h))

pub group : Reading d.IsGroup data_has_word64
group ts s x g h =
    let b = listed_all IsVariable has_word64 variable g.items h in
    let k = listed_all d.IsConst constant_has constant g.consts.listed (behind g.consts.opens b.1) in
    (k.0, behind g.consts.closes k.1)
