-- Whatever reads them: tokens have at most one form of each kind.
use Rattle.std.proofs.Common.{◌≡◌, ℕ, ℤ, ◌<◌, true, false, List, [], ◌∷◌, length, ap, sym, ◌∙◌, subst, refl, arith, Some}
use Rattle.f77_tree.specs.declared.expr.Expr.{Expr}
use Rattle.f77_tree.specs.declared.form.Declarator.{Declarator}
use Rattle.f77_tree.specs.declared.form.DataConst.{DataConst}
use Rattle.f77_tree.specs.declared.form.TypeWord.{TypeWord}
use Rattle.f77_expr.specs.declared.token.Token.TheVariants as t
use Rattle.f77_expr.specs.declared.token.Kind.TheVariants as k
use Rattle.f77_expr.specs.Kinds.{Tokens, IsNext}
use Rattle.f77_expr.specs.Grammar.{ReadsExpression}
use Rattle.form_specification.specs.declared.saved.Saved.{Saved}
use Rattle.form_parts.specs.Listed.{Listed, Whole}
use Rattle.form_parts.specs.Only.{Follows, over, cut, OnlyPart, OnlyListed, OnlyFront, NoFront, Resumes, OnlyEntry, Sole}
use Rattle.form_parts.specs.Parts.{IsName, IsVariable}
use Rattle.form_specification.specs.Declarators.{AreBounds, IsDeclarator, plain, array, AreDeclarators, AreArrays}
use Rattle.form_specification.specs.Specifications.{IsNamedBlock, AreSlashes, IsBlock, named, blank, IsEntry, IsFirstEntry, with_block, without_block, IsCommon, IsConstant, IsParameter, AreNames, IsSaved, a_name, a_block, IsSave, alone, some, IsLetter, type_of, IsTypeWord, IsRange, single, both, IsRule, IsImplicit}
use Rattle.form_specification.specs.DataForms.{IsInteger, IsSigned, bare, plus, minus, IsValue, number, yes, no, named as by_its_name, IsTimes, count, by_name, IsRepeat, IsConst, once, repeated, AreConsts, IsGroup, IsData}
use Rattle.form_parts.proofs.NextToken.{next_shorter, same_kind, same_rest, pair_is, name_next}
use Rattle.form_parts.proofs.Lists.{halts_at_nothing, halts_at_slash}
use Rattle.form_parts.proofs.Following.{settles_follows, not_open}
use Rattle.form_specification.proofs.Declaring.{declares_array, declares_plain}
use Rattle.form_parts.proofs.Fronts.{part_of_front}
use Rattle.form_specification.proofs.Blocks.{blank_block, block_named, entry_follows, entry_halts, is_entry, first_without, first_of_entry}
use Rattle.form_specification.proofs.SavedParts.{saves_name, saves_block, saves_all, saves_some}
use Rattle.form_specification.proofs.Letters.{one_letter, two_letters, is_rule, not_minus}
use Rattle.form_specification.proofs.DataParts.{signed_minus, signed_plus, signed_bare, value_number, value_yes, value_no, value_name, times_count, times_name, const_repeated, const_once, const_is, not_once, are_consts, is_group}
use Rattle.form_parts.proofs.OneParts.{Readings, one_list, one_enclosed, one_whole, one_sequence, one_name, only_expression, one_variable}
use Rattle.form_specification.proofs.OneBounds.{one_bounds}

-- ---- declarators

no_bounds : {ts : Tokens} → Follows true ts → NoFront AreBounds ts
no_bounds f = record { not = λ all z b. not_open f b.listed.opens }

pub one_declarator : Readings → (ts s : Tokens) (d : Declarator) → IsDeclarator ts d s → Follows true s → OnlyPart IsDeclarator true ts d s
one_declarator laws ts s d (plain n is) f =
    subst (λ bounds. OnlyPart IsDeclarator true ts (record { name = d.name; bounds = bounds }) s) (sym is) (declares_plain (one_name n) (no_bounds f))
one_declarator laws ts s d (array n b) f = declares_array (one_name n) (one_bounds laws b)

pub one_declarators : Readings → {ts : Tokens} {all : List Declarator} → AreDeclarators ts all → Sole AreDeclarators ts all
one_declarators laws q = one_whole IsDeclarator true (one_declarator laws) q

pub one_arrays : Readings → {ts : Tokens} {all : List Declarator} → AreArrays ts all → Sole AreArrays ts all
one_arrays laws q = record { is = q; only = λ others p. (one_declarators laws q.declarators).only others p.declarators }

-- ---- COMMON

named_same : {ts s z : Tokens} {name other : List ℕ} → IsNamedBlock ts name s → IsNamedBlock ts other z → (other ≡ name) × (z ≡ s)
named_same {z = z} {other = other} b c =
    let inside = subst (λ w. IsName w other c.behind) (same_rest b.opens c.opens) c.name_is in
    let same = (one_name b.name_is).only other c.behind inside in
    (same.0, same_rest b.closes (subst (λ w. IsNext w k.Slash z) same.1 c.closes))

one_named : {ts s : Tokens} {name : List ℕ} → IsNamedBlock ts name s → OnlyFront IsNamedBlock ts name s
one_named b = record {
  part = b;
  shorter = omega (arith, next_shorter b.opens, next_shorter (name_next b.name_is), next_shorter b.closes);
  only = λ other z c. named_same b c;
}

not_slashes : {ts s z : Tokens} {name : List ℕ} → IsNamedBlock ts name s → AreSlashes ts z → ⊥
not_slashes {z = z} b c =
    let closes = subst (λ w. IsNext w k.Slash z) (same_rest b.opens c.opens) c.closes in
    let kinds = same_kind (name_next b.name_is) closes in cc

one_block : {ts s : Tokens} {name : List ℕ} → IsBlock ts name s → OnlyFront IsBlock ts name s
one_block (named b) = block_named (record { not = λ z c. not_slashes b c }) (one_named b)
one_block {ts} {s} (blank b is) = subst (λ name. OnlyFront IsBlock ts name s) (sym is) (blank_block b)

list_of_block : Readings → {ts s : Tokens} {all : List Declarator} → Listed IsDeclarator ts all s → Resumes IsEntry s → OnlyListed IsDeclarator true ts all s
list_of_block laws l r = one_list IsDeclarator true (one_declarator laws) l (entry_follows r) (entry_halts r)

one_entry : Readings → (ts s : Tokens) (x : List ℕ × List Declarator) → IsEntry ts x s → Resumes IsEntry s → OnlyEntry IsEntry IsEntry ts x s
one_entry laws ts s x e r = is_entry (one_block e.block) (list_of_block laws e.listed r)

one_first : Readings → (ts s : Tokens) (x : List ℕ × List Declarator) → IsFirstEntry ts x s → Resumes IsEntry s → OnlyEntry IsFirstEntry IsEntry ts x s
one_first laws ts s x (with_block e) r = first_of_entry e (one_entry laws ts s x e r)
one_first laws ts s x (without_block is l) r =
    subst (λ x. OnlyEntry IsFirstEntry IsEntry ts x s) (sym (pair_is x is refl)) (first_without (list_of_block laws l r))

pub one_common : Readings → {ts : Tokens} {all : List (List ℕ × List Declarator)} → IsCommon ts all → Sole IsCommon ts all
one_common laws q = one_sequence IsFirstEntry IsEntry (one_first laws) (one_entry laws) q

-- ---- PARAMETER

constant_same : Readings → {ts s z : Tokens} {x y : List ℕ × Expr} → IsConstant ts x s → Follows false s → IsConstant ts y z → Follows false z → (y ≡ x) × (z ≡ s)
constant_same laws {z = z} {y = y} c f d g =
    let names = (one_name c.name).only y.0 d.rest d.name in
    let place = same_rest c.equals (subst (λ w. IsNext w k.Equals d.after) names.1 d.equals) in
    let values = only_expression laws c.value (settles_follows f) y.1 z (subst (λ w. ReadsExpression w y.1 z) place d.value) (settles_follows g) in
    (pair_is y names.0 values.0, values.1)

one_constant : Readings → (ts s : Tokens) (x : List ℕ × Expr) → IsConstant ts x s → Follows false s → OnlyPart IsConstant false ts x s
one_constant laws ts s x c f = record {
  part = c;
  shorter = omega (arith, next_shorter (name_next c.name), next_shorter c.equals, laws.taken c.after s x.1 c.value);
  only = λ y z d g. constant_same laws c f d g;
}

pub one_parameter : Readings → {ts : Tokens} {all : List (List ℕ × Expr)} → IsParameter ts all → Sole IsParameter ts all
one_parameter laws q = record { is = q; only = λ others p. ((one_enclosed IsConstant false (one_constant laws) q).only others [] p).0 }

-- ---- EXTERNAL and INTRINSIC

name_part : (ts s : Tokens) (name : List ℕ) → IsName ts name s → Follows true s → OnlyPart IsName true ts name s
name_part ts s name n f = part_of_front (one_name n)

pub one_names : {ts : Tokens} {all : List (List ℕ)} → AreNames ts all → Sole AreNames ts all
one_names q = one_whole IsName true name_part q

-- ---- SAVE

not_a_name : {ts s z : Tokens} {name other : List ℕ} → IsNamedBlock ts name s → IsName ts other z → ⊥
not_a_name b n = let kinds = same_kind (name_next n) b.opens in cc

one_saved : (ts s : Tokens) (x : Saved) → IsSaved ts x s → Follows true s → OnlyPart IsSaved true ts x s
one_saved ts s x (a_name n is) f = subst (λ x. OnlyPart IsSaved true ts x s) (sym is) (saves_name (one_name n))
one_saved ts s x (a_block b is) f =
    subst (λ x. OnlyPart IsSaved true ts x s) (sym is) (saves_block (record { not = λ other z n. not_a_name b n }) (one_named b))

filled_list : {ts : Tokens} {all : List Saved} → Whole IsSaved ts all → 0 < length ts
filled_list q = let o = one_whole IsSaved true one_saved q in omega (arith, (one_list IsSaved true one_saved q (over refl) (halts_at_nothing refl)).shorter)

pub one_save : {ts : Tokens} {x : List (List ℕ) × List (List ℕ)} → IsSave ts x → Sole IsSave ts x
one_save {ts} (alone empty is) = subst (λ x. Sole IsSave ts x) (sym is) (saves_all (ap length empty))
one_save (some q is) = saves_some (filled_list q) (one_whole IsSaved true one_saved q) is

-- ---- IMPLICIT

letter_same : {ts s z : Tokens} {a b : ℕ} → IsLetter ts a s → IsLetter ts b z → (b ≡ a) × (z ≡ s)
letter_same {z = z} {b = b} l m = let same = (one_name l).only (b ∷ []) z m in let first = same.0 in (cc, same.1)

the_letter : {ts s : Tokens} {a : ℕ} → IsLetter ts a s → OnlyFront IsLetter ts a s
the_letter l = record { part = l; shorter = next_shorter (name_next l); only = λ b z m. letter_same l m }

one_range : (ts s : Tokens) (x : ℕ × ℕ) → IsRange ts x s → Follows false s → OnlyPart IsRange false ts x s
one_range ts s x (single l is) f =
    subst (λ x. OnlyPart IsRange false ts x s) (sym is) (one_letter (the_letter l) (record { not = λ rest n. not_minus f n }))
one_range ts s x (both l n m is) f = subst (λ x. OnlyPart IsRange false ts x s) (sym is) (two_letters (the_letter l) n (the_letter m))

type_same : {ts s z : Tokens} {x y : TypeWord} → IsTypeWord ts x s → IsTypeWord ts y z → (y ≡ x) × (z ≡ s)
type_same {x = x} {y = y} a b =
    let words : b.word ≡ a.word = cc (a.front, b.front) in
    let types : Some y ≡ Some x = sym b.is ∙ (ap type_of words ∙ a.is) in
    (cc, cc (a.front, b.front))

type_next : {ts s : Tokens} {x : TypeWord} → IsTypeWord ts x s → IsNext ts k.Word s
type_next w = record { token = t.Word w.word; front = w.front; is = refl }

one_type : {ts s : Tokens} {x : TypeWord} → IsTypeWord ts x s → OnlyFront IsTypeWord ts x s
one_type w = record { part = w; shorter = next_shorter (type_next w); only = λ y z v. type_same w v }

one_rule : (ts s : Tokens) (x : TypeWord × List (ℕ × ℕ)) → IsRule ts x s → Follows true s → OnlyPart IsRule true ts x s
one_rule ts s x q f = is_rule (one_type q.type_is) (one_enclosed IsRange false one_range q.letters)

pub one_implicit : {ts : Tokens} {all : List (TypeWord × List (ℕ × ℕ))} → IsImplicit ts all → Sole IsImplicit ts all
one_implicit q = one_whole IsRule true one_rule q

-- ---- DATA

integer_same : {ts s z : Tokens} {n m : ℤ} → IsInteger ts n s → IsInteger ts m z → (m ≡ n) × (z ≡ s)
integer_same i j = let fronts = sym i.front ∙ j.front in (cc, cc)

one_integer : {ts s : Tokens} {n : ℤ} → IsInteger ts n s → OnlyFront IsInteger ts n s
one_integer i = record { part = i; shorter = omega (arith, ap length i.front); only = λ m z j. integer_same i j }

one_signed : {ts s : Tokens} {n : ℤ} → IsSigned ts n s → OnlyFront IsSigned ts n s
one_signed (bare i) = signed_bare (one_integer i)
one_signed (plus n i) = signed_plus n (one_integer i)
one_signed {ts} {s} (minus n i is) = subst (λ m. OnlyFront IsSigned ts m s) (sym is) (signed_minus n (one_integer i))

one_value : {ts s : Tokens} {x : Expr} → IsValue ts x s → OnlyFront IsValue ts x s
one_value {ts} {s} (number i is) = subst (λ x. OnlyFront IsValue ts x s) (sym is) (value_number (one_signed i))
one_value {ts} {s} (yes n is) = subst (λ x. OnlyFront IsValue ts x s) (sym is) (value_yes n)
one_value {ts} {s} (no n is) = subst (λ x. OnlyFront IsValue ts x s) (sym is) (value_no n)
one_value {ts} {s} (by_its_name n is) = subst (λ x. OnlyFront IsValue ts x s) (sym is) (value_name (one_name n))

one_times : {ts s : Tokens} {x : Expr} → IsTimes ts x s → OnlyFront IsTimes ts x s
one_times {ts} {s} (count i h is) = subst (λ x. OnlyFront IsTimes ts x s) (sym is) (times_count (one_integer i) h)
one_times {ts} {s} (by_name n is) = subst (λ x. OnlyFront IsTimes ts x s) (sym is) (times_name (one_name n))

repeat_same : {ts s z : Tokens} {x y : Expr} → IsRepeat ts x s → IsRepeat ts y z → (y ≡ x) × (z ≡ s)
repeat_same {z = z} {y = y} a b =
    let same = (one_times a.times).only y b.rest b.times in
    (same.0, same_rest a.star (subst (λ w. IsNext w k.Star z) same.1 b.star))

one_repeat : {ts s : Tokens} {x : Expr} → IsRepeat ts x s → OnlyFront IsRepeat ts x s
one_repeat a = record { part = a; shorter = omega (arith, (one_times a.times).shorter, next_shorter a.star); only = λ y z b. repeat_same a b }

one_const : (ts s : Tokens) (c : DataConst) → IsConst ts c s → Follows true s → OnlyPart IsConst true ts c s
one_const ts s c (once v is) f =
    subst (λ c. OnlyPart IsConst true ts c s) (sym (const_is c is refl)) (const_once (record { not = λ r z a. not_once a v f }) (one_value v))
one_const ts s c (repeated a v is) f =
    subst (λ c. OnlyPart IsConst true ts c s) (sym (const_is c is refl)) (const_repeated (one_repeat a) (one_value v))

one_consts : {ts s : Tokens} {all : List DataConst} → AreConsts ts all s → OnlyFront AreConsts ts all s
one_consts {s = s} q = are_consts q.opens (one_list IsConst true one_const q.listed (cut s refl q.closes) (halts_at_slash q.closes)) q.closes

one_group : Readings → (ts s : Tokens) (x : List Expr × List DataConst) → IsGroup ts x s → Resumes IsGroup s → OnlyEntry IsGroup IsGroup ts x s
one_group laws ts s x q r =
    let opens = q.consts.opens in
    is_group (one_list IsVariable true (one_variable laws) q.items (cut q.consts.inside refl opens) (halts_at_slash opens)) (one_consts q.consts)

pub one_data : Readings → {ts : Tokens} {all : List (List Expr × List DataConst)} → IsData ts all → Sole IsData ts all
one_data laws q = one_sequence IsGroup IsGroup (one_group laws) (one_group laws) q
