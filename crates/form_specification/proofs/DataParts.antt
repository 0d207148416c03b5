-- The items and constants of DATA are read in one way.
use Rattle.std.proofs.Common.{◌≡◌, ℕ, ℤ, pos, neg_ℤ, ◌<ℤ◌, true, false, List, ap, sym, ◌∙◌, subst, refl, arith, Option, Some, None}
use Rattle.f77_tree.specs.declared.expr.Expr.{Expr}
use Rattle.f77_tree.specs.declared.expr.Expr.TheVariants as e
use Rattle.f77_tree.specs.declared.form.DataConst.{DataConst}
use Rattle.f77_expr.specs.declared.token.Token.TheVariants as t
use Rattle.f77_expr.specs.declared.token.Kind.{Kind}
use Rattle.f77_expr.specs.declared.token.Kind.TheVariants as k
use Rattle.f77_expr.specs.Kinds.{Tokens, IsNext}
use Rattle.form_parts.specs.Listed.{Listed}
use Rattle.form_parts.specs.Only.{NotNext, Follows, cut, OnlyPart, NoPart, OnlyListed, NoList, OnlyFront, NoFront, OnlyEntry, NoEntry}
use Rattle.form_parts.specs.Parts.{IsName, IsVariable}
use Rattle.form_specification.specs.DataForms.{IsInteger, IsSigned, bare, plus, minus, IsValue, number, yes, no, named, IsTimes, count, by_name, IsRepeat, IsConst, once, repeated, AreConsts, IsGroup}
use Rattle.form_parts.proofs.NextToken.{next_shorter, same_kind, same_rest, pair_is, name_next}
use Rattle.form_parts.proofs.Lists.{halts_at_slash}
use Rattle.form_parts.proofs.Following.{follows_no}

integer_next : {ts s : Tokens} {n : ℤ} → IsInteger ts n s → IsNext ts k.Int s
integer_next {n = n} i = record { token = t.Int n i.digits; front = i.front; is = refl }

-- ---- integers with a sign

minus_only : {ts rest s z : Tokens} {n other : ℤ} → IsNext ts k.Minus rest → OnlyFront IsInteger rest n s → IsSigned ts other z → (other ≡ neg_ℤ n) × (z ≡ s)
minus_only m o (bare i) = let kinds = same_kind m (integer_next i) in cc
minus_only m o (plus p i) = let kinds = same_kind m p in cc
minus_only {z = z} m o (minus {n = n} p i is) = let same = o.only n z (subst (λ w. IsInteger w n z) (same_rest m p) i) in (is ∙ ap neg_ℤ same.0, same.1)

pub signed_minus : {ts rest s : Tokens} {n : ℤ} → IsNext ts k.Minus rest → OnlyFront IsInteger rest n s → OnlyFront IsSigned ts (neg_ℤ n) s
signed_minus m o = record { part = minus m o.part refl; shorter = omega (arith, next_shorter m, o.shorter); only = λ other z i. minus_only m o i }

plus_only : {ts rest s z : Tokens} {n other : ℤ} → IsNext ts k.Plus rest → OnlyFront IsInteger rest n s → IsSigned ts other z → (other ≡ n) × (z ≡ s)
plus_only m o (bare i) = let kinds = same_kind m (integer_next i) in cc
plus_only {z = z} {other = other} m o (plus p i) = o.only other z (subst (λ w. IsInteger w other z) (same_rest m p) i)
plus_only m o (minus p i is) = let kinds = same_kind m p in cc

pub signed_plus : {ts rest s : Tokens} {n : ℤ} → IsNext ts k.Plus rest → OnlyFront IsInteger rest n s → OnlyFront IsSigned ts n s
signed_plus m o = record { part = plus m o.part; shorter = omega (arith, next_shorter m, o.shorter); only = λ other z i. plus_only m o i }

bare_only : {ts s z : Tokens} {n other : ℤ} → OnlyFront IsInteger ts n s → IsSigned ts other z → (other ≡ n) × (z ≡ s)
bare_only {z = z} {other = other} o (bare i) = o.only other z i
bare_only o (plus p i) = let kinds = same_kind p (integer_next o.part) in cc
bare_only o (minus p i is) = let kinds = same_kind p (integer_next o.part) in cc

pub signed_bare : {ts s : Tokens} {n : ℤ} → OnlyFront IsInteger ts n s → OnlyFront IsSigned ts n s
signed_bare o = record { part = bare o.part; shorter = o.shorter; only = λ other z i. bare_only o i }

minus_nothing : {ts rest z : Tokens} {other : ℤ} → IsNext ts k.Minus rest → NoFront IsInteger rest → IsSigned ts other z → ⊥
minus_nothing m o (bare i) = let kinds = same_kind m (integer_next i) in cc
minus_nothing m o (plus p i) = let kinds = same_kind m p in cc
minus_nothing {z = z} m o (minus {n = n} p i is) = o.not n z (subst (λ w. IsInteger w n z) (same_rest m p) i)

pub no_signed_minus : {ts rest : Tokens} → IsNext ts k.Minus rest → NoFront IsInteger rest → NoFront IsSigned ts
no_signed_minus m o = record { not = λ other z i. minus_nothing m o i }

plus_nothing : {ts rest z : Tokens} {other : ℤ} → IsNext ts k.Plus rest → NoFront IsInteger rest → IsSigned ts other z → ⊥
plus_nothing m o (bare i) = let kinds = same_kind m (integer_next i) in cc
plus_nothing {z = z} {other = other} m o (plus p i) = o.not other z (subst (λ w. IsInteger w other z) (same_rest m p) i)
plus_nothing m o (minus p i is) = let kinds = same_kind m p in cc

pub no_signed_plus : {ts rest : Tokens} → IsNext ts k.Plus rest → NoFront IsInteger rest → NoFront IsSigned ts
no_signed_plus m o = record { not = λ other z i. plus_nothing m o i }

bare_nothing : {ts z : Tokens} {other : ℤ} → NotNext ts k.Minus → NotNext ts k.Plus → NoFront IsInteger ts → IsSigned ts other z → ⊥
bare_nothing {z = z} {other = other} a b o (bare i) = o.not other z i
bare_nothing a b o (plus {rest = rest} p i) = b.not rest p
bare_nothing a b o (minus {rest = rest} p i is) = a.not rest p

pub no_signed : {ts : Tokens} → NotNext ts k.Minus → NotNext ts k.Plus → NoFront IsInteger ts → NoFront IsSigned ts
no_signed a b o = record { not = λ other z i. bare_nothing a b o i }

-- ---- constants

signed_not : {ts s rest : Tokens} {n : ℤ} {kind : Kind} → (kind ≡ k.Int → ⊥) → (kind ≡ k.Plus → ⊥) → (kind ≡ k.Minus → ⊥) → IsNext ts kind rest → IsSigned ts n s → ⊥
signed_not a b c n (bare i) = a (same_kind (integer_next i) n)
signed_not a b c n (plus p i) = b (same_kind p n)
signed_not a b c n (minus p i is) = c (same_kind p n)

number_only : {ts s z : Tokens} {n : ℤ} {x : Expr} → OnlyFront IsSigned ts n s → IsValue ts x z → (x ≡ e.Int n) × (z ≡ s)
number_only {z = z} o (number {n = m} i is) = let same = o.only m z i in (is ∙ ap e.Int same.0, same.1)
number_only o (yes n is) = absurd (signed_not (λ e. cc) (λ e. cc) (λ e. cc) n o.part)
number_only o (no n is) = absurd (signed_not (λ e. cc) (λ e. cc) (λ e. cc) n o.part)
number_only o (named n is) = absurd (signed_not (λ e. cc) (λ e. cc) (λ e. cc) (name_next n) o.part)

pub value_number : {ts s : Tokens} {n : ℤ} → OnlyFront IsSigned ts n s → OnlyFront IsValue ts (e.Int n) s
value_number o = record { part = number o.part refl; shorter = o.shorter; only = λ x z v. number_only o v }

yes_only : {ts s z : Tokens} {x : Expr} → IsNext ts k.True s → IsValue ts x z → (x ≡ e.Truth true) × (z ≡ s)
yes_only n (number i is) = absurd (signed_not (λ e. cc) (λ e. cc) (λ e. cc) n i)
yes_only n (yes m is) = (is, same_rest n m)
yes_only n (no m is) = let kinds = same_kind n m in cc
yes_only n (named m is) = let kinds = same_kind n (name_next m) in cc

pub value_yes : {ts s : Tokens} → IsNext ts k.True s → OnlyFront IsValue ts (e.Truth true) s
value_yes n = record { part = yes n refl; shorter = next_shorter n; only = λ x z v. yes_only n v }

no_only : {ts s z : Tokens} {x : Expr} → IsNext ts k.False s → IsValue ts x z → (x ≡ e.Truth false) × (z ≡ s)
no_only n (number i is) = absurd (signed_not (λ e. cc) (λ e. cc) (λ e. cc) n i)
no_only n (yes m is) = let kinds = same_kind n m in cc
no_only n (no m is) = (is, same_rest n m)
no_only n (named m is) = let kinds = same_kind n (name_next m) in cc

pub value_no : {ts s : Tokens} → IsNext ts k.False s → OnlyFront IsValue ts (e.Truth false) s
value_no n = record { part = no n refl; shorter = next_shorter n; only = λ x z v. no_only n v }

named_only : {ts s z : Tokens} {name : List ℕ} {x : Expr} → OnlyFront IsName ts name s → IsValue ts x z → (x ≡ e.Scalar name) × (z ≡ s)
named_only o (number i is) = absurd (signed_not (λ e. cc) (λ e. cc) (λ e. cc) (name_next o.part) i)
named_only o (yes m is) = let kinds = same_kind (name_next o.part) m in cc
named_only o (no m is) = let kinds = same_kind (name_next o.part) m in cc
named_only {z = z} o (named {name = other} m is) = let same = o.only other z m in (is ∙ ap e.Scalar same.0, same.1)

pub value_name : {ts s : Tokens} {name : List ℕ} → OnlyFront IsName ts name s → OnlyFront IsValue ts (e.Scalar name) s
value_name o = record { part = named o.part refl; shorter = o.shorter; only = λ x z v. named_only o v }

no_value_at : {ts z : Tokens} {x : Expr} → NoFront IsSigned ts → NotNext ts k.True → NotNext ts k.False → NoFront IsName ts → IsValue ts x z → ⊥
no_value_at {z = z} a b c d (number {n = n} i is) = a.not n z i
no_value_at {z = z} a b c d (yes m is) = b.not z m
no_value_at {z = z} a b c d (no m is) = c.not z m
no_value_at {z = z} a b c d (named {name = name} m is) = d.not name z m

pub no_value : {ts : Tokens} → NoFront IsSigned ts → NotNext ts k.True → NotNext ts k.False → NoFront IsName ts → NoFront IsValue ts
no_value a b c d = record { not = λ x z v. no_value_at a b c d v }

-- ---- how often

count_only : {ts s z : Tokens} {n : ℤ} {x : Expr} → OnlyFront IsInteger ts n s → IsTimes ts x z → (x ≡ e.Int n) × (z ≡ s)
count_only {z = z} o (count {n = m} i h is) = let same = o.only m z i in (is ∙ ap e.Int same.0, same.1)
count_only o (by_name m is) = let kinds = same_kind (integer_next o.part) (name_next m) in cc

pub times_count : {ts s : Tokens} {n : ℤ} → OnlyFront IsInteger ts n s → pos 0 <ℤ n → OnlyFront IsTimes ts (e.Int n) s
times_count o h = record { part = count o.part h refl; shorter = o.shorter; only = λ x z c. count_only o c }

by_name_only : {ts s z : Tokens} {name : List ℕ} {x : Expr} → OnlyFront IsName ts name s → IsTimes ts x z → (x ≡ e.Scalar name) × (z ≡ s)
by_name_only o (count i h is) = let kinds = same_kind (integer_next i) (name_next o.part) in cc
by_name_only {z = z} o (by_name {name = other} m is) = let same = o.only other z m in (is ∙ ap e.Scalar same.0, same.1)

pub times_name : {ts s : Tokens} {name : List ℕ} → OnlyFront IsName ts name s → OnlyFront IsTimes ts (e.Scalar name) s
times_name o = record { part = by_name o.part refl; shorter = o.shorter; only = λ x z c. by_name_only o c }

no_times_at : {ts z : Tokens} {x : Expr} → NoFront IsInteger ts → NoFront IsName ts → IsTimes ts x z → ⊥
no_times_at {z = z} a b (count {n = n} i h is) = a.not n z i
no_times_at {z = z} a b (by_name {name = name} m is) = b.not name z m

pub no_times : {ts : Tokens} → NoFront IsInteger ts → NoFront IsName ts → NoFront IsTimes ts
no_times a b = record { not = λ x z c. no_times_at a b c }

pub no_star_behind : {ts rest : Tokens} {r : Expr} → OnlyFront IsTimes ts r rest → NotNext rest k.Star → NoFront IsRepeat ts
no_star_behind o lacks = record { not = λ x z r. let same = o.only x r.rest r.times in lacks.not z (subst (λ w. IsNext w k.Star z) same.1 r.star) }

-- ---- a constant with its repeat

-- a constant that begins as a repeat does ends before its `*`
times_end : {ts s z : Tokens} {r x : Expr} → IsTimes ts r s → IsValue ts x z → z ≡ s
times_end (count i h is) (number (bare j) eq) = same_rest (integer_next i) (integer_next j)
times_end (count i h is) (number (plus p j) eq) = let kinds = same_kind (integer_next i) p in cc
times_end (count i h is) (number (minus p j m) eq) = let kinds = same_kind (integer_next i) p in cc
times_end (count i h is) (yes m eq) = let kinds = same_kind (integer_next i) m in cc
times_end (count i h is) (no m eq) = let kinds = same_kind (integer_next i) m in cc
times_end (count i h is) (named m eq) = let kinds = same_kind (integer_next i) (name_next m) in cc
times_end (by_name n is) (number j eq) = absurd (signed_not (λ e. cc) (λ e. cc) (λ e. cc) (name_next n) j)
times_end (by_name n is) (yes m eq) = let kinds = same_kind (name_next n) m in cc
times_end (by_name n is) (no m eq) = let kinds = same_kind (name_next n) m in cc
times_end (by_name n is) (named m eq) = same_rest (name_next n) (name_next m)

pub not_once : {ts s z : Tokens} {r x : Expr} → IsRepeat ts r s → IsValue ts x z → Follows true z → ⊥
not_once {s = s} r v f = follows_no (λ e. cc) (λ e. cc) (λ e. cc) (λ e. cc) f (subst (λ w. IsNext w k.Star s) (sym (times_end r.times v)) r.star)

pub const_is : (c : DataConst) {r : Option Expr} {x : Expr} → c.repeat ≡ r → c.value ≡ x → c ≡ record { repeat = r; value = x }
const_is c {r} {x} a b = ap (λ r. record c { repeat = r }) a ∙ ap (λ x. record { repeat = r; value = x }) b

repeated_only : {ts rest s z : Tokens} {r x : Expr} {c : DataConst} → OnlyFront IsRepeat ts r rest → OnlyFront IsValue rest x s → IsConst ts c z → Follows true z → (c ≡ record { repeat = Some r; value = x }) × (z ≡ s)
repeated_only o p (once v is) f = absurd (not_once o.part v f)
repeated_only {z = z} {c = c} o p (repeated {rest = rest} {r = q} a v is) f =
    let same = o.only q rest a in
    let values = p.only c.value z (subst (λ w. IsValue w c.value z) same.1 v) in
    (const_is c (is ∙ ap (λ q. Some q) same.0) values.0, values.1)

pub const_repeated : {ts rest s : Tokens} {r x : Expr} → OnlyFront IsRepeat ts r rest → OnlyFront IsValue rest x s → OnlyPart IsConst true ts (record { repeat = Some r; value = x }) s
const_repeated o p = record { part = repeated o.part p.part refl; shorter = omega (arith, o.shorter, p.shorter); only = λ c z q f. repeated_only o p q f }

repeats_nothing : {ts rest z : Tokens} {r : Expr} {c : DataConst} → OnlyFront IsRepeat ts r rest → NoFront IsValue rest → IsConst ts c z → Follows true z → ⊥
repeats_nothing o p (once v is) f = not_once o.part v f
repeats_nothing {z = z} {c = c} o p (repeated {rest = rest} {r = q} a v is) f =
    let same = o.only q rest a in p.not c.value z (subst (λ w. IsValue w c.value z) same.1 v)

pub no_repeated : {ts rest : Tokens} {r : Expr} → OnlyFront IsRepeat ts r rest → NoFront IsValue rest → NoPart IsConst true ts
no_repeated o p = record { not = λ c z q f. repeats_nothing o p q f }

once_only : {ts s z : Tokens} {x : Expr} {c : DataConst} → NoFront IsRepeat ts → OnlyFront IsValue ts x s → IsConst ts c z → (c ≡ record { repeat = None; value = x }) × (z ≡ s)
once_only {z = z} {c = c} o p (once v is) = let values = p.only c.value z v in (const_is c is values.0, values.1)
once_only o p (repeated {rest = rest} {r = q} a v is) = absurd (o.not q rest a)

pub const_once : {ts s : Tokens} {x : Expr} → NoFront IsRepeat ts → OnlyFront IsValue ts x s → OnlyPart IsConst true ts (record { repeat = None; value = x }) s
const_once o p = record { part = once p.part refl; shorter = p.shorter; only = λ c z q f. once_only o p q }

nothing_at : {ts z : Tokens} {c : DataConst} → NoFront IsRepeat ts → NoFront IsValue ts → IsConst ts c z → ⊥
nothing_at {z = z} {c = c} o p (once v is) = p.not c.value z v
nothing_at o p (repeated {rest = rest} {r = q} a v is) = o.not q rest a

pub no_const : {ts : Tokens} → NoFront IsRepeat ts → NoFront IsValue ts → NoPart IsConst true ts
no_const o p = record { not = λ c z q f. nothing_at o p q }

-- ---- constants between slashes

consts_only : {ts inside behind s z : Tokens} {all others : List DataConst} → IsNext ts k.Slash inside → OnlyListed IsConst true inside all behind → IsNext behind k.Slash s → AreConsts ts others z → (others ≡ all) × (z ≡ s)
consts_only {z = z} {others = others} n l m q =
    let list = subst (λ w. Listed IsConst w others q.behind) (same_rest n q.opens) q.listed in
    let same = l.only others q.behind list (cut z refl q.closes) (halts_at_slash q.closes) in
    (same.0, same_rest m (subst (λ w. IsNext w k.Slash z) same.1 q.closes))

pub are_consts : {ts inside behind s : Tokens} {all : List DataConst} → IsNext ts k.Slash inside → OnlyListed IsConst true inside all behind → IsNext behind k.Slash s → OnlyFront AreConsts ts all s
are_consts {inside = inside} {behind = behind} n l m = record {
  part = record { inside = inside; behind = behind; opens = n; listed = l.listed; closes = m };
  shorter = omega (arith, next_shorter n, l.shorter, next_shorter m);
  only = λ others z q. consts_only n l m q;
}

pub no_first_slash : {ts : Tokens} → NotNext ts k.Slash → NoFront AreConsts ts
no_first_slash lacks = record { not = λ others z q. lacks.not q.inside q.opens }

pub no_consts : {ts inside : Tokens} → IsNext ts k.Slash inside → NoList IsConst true inside → NoFront AreConsts ts
no_consts n l = record { not = λ others z q. l.not others q.behind (subst (λ w. Listed IsConst w others q.behind) (same_rest n q.opens) q.listed) (cut z refl q.closes) }

no_last_at : {ts inside behind z : Tokens} {all others : List DataConst} → IsNext ts k.Slash inside → OnlyListed IsConst true inside all behind → NotNext behind k.Slash → AreConsts ts others z → ⊥
no_last_at {z = z} {others = others} n l lacks q =
    let list = subst (λ w. Listed IsConst w others q.behind) (same_rest n q.opens) q.listed in
    let same = l.only others q.behind list (cut z refl q.closes) (halts_at_slash q.closes) in
    lacks.not z (subst (λ w. IsNext w k.Slash z) same.1 q.closes)

pub no_last_slash : {ts inside behind : Tokens} {all : List DataConst} → IsNext ts k.Slash inside → OnlyListed IsConst true inside all behind → NotNext behind k.Slash → NoFront AreConsts ts
no_last_slash n l lacks = record { not = λ others z q. no_last_at n l lacks q }

-- ---- items with their constants

group_only : {ts rest s z : Tokens} {items : List Expr} {all : List DataConst} {y : List Expr × List DataConst} → OnlyListed IsVariable true ts items rest → OnlyFront AreConsts rest all s → IsGroup ts y z → (y ≡ (items, all)) × (z ≡ s)
group_only {z = z} {y = y} l o q =
    let opens = q.consts.opens in
    let same = l.only y.0 q.rest q.items (cut q.consts.inside refl opens) (halts_at_slash opens) in
    let lists = o.only y.1 z (subst (λ w. AreConsts w y.1 z) same.1 q.consts) in
    (pair_is y same.0 lists.0, lists.1)

pub is_group : {ts rest s : Tokens} {items : List Expr} {all : List DataConst} → OnlyListed IsVariable true ts items rest → OnlyFront AreConsts rest all s → OnlyEntry IsGroup IsGroup ts (items, all) s
is_group {rest = rest} l o = record {
  part = record { rest = rest; items = l.listed; consts = o.part };
  shorter = omega (arith, l.shorter, o.shorter);
  only = λ y z q r. group_only l o q;
}

pub no_items : {ts : Tokens} → NoList IsVariable true ts → NoEntry IsGroup IsGroup ts
no_items l = record { not = λ y z q r. l.not y.0 q.rest q.items (cut q.consts.inside refl q.consts.opens) }

nothing_behind : {ts rest z : Tokens} {items : List Expr} {y : List Expr × List DataConst} → OnlyListed IsVariable true ts items rest → NoFront AreConsts rest → IsGroup ts y z → ⊥
nothing_behind {z = z} {y = y} l o q =
    let opens = q.consts.opens in
    let same = l.only y.0 q.rest q.items (cut q.consts.inside refl opens) (halts_at_slash opens) in
    o.not y.1 z (subst (λ w. AreConsts w y.1 z) same.1 q.consts)

pub no_group : {ts rest : Tokens} {items : List Expr} → OnlyListed IsVariable true ts items rest → NoFront AreConsts rest → NoEntry IsGroup IsGroup ts
no_group l o = record { not = λ y z q r. nothing_behind l o q }
