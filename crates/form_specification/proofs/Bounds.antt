-- The bounds of a dimension are read in one way.
use Rattle.std.proofs.Common.{◌≡◌, ◌<◌, ◌≤◌, Bool, true, false, List, ◌∷◌, length, ap, sym, ◌∙◌, subst, refl, arith, Option, Some, None}
use Rattle.f77_tree.specs.declared.expr.Expr.{Expr}
use Rattle.f77_expr.specs.declared.token.Kind.{Kind}
use Rattle.f77_expr.specs.declared.token.Kind.TheVariants as k
use Rattle.f77_expr.specs.declared.token.Rule.{Rule}
use Rattle.f77_expr.specs.Kinds.{Tokens, kind_of, IsNext}
use Rattle.f77_expr.specs.Grammar.{ReadsExpression, Reads, chain, asserted, denied, alone, compared, negated, kept, single, power, number, yes, no, name, applied, paren}
use Rattle.f77_expr.specs.Longest.{Settles, NoneBegins}
use Rattle.form_parts.specs.Listed.{Parenthesized}
use Rattle.form_parts.specs.Only.{NotNext, Follows, OnlyPart, NoPart, OnlyFront, NoFront, LongestFront}
use Rattle.form_specification.specs.Declarators.{IsUpper, given, assumed, IsBound, upper, both, AreBounds, OnlyUpper, NoUpper}
use Rattle.form_parts.proofs.NextToken.{next_shorter, same_kind, same_rest}
use Rattle.form_parts.proofs.Following.{settles_at, settles_follows, not_colon}

-- ---- an expression doesn't begin with `*`

front_kind : {ts s rest : Tokens} {kind : Kind} (token : _) → ts ≡ token ∷ s → IsNext ts kind rest → kind ≡ kind_of token
front_kind token f n = let same : n.token ≡ token = cc (n.front, f) in sym n.is ∙ ap kind_of same

pub no_star : {rule : Rule} {ts s rest : Tokens} {x : Expr} → Reads rule ts x s → IsNext ts k.Star rest → ⊥
no_star (chain g d j) n = no_star d n
no_star (asserted d) n = no_star d n
no_star (denied m d eq) n = let kinds = same_kind m n in cc
no_star (alone d) n = no_star d n
no_star (compared d m is q eq) n = no_star d n
no_star (negated m d j) n = let kinds = same_kind m n in cc
no_star (kept m d j) n = let kinds = same_kind m n in cc
no_star (single d) n = no_star d n
no_star (power d m is q eq) n = no_star d n
no_star (number v digits f eq) n = let kinds = front_kind _ f n in cc
no_star (yes m eq) n = let kinds = same_kind m n in cc
no_star (no m eq) n = let kinds = same_kind m n in cc
no_star (name word f is eq) n = let kinds = front_kind _ f n in cc
no_star (applied word f is m l eq) n = let kinds = front_kind _ f n in cc
no_star (paren m d c eq) n = let kinds = same_kind m n in cc

-- ---- upper bounds

star_only : {ts rest z : Tokens} {other : Option Expr} → IsNext ts k.Star rest → IsUpper ts other z → (other ≡ None) × (z ≡ rest)
star_only n (given d is) = absurd (no_star d n)
star_only n (assumed m is) = (is, same_rest n m)

pub upper_star : {ts rest : Tokens} → IsNext ts k.Star rest → OnlyUpper ts None rest
upper_star n = record { upper = assumed n refl; shorter = next_shorter n; only = λ other z u s. star_only n u }

given_only : {ts s z : Tokens} {x : Expr} {other : Option Expr} → NotNext ts k.Star → ((y : Expr) (z : Tokens) → ReadsExpression ts y z → Settles z → (y ≡ x) × (z ≡ s)) → IsUpper ts other z → Settles z → (other ≡ Some x) × (z ≡ s)
given_only {z = z} lacks only (given {x = y} d is) s = let same = only y z d s in (is ∙ ap (λ y. Some y) same.0, same.1)
given_only {z = z} lacks only (assumed m is) s = absurd (lacks.not z m)

pub upper_by : {ts s : Tokens} {x : Expr} → NotNext ts k.Star → ReadsExpression ts x s → length s < length ts → ((y : Expr) (z : Tokens) → ReadsExpression ts y z → Settles z → (y ≡ x) × (z ≡ s)) → OnlyUpper ts (Some x) s
upper_by lacks d shorter only = record { upper = given d refl; shorter = shorter; only = λ other z u s. given_only lacks only u s }

pub upper_given : {ts s : Tokens} {x : Expr} → NotNext ts k.Star → LongestFront ts x s → OnlyUpper ts (Some x) s
upper_given lacks l = upper_by lacks l.is.reads l.shorter (λ y z d s. l.is.settled y z d s)

nothing_upper : {ts z : Tokens} {other : Option Expr} → NotNext ts k.Star → NoneBegins ts → IsUpper ts other z → ⊥
nothing_upper {z = z} lacks e (given {x = y} d is) = e.not y z d
nothing_upper {z = z} lacks e (assumed m is) = lacks.not z m

pub no_upper : {ts : Tokens} → NotNext ts k.Star → NoneBegins ts → NoUpper ts
no_upper lacks e = record { not = λ other z u. nothing_upper lacks e u }

-- ---- the bounds of a dimension

no_bound_at : {ts z : Tokens} {y : Option Expr × Option Expr} → NoUpper ts → IsBound ts y z → ⊥
no_bound_at {z = z} lacks (upper {high = high} u is) = lacks.not high z u
no_bound_at lacks (both {rest = rest} {low = low} d n u is) = lacks.not (Some low) rest (given d refl)

pub no_bound : {ts : Tokens} → NoUpper ts → NoPart IsBound false ts
no_bound lacks = record { not = λ y z b f. no_bound_at lacks b }

upper_only : {ts s z : Tokens} {high : Option Expr} {y : Option Expr × Option Expr} → OnlyUpper ts high s → NotNext s k.Colon → IsBound ts y z → Follows false z → (y ≡ (None, high)) × (z ≡ s)
upper_only {z = z} o lacks (upper {high = other} u is) f = let same = o.only other z u (settles_follows f) in (is ∙ ap (λ (h : Option Expr). (None, h)) same.0, same.1)
upper_only o lacks (both {rest = rest} {more = more} {low = low} d n u is) f =
    let same = o.only (Some low) rest (given d refl) (settles_at refl n) in
    absurd (lacks.not more (subst (λ w. IsNext w k.Colon more) same.1 n))

pub bound_upper : {ts s : Tokens} {high : Option Expr} → OnlyUpper ts high s → NotNext s k.Colon → OnlyPart IsBound false ts (None, high) s
bound_upper o lacks = record { part = upper o.upper refl; shorter = o.shorter; only = λ y z b f. upper_only o lacks b f }

-- an upper bound alone isn't followed by a colon
no_upper_alone : {ts s z after : Tokens} {high other : Option Expr} → OnlyUpper ts high s → IsNext s k.Colon after → IsUpper ts other z → Follows false z → ⊥
no_upper_alone {z = z} {after = after} {other = other} o c u f =
    let same = o.only other z u (settles_follows f) in
    not_colon f (subst (λ w. IsNext w k.Colon after) (sym same.1) c)

star_colon : {ts s z after : Tokens} {y : Option Expr × Option Expr} → OnlyUpper ts None s → IsNext s k.Colon after → IsBound ts y z → Follows false z → ⊥
star_colon o c (upper u is) f = no_upper_alone o c u f
star_colon o c (both {rest = rest} {low = low} d n u is) f = let same = (o.only (Some low) rest (given d refl) (settles_at refl n)).0 in cc

pub no_low : {ts s after : Tokens} → OnlyUpper ts None s → IsNext s k.Colon after → NoPart IsBound false ts
no_low o c = record { not = λ y z b f. star_colon o c b f }

no_high_at : {ts s z after : Tokens} {low : Option Expr} {y : Option Expr × Option Expr} → OnlyUpper ts low s → IsNext s k.Colon after → NoUpper after → IsBound ts y z → Follows false z → ⊥
no_high_at o c lacks (upper u is) f = no_upper_alone o c u f
no_high_at {z = z} {after = after} o c lacks (both {rest = rest} {more = more} {low = low} {high = high} d n u is) f =
    let same = o.only (Some low) rest (given d refl) (settles_at refl n) in
    let place : more ≡ after = same_rest c (subst (λ w. IsNext w k.Colon more) same.1 n) in
    lacks.not high z (subst (λ w. IsUpper w high z) place u)

pub no_high : {ts s after : Tokens} {low : Option Expr} → OnlyUpper ts low s → IsNext s k.Colon after → NoUpper after → NoPart IsBound false ts
no_high o c lacks = record { not = λ y z b f. no_high_at o c lacks b f }

reads_given : {ts s : Tokens} {x : Expr} → IsUpper ts (Some x) s → ReadsExpression ts x s
reads_given {ts} {s} (given d is) = let same = is in subst (λ x. ReadsExpression ts x s) (sym (some_is same)) d
  where
    some_is : {x y : Expr} → Some x ≡ Some y → x ≡ y
    some_is e = cc
reads_given (assumed n is) = absurd (some_none is)
  where
    some_none : {x : Expr} → Some x ≡ None → ⊥
    some_none e = cc

both_only : {ts s after z end : Tokens} {low : Expr} {high : Option Expr} {y : Option Expr × Option Expr} → OnlyUpper ts (Some low) s → IsNext s k.Colon after → OnlyUpper after high end → IsBound ts y z → Follows false z → (y ≡ (Some low, high)) × (z ≡ end)
both_only o c p (upper u is) f = absurd (no_upper_alone o c u f)
both_only {after = after} {z = z} {low = low} {high = high} o c p (both {rest = rest} {more = more} {low = other} {high = top} d n u is) f =
    let same = o.only (Some other) rest (given d refl) (settles_at refl n) in
    let place : more ≡ after = same_rest c (subst (λ w. IsNext w k.Colon more) same.1 n) in
    let tops = p.only top z (subst (λ w. IsUpper w top z) place u) (settles_follows f) in
    (is ∙ (ap (λ (l : Option Expr). (l, top)) same.0 ∙ ap (λ (h : Option Expr). (Some low, h)) tops.0), tops.1)

pub bound_both : {ts s after end : Tokens} {low : Expr} {high : Option Expr} → OnlyUpper ts (Some low) s → IsNext s k.Colon after → OnlyUpper after high end → OnlyPart IsBound false ts (Some low, high) end
bound_both o c p = record {
  part = both (reads_given o.upper) c p.upper refl;
  shorter = omega (arith, o.shorter, next_shorter c, p.shorter);
  only = λ y z b f. both_only o c p b f;
}

-- ---- 1 to 7 dimensions

pub seven : {ts s : Tokens} {all : List (Option Expr × Option Expr)} → OnlyFront (Parenthesized IsBound) ts all s → length all ≤ 7 → OnlyFront AreBounds ts all s
seven o few = record { part = record { listed = o.part; few = few }; shorter = o.shorter; only = λ others z b. o.only others z b.listed }

pub no_bounds : {ts : Tokens} → NoFront (Parenthesized IsBound) ts → NoFront AreBounds ts
no_bounds lacks = record { not = λ others z b. lacks.not others z b.listed }

pub too_many : {ts s : Tokens} {all : List (Option Expr × Option Expr)} → OnlyFront (Parenthesized IsBound) ts all s → 7 < length all → NoFront AreBounds ts
too_many o many = record { not = λ others z b. let same = (o.only others z b.listed).0 in omega (arith, ap length same, b.few, many) }
