-- What a caller knows.
use Rattle.std.proofs.Common.{◌≡◌, ◌≢◌, ℕ, ◌-◌, ◌≤◌, List, [], ◌∷◌, ◌++◌, length, take, drop, ap, sym, ◌∙◌, subst, refl, arith, ⊎_elim, append_assoc, length-append, length-drop}
use Rattle.std.proofs.lemmas.List.{take-append-drop, drop_at, drop_all}
use Rattle.f77_tree.specs.declared.expr.Expr.{Expr}
use Rattle.f77_expr.specs.declared.token.Rule.{Rule}
use Rattle.f77_expr.specs.declared.token.Rule.TheVariants as r
use Rattle.f77_expr.specs.declared.token.Token.TheVariants as t
use Rattle.f77_expr.specs.declared.token.Kind.{Kind}
use Rattle.f77_expr.specs.Depth.{deepest}
use Rattle.f77_expr.specs.Kinds.{Tokens, IsNext}
use Rattle.f77_expr.specs.Grammar.{Reads, chain, asserted, denied, alone, compared, negated, kept, single, power, number, yes, no, name, applied, paren, Joins, stop, go, Lists, none, some, Items, last, more}
use Rattle.f77_expr.specs.Longest.{IsLongest, Settles, LongestAt, NotWhole, NoneBegins}
use Rattle.f77_expr.specs.Best.{Best, Fails}
use Rattle.f77_expr.specs.OneReading.{OneTree, OneSettled, OneList, OneItems}
use Rattle.f77_expr.proofs.Depths.{deepest-drop}
use Rattle.f77_expr.proofs.Agreement.{Agree, same, longer, shorter, agree, lists_agree, items_agree}

longest_at : {ts s z : Tokens} {x y : Expr} → Best r.Equivalence ts x s → Reads r.Equivalence ts y z → length s ≤ length z
longest_at {s = s} {z = z} best d = ⊎_elim (λ same. omega (arith, ap length same.1)) (λ less. omega (arith, less.0)) (best.most _ _ d)

only_at : {ts s z : Tokens} {x y : Expr} → Best r.Equivalence ts x s → Reads r.Equivalence ts y z → length s ≡ length z → y ≡ x
only_at best d h = ⊎_elim (λ same. same.0) (λ less. absurd (omega (arith, less.0, h))) (best.most _ _ d)

settled_at : {ts s z : Tokens} {x y : Expr} → Best r.Equivalence ts x s → Reads r.Equivalence ts y z → Settles z → (y ≡ x) × (z ≡ s)
settled_at best d settles =
    ⊎_elim (λ same. same) (λ less. absurd (omega (arith, less.1.above, settles.free less.1.kind less.1.rest less.1.next))) (best.most _ _ d)

pub best_longest : {ts s : Tokens} {x : Expr} → Best r.Equivalence ts x s → IsLongest ts x s
best_longest best = record {
  reads = best.reads;
  longest = λ y z d. longest_at best d;
  only = λ y z d h. only_at best d h;
  settled = λ y z d settles. settled_at best d settles;
}

pub none_begins : {ts : Tokens} → Fails r.Equivalence ts → NoneBegins ts
none_begins fails = record { not = fails.not }

-- ---- what is left is the end of the tokens

pub record Suffix (ts s : Tokens) : Type 0 where
  pub front : Tokens
  pub is : ts ≡ front ++ s

suffix_next : {ts rest : Tokens} {kind : Kind} → IsNext ts kind rest → Suffix ts rest
suffix_next n = record { front = n.token ∷ []; is = n.front }

suffix_more : {a b c : Tokens} → Suffix a b → Suffix b c → Suffix a c
suffix_more {c = c} p q = record { front = p.front ++ q.front; is = p.is ∙ (ap (λ t. p.front ++ t) q.is ∙ sym (append_assoc p.front q.front c)) }

suffix_same : {a b : Tokens} → b ≡ a → Suffix a b
suffix_same e = record { front = []; is = sym e }

mutual
  pub reads_suffix : {rule : Rule} {ts s : Tokens} {x : Expr} → Reads rule ts x s → Suffix ts s
  reads_suffix (chain g d j) = suffix_more (reads_suffix d) (joins_suffix j)
  reads_suffix (asserted d) = reads_suffix d
  reads_suffix (denied n d e) = suffix_more (suffix_next n) (reads_suffix d)
  reads_suffix (alone d) = reads_suffix d
  reads_suffix (compared d n o q e) = suffix_more (reads_suffix d) (suffix_more (suffix_next n) (reads_suffix q))
  reads_suffix (negated n d j) = suffix_more (suffix_next n) (suffix_more (reads_suffix d) (joins_suffix j))
  reads_suffix (kept n d j) = suffix_more (suffix_next n) (suffix_more (reads_suffix d) (joins_suffix j))
  reads_suffix (single d) = reads_suffix d
  reads_suffix (power d n o q e) = suffix_more (reads_suffix d) (suffix_more (suffix_next n) (reads_suffix q))
  reads_suffix (number n digits f e) = record { front = t.Int n digits ∷ []; is = f }
  reads_suffix (yes n e) = suffix_next n
  reads_suffix (no n e) = suffix_next n
  reads_suffix (name word f named e) = record { front = t.Word word ∷ []; is = f }
  reads_suffix (applied word f named n l e) = suffix_more (record { front = t.Word word ∷ []; is = f }) (suffix_more (suffix_next n) (lists_suffix l))
  reads_suffix (paren n d m e) = suffix_more (suffix_next n) (suffix_more (reads_suffix d) (suffix_next m))

  joins_suffix : {rule : Rule} {a : Expr} {ts s : Tokens} {x : Expr} → Joins rule a ts x s → Suffix ts s
  joins_suffix (stop e f) = suffix_same f
  joins_suffix (go n o d j) = suffix_more (suffix_next n) (suffix_more (reads_suffix d) (joins_suffix j))

  lists_suffix : {ts s : Tokens} {all : List Expr} → Lists ts all s → Suffix ts s
  lists_suffix (none n e) = suffix_next n
  lists_suffix (some i) = items_suffix i

  items_suffix : {ts s : Tokens} {all : List Expr} → Items ts all s → Suffix ts s
  items_suffix (last d n e) = suffix_more (reads_suffix d) (suffix_next n)
  items_suffix (more d n i e) = suffix_more (reads_suffix d) (suffix_more (suffix_next n) (items_suffix i))

-- the end of the tokens, by its length
at_end : (front s : Tokens) → drop (length (front ++ s) - length s) (front ++ s) ≡ s
at_end front s =
    let same : length (front ++ s) - length s ≡ length front = omega (arith, length-append front s) in
    ap (λ n. drop n (front ++ s)) same ∙ drop_at front s (length front) refl

by_length : {ts s : Tokens} → Suffix ts s → drop (length ts - length s) ts ≡ s
by_length {s = s} suffix = subst (λ ts. drop (length ts - length s) ts ≡ s) (sym suffix.is) (at_end suffix.front s)

dropped : (ts : Tokens) (from : ℕ) → from ≤ length ts → Suffix ts (drop from ts)
dropped ts from h = record { front = take from ts; is = sym (take-append-drop from ts) }

-- an expression begins at a token, so its place is before the end
pub best_at : (ts : Tokens) (from : ℕ) {s : Tokens} {x : Expr} → Best r.Equivalence (drop from ts) x s → LongestAt ts from x (length ts - length s)
best_at ts from {s} {x} best =
    let h : from ≤ length ts = omega (arith, best.shorter, length-drop from ts) in
    let whole = suffix_more (dropped ts from h) (reads_suffix best.reads) in
    record {
      within = omega arith;
      longer = omega (arith, best.shorter, length-drop from ts, h);
      is = subst (λ s. IsLongest (drop from ts) x s) (sym (by_length whole)) (best_longest best);
    }

-- ---- all the tokens

settles_none : Settles []
settles_none = record { free = λ kind rest n. absurd (omega (arith, ap length n.front)) }

pub whole_is : {ts : Tokens} {x : Expr} {to : ℕ} → LongestAt ts 0 x to → to ≡ length ts → Reads r.Equivalence ts x []
whole_is {ts} {x} {to} at e = subst (λ s. Reads r.Equivalence ts x s) (drop_all to ts (omega (arith, e))) at.is.reads

not_whole : {ts : Tokens} {x y : Expr} {to : ℕ} → LongestAt ts 0 x to → to ≢ length ts → Reads r.Equivalence ts y [] → ⊥
not_whole {ts} {to = to} at e d =
    let same = (at.is.settled _ [] d settles_none).1 in omega (arith, at.within, e, ap length same, length-drop to ts)

pub whole_not : {ts : Tokens} {x : Expr} {to : ℕ} → LongestAt ts 0 x to → to ≢ length ts → NotWhole ts
whole_not at e = record { not = λ y d. not_whole at e d }

-- ---- laws

one : {s : Tokens} {x y : Expr} → Agree r.Equivalence x s y s → x ≡ y
one (same p q) = p
one (longer l g) = absurd (omega (arith, l))
one (shorter l g) = absurd (omega (arith, l))

pub one_tree : OneTree
one_tree ts s x y d d' = one (agree d d')

both_settled : {s z : Tokens} {x y : Expr} → Agree r.Equivalence x s y z → Settles s → Settles z → (x ≡ y) × (s ≡ z)
both_settled (same p q) left right = (p, q)
both_settled (longer l g) left right = absurd (omega (arith, g.above, right.free g.kind g.rest g.next))
both_settled (shorter l g) left right = absurd (omega (arith, g.above, left.free g.kind g.rest g.next))

pub one_settled : OneSettled
one_settled ts s z x y d left d' right = both_settled (agree d d') left right

pub one_list : OneList
one_list ts s z all others l l' = lists_agree l l'

pub one_items : OneItems
one_items ts s z all others i i' = items_agree i i'

-- what is left is no deeper
pub suffix_shallow : {ts s : Tokens} → Suffix ts s → deepest ts ≤ 100 → deepest s ≤ 100
suffix_shallow {ts} {s} f h =
    let less : deepest (drop (length f.front) ts) ≤ deepest ts = deepest-drop ts (length f.front) in
    let end : drop (length f.front) ts ≡ s = ap (λ all. drop (length f.front) all) f.is ∙ drop_at f.front s (length f.front) refl in
    omega (arith, subst (λ all. deepest all ≤ deepest ts) end less, h)
