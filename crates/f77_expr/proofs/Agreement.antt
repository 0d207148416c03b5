-- Two readings of the same tokens at one level are the same, or one ends earlier, before a token that may go on.
use Rattle.std.proofs.Common.{◌≡◌, ℕ, ◌<◌, ◌≤◌, List, [], ◌∷◌, length, ap, sym, ◌∙◌, subst, refl, arith, ⊎_elim, Some}
use Rattle.f77_tree.specs.declared.expr.Op.{Op}
use Rattle.f77_tree.specs.declared.expr.Expr.{Expr}
use Rattle.f77_tree.specs.declared.expr.Expr.TheVariants as e
use Rattle.f77_expr.specs.declared.token.Token.TheVariants as t
use Rattle.f77_expr.specs.declared.token.Kind.{Kind}
use Rattle.f77_expr.specs.declared.token.Kind.TheVariants as k
use Rattle.f77_expr.specs.declared.token.Rule.{Rule}
use Rattle.f77_expr.specs.declared.token.Rule.TheVariants as r
use Rattle.f77_expr.specs.Kinds.{Tokens, IsNext}
use Rattle.f77_expr.specs.Grammar.{below, operator, GroupsLeft, by_sign, Reads, chain, asserted, denied, alone, compared, negated, kept, single, power, number, yes, no, name, applied, paren, Joins, stop, go, Lists, none, some, Items, last, more}
use Rattle.f77_expr.specs.Longest.{strength}
use Rattle.f77_expr.specs.Best.{Within, level, Goes}
use Rattle.f77_expr.proofs.NextToken.{same_kind, same_rest, goes_level, goes_more, goes_by, below_level, operator_level}
use Rattle.f77_expr.proofs.Shorter.{next_length, reads_shorter, joins_shorter, lists_shorter}
use Rattle.f77_expr.proofs.FirstKinds.{word_kind, no_close, no_minus, no_plus, no_not}
use Rattle.f77_expr.proofs.Chains.{some_same, joins_stuck, pair_same}
use Rattle.f77_expr.proofs.Shapes.{open_here, number_most, yes_most, no_most, applied_most, paren_most}
use Rattle.f77_expr.proofs.Views.{Left, plain, with_minus, with_plus, left, Signed, bare, minus, plus, signed, Denies, as_is, by_not, denies, Either, one, two, relation_either, factor_either, Shape, a_number, a_yes, a_no, a_name, an_applied, a_paren, shape}

pub data Agree (rule : Rule) (x : Expr) (s : Tokens) (y : Expr) (z : Tokens) : Type 0 where
  same : x ≡ y → s ≡ z → Agree rule x s y z
  longer : length s < length z → Goes rule z → Agree rule x s y z
  shorter : length z < length s → Goes rule s → Agree rule x s y z

looser : {rule : Rule} (rule' : Rule) {x y : Expr} {s z : Tokens} → level rule' ≤ level rule → Agree rule x s y z → Agree rule' x s y z
looser rule' h (same p q) = same p q
looser rule' h (longer l g) = longer l (goes_more rule' h g)
looser rule' h (shorter l g) = shorter l (goes_more rule' h g)

under : {rule : Rule} (f : Expr → Expr) {x y a b : Expr} {s z : Tokens} → a ≡ f x → b ≡ f y → Agree rule x s y z → Agree rule a s b z
under f ex ey (same p q) = same (ex ∙ (ap f p ∙ sym ey)) q
under f ex ey (longer l g) = longer l g
under f ex ey (shorter l g) = shorter l g

-- what is joined to an operand that ends earlier ends with it
stuck : {rule : Rule} {a y : Expr} {s z : Tokens} → GroupsLeft rule → Goes (below rule) s → Joins rule a s y z → (z ≡ s) × Goes rule z
stuck {rule} left goes j =
    let end = joins_stuck left goes j in
    (end, subst (λ ts. Goes rule ts) (sym end) (goes_more rule (omega (arith, below_level left)) goes))

moved : {rule : Rule} {a b y : Expr} {ts more z : Tokens} → b ≡ a → ts ≡ more → Joins rule b ts y z → Joins rule a more y z
moved {rule} {y = y} {z = z} e f j = subst (λ (p : Expr × Tokens). Joins rule p.0 p.1 y z) (pair_same e f) j

-- operands that agree, with what is joined to each
joined : {rule : Rule} {a b x y : Expr} {u v s z : Tokens} → GroupsLeft rule → Agree (below rule) a u b v → ((j : Joins rule a u y z) → Agree rule x s y z) → Joins rule a u x s → Joins rule b v y z → Agree rule x s y z
joined left (same p q) rest i j = rest (moved (sym p) (sym q) j)
joined left (longer l g) rest i j =
    let end = stuck left g j in longer (omega (arith, joins_shorter i, l, ap length end.0)) end.1
joined left (shorter l g) rest i j =
    let end = stuck left g i in shorter (omega (arith, joins_shorter j, l, ap length end.0)) end.1

same_operator : (rule : Rule) {ts rest rest' : Tokens} {kind kind' : Kind} {o o' : Op} → IsNext ts kind rest → operator rule kind ≡ Some o → IsNext ts kind' rest' → operator rule kind' ≡ Some o' → o' ≡ o
same_operator rule n is m is' = some_same (sym is' ∙ (ap (operator rule) (same_kind n m) ∙ is))

-- one operand, or two with an operator between
module _ (rule first second : Rule) (above : level rule < level first) (beside : level rule ≤ level second) where
  alone_both : {x y : Expr} {s z : Tokens} → Agree first x s y z → Agree rule x s y z
  alone_both a = looser rule (omega (arith, above)) a

  -- the first stops where the other goes on
  alone_two : {a b x y : Expr} {s rest more z : Tokens} {kind : Kind} {o : Op} → Agree first x s a rest → IsNext rest kind more → operator rule kind ≡ Some o → Reads second more b z → Agree rule x s y z
  alone_two {s = s} (same p q) n is d =
      shorter (omega (arith, next_length n, reads_shorter d, ap length q)) (subst (λ ts. Goes rule ts) (sym q) (goes_by n is))
  alone_two (longer l g) n is d = absurd (omega (arith, above, goes_level g n, operator_level rule _ is))
  alone_two (shorter l g) n is d = shorter (omega (arith, next_length n, reads_shorter d, l)) (goes_more rule (omega (arith, above)) g)

  two_alone : {a b x y : Expr} {s rest more z : Tokens} {kind : Kind} {o : Op} → Agree first a rest y z → IsNext rest kind more → operator rule kind ≡ Some o → Reads second more b s → Agree rule x s y z
  two_alone {z = z} (same p q) n is d =
      longer (omega (arith, next_length n, reads_shorter d, ap length q)) (subst (λ ts. Goes rule ts) q (goes_by n is))
  two_alone (shorter l g) n is d = absurd (omega (arith, above, goes_level g n, operator_level rule _ is))
  two_alone (longer l g) n is d = longer (omega (arith, next_length n, reads_shorter d, l)) (goes_more rule (omega (arith, above)) g)

  two_both : {a a' b b' x y : Expr} {s z rest rest' more more' : Tokens} {kind kind' : Kind} {o o' : Op} → Agree first a rest a' rest' → IsNext rest kind more → operator rule kind ≡ Some o → IsNext rest' kind' more' → operator rule kind' ≡ Some o' → (more' ≡ more → Agree second b s b' z) → x ≡ e.Binary o a b → y ≡ e.Binary o' a' b' → Agree rule x s y z
  two_both {a = a} {a' = a'} {b = b} {b' = b'} {more' = more'} {kind' = kind'} {o = o} {o' = o'} (same p q) n is n' is' behind ex ey =
      let m = subst (λ ts. IsNext ts kind' more') (sym q) n' in
      let ops = same_operator rule n is m is' in
      under (λ b. e.Binary o a b) ex (ey ∙ (ap (λ o. e.Binary o a' b') ops ∙ ap (λ a. e.Binary o a b') (sym p))) (looser rule beside (behind (same_rest n m)))
  two_both (longer l g) n is n' is' behind ex ey = absurd (omega (arith, above, goes_level g n', operator_level rule _ is'))
  two_both (shorter l g) n is n' is' behind ex ey = absurd (omega (arith, above, goes_level g n, operator_level rule _ is))

  one_case : {ts s z : Tokens} {x y : Expr} → ((b : Expr) (v : Tokens) → Reads first ts b v → Agree first x s b v) → Either rule first second ts y z → Agree rule x s y z
  one_case agrees (one d) = alone_both (agrees _ _ d)
  one_case agrees (two d n is q eq) = alone_two (agrees _ _ d) n is q

  two_case : {ts rest more s z : Tokens} {a b x y : Expr} {kind : Kind} {o : Op} → ((b : Expr) (v : Tokens) → Reads first ts b v → Agree first a rest b v) → IsNext rest kind more → operator rule kind ≡ Some o → Reads second more b s → ((c : Expr) (v : Tokens) → Reads second more c v → Agree second b s c v) → x ≡ e.Binary o a b → Either rule first second ts y z → Agree rule x s y z
  two_case agrees n is q behind ex (one d) = two_alone (agrees _ _ d) n is q
  two_case {z = z} agrees n is q behind ex (two {b = b'} d n' is' q' ey) =
      two_both (agrees _ _ d) n is n' is' (λ same. behind b' z (subst (λ ts. Reads second ts b' z) same q')) ex ey

-- ---- the levels that group from the left

left_case : {rule : Rule} {ts rest s z : Tokens} {a x y : Expr} → GroupsLeft rule → Reads (below rule) ts a rest → Joins rule a rest x s → ((b : Expr) (v : Tokens) → Reads (below rule) ts b v → Agree (below rule) a rest b v) → ((b : Expr) (v : Tokens) → Joins rule a rest b v → Agree rule x s b v) → Left rule ts y z → Agree rule x s y z
left_case {z = z} {y = y} g d j agrees behind (plain c) = joined g (agrees c.a c.rest c.reads) (λ j'. behind y z j') j c.joins
left_case g d j agrees behind (with_minus h n) = absurd (no_minus h d n)
left_case g d j agrees behind (with_plus h n) = absurd (no_plus h d n)

signed_term : {more more' s z : Tokens} {a a' x y : Expr} (sign : Expr → Expr) → Agree r.Product a more a' more' → ((b : Expr) (v : Tokens) → Joins r.Sum (sign a) more b v → Agree r.Sum x s b v) → Joins r.Sum (sign a) more x s → Joins r.Sum (sign a') more' y z → Agree r.Sum x s y z
signed_term {z = z} {y = y} sign agrees behind j j' = joined by_sign (under sign refl refl agrees) (λ i. behind y z i) j j'

minus_case : {ts rest more s z : Tokens} {a x y : Expr} → IsNext ts k.Minus rest → ((b : Expr) (v : Tokens) → Reads r.Product rest b v → Agree r.Product a more b v) → ((b : Expr) (v : Tokens) → Joins r.Sum (e.Neg a) more b v → Agree r.Sum x s b v) → Joins r.Sum (e.Neg a) more x s → Signed ts y z → Agree r.Sum x s y z
minus_case n agrees behind j (bare c) = absurd (no_minus (omega arith) c.reads n)
minus_case n agrees behind j (minus {more = more'} {a = a'} m d j') =
    signed_term e.Neg (agrees a' more' (subst (λ ts. Reads r.Product ts a' more') (same_rest n m) d)) behind j j'
minus_case n agrees behind j (plus m d j') = let kinds = same_kind n m in cc

plus_case : {ts rest more s z : Tokens} {a x y : Expr} → IsNext ts k.Plus rest → ((b : Expr) (v : Tokens) → Reads r.Product rest b v → Agree r.Product a more b v) → ((b : Expr) (v : Tokens) → Joins r.Sum (e.Plus a) more b v → Agree r.Sum x s b v) → Joins r.Sum (e.Plus a) more x s → Signed ts y z → Agree r.Sum x s y z
plus_case n agrees behind j (bare c) = absurd (no_plus (omega arith) c.reads n)
plus_case n agrees behind j (minus m d j') = let kinds = same_kind n m in cc
plus_case n agrees behind j (plus {more = more'} {a = a'} m d j') =
    signed_term e.Plus (agrees a' more' (subst (λ ts. Reads r.Product ts a' more') (same_rest n m) d)) behind j j'

-- ---- negations

asserted_case : {ts s z : Tokens} {x y : Expr} → Reads r.Relation ts x s → ((b : Expr) (v : Tokens) → Reads r.Relation ts b v → Agree r.Relation x s b v) → Denies ts y z → Agree r.Negation x s y z
asserted_case d agrees (as_is d') = looser r.Negation (omega arith) (agrees _ _ d')
asserted_case d agrees (by_not n d' eq) = absurd (no_not (omega arith) d n)

denied_case : {ts rest s z : Tokens} {a x y : Expr} → IsNext ts k.Not rest → ((b : Expr) (v : Tokens) → Reads r.Relation rest b v → Agree r.Relation a s b v) → x ≡ e.Not a → Denies ts y z → Agree r.Negation x s y z
denied_case n agrees ex (as_is d) = absurd (no_not (omega arith) d n)
denied_case {z = z} n agrees ex (by_not {a = a'} m d eq) =
    under e.Not ex eq (looser r.Negation (omega arith) (agrees a' z (subst (λ ts. Reads r.Relation ts a' z) (same_rest n m) d)))

-- ---- primaries

from_within : {rule : Rule} {x x' y : Expr} {s z : Tokens} → x' ≡ x → Within rule x s y z → Agree rule x' s y z
from_within ex within = ⊎_elim (λ both. same (ex ∙ sym both.0) (sym both.1)) (λ less. longer less.0 less.1) within

-- a name without a list
name_case : {ts s z : Tokens} {x y : Expr} (word : List ℕ) → ts ≡ t.Word word ∷ s → x ≡ e.Scalar word → Shape ts y z → Agree r.Primary x s y z
name_case word f ex (a_number n digits f' ey) = let no_way : t.Int n digits ≡ t.Word word = cc in cc
name_case word f ex (a_yes m ey) = let kinds = word_kind f m in cc
name_case word f ex (a_no m ey) = let kinds = word_kind f m in cc
name_case {s = s} {z = z} word f ex (a_name word' f' named ey) =
    let words : word ≡ word' = cc in let rests : s ≡ z = cc in same (ex ∙ (ap e.Scalar words ∙ sym ey)) rests
name_case {s = s} word f ex (an_applied {rest = rest} word' f' named m l ey) =
    let rests : rest ≡ s = cc in
    shorter (omega (arith, ap length rests, next_length m, lists_shorter l)) (subst (λ ts. Goes r.Primary ts) rests (open_here m))
name_case word f ex (a_paren m d q ey) = let kinds = word_kind f m in cc

-- where both end before tokens that go on nothing, they are the same
closed : {rule : Rule} {x y : Expr} {s z u v : Tokens} {kind kind' : Kind} → 1 ≤ level rule → Agree rule x s y z → IsNext s kind u → strength kind ≡ 0 → IsNext z kind' v → strength kind' ≡ 0 → (x ≡ y) × (s ≡ z)
closed h (same p q) n weak m weak' = (p, q)
closed h (longer l g) n weak m weak' = absurd (omega (arith, h, goes_level g m, weak'))
closed h (shorter l g) n weak m weak' = absurd (omega (arith, h, goes_level g n, weak))

flipped : {x y : Expr} {s z : Tokens} → (x ≡ y) × (s ≡ z) → (y ≡ x) × (z ≡ s)
flipped both = (sym both.0, sym both.1)

-- ---- all

mutual
  pub agree : {rule : Rule} {ts s z : Tokens} {x y : Expr} → Reads rule ts x s → Reads rule ts y z → Agree rule x s y z
  agree (chain g d j) d' = left_case g d j (λ b v q. agree d q) (λ b v i. joins_agree g j i) (left g d')
  agree (asserted d) d' = asserted_case d (λ b v q. agree d q) (denies d')
  agree (denied n d eq) d' = denied_case n (λ b v q. agree d q) eq (denies d')
  agree (alone d) d' = one_case r.Relation r.Sum r.Sum (omega arith) (omega arith) (λ b v q. agree d q) (relation_either d')
  agree (compared d n o q eq) d' =
      two_case r.Relation r.Sum r.Sum (omega arith) (omega arith) (λ b v p. agree d p) n o q (λ b v p. agree q p) eq (relation_either d')
  agree (negated n d j) d' = minus_case n (λ b v q. agree d q) (λ b v i. joins_agree by_sign j i) j (signed d')
  agree (kept n d j) d' = plus_case n (λ b v q. agree d q) (λ b v i. joins_agree by_sign j i) j (signed d')
  agree (single d) d' = one_case r.Factor r.Primary r.Factor (omega arith) (omega arith) (λ b v q. agree d q) (factor_either d')
  agree (power d n o q eq) d' =
      two_case r.Factor r.Primary r.Factor (omega arith) (omega arith) (λ b v p. agree d p) n o q (λ b v p. agree q p) eq (factor_either d')
  agree (number n digits f eq) d' = from_within eq (number_most n digits f (shape d'))
  agree (yes n eq) d' = from_within eq (yes_most n (shape d'))
  agree (no n eq) d' = from_within eq (no_most n (shape d'))
  agree (name word f named eq) d' = name_case word f eq (shape d')
  agree (applied word f named n l eq) d' = from_within eq (applied_most word f n l (λ others v i. lists_agree l i) (shape d'))
  agree (paren n d m eq) d' = from_within eq (paren_most n (λ b v u q p. flipped (closed (omega arith) (agree d q) m refl p refl)) m (shape d'))

  joins_agree : {rule : Rule} {a x y : Expr} {ts s z : Tokens} → GroupsLeft rule → Joins rule a ts x s → Joins rule a ts y z → Agree rule x s y z
  joins_agree g (stop p q) (stop p' q') = same (p ∙ sym p') (q ∙ sym q')
  joins_agree {rule} g (stop p q) (go n o d j) =
      shorter (omega (arith, ap length q, next_length n, reads_shorter d, joins_shorter j)) (subst (λ ts. Goes rule ts) (sym q) (goes_by n o))
  joins_agree {rule} g (go n o d j) (stop p q) =
      longer (omega (arith, ap length q, next_length n, reads_shorter d, joins_shorter j)) (subst (λ ts. Goes rule ts) (sym q) (goes_by n o))
  joins_agree {rule} {a = a} {y = y} {z = z} g (go {o = o} n is d j) (go {o = o'} {b = b'} {more = more'} n' is' d' j') =
      let ops = same_operator rule n is n' is' in
      let behind = agree d (subst (λ ts. Reads (below rule) ts b' more') (same_rest n n') d') in
      joined g (under (λ b. e.Binary o a b) refl (ap (λ o. e.Binary o a b') ops) behind) (λ i. joins_agree g j i) j j'

  pub lists_agree : {ts s z : Tokens} {all others : List Expr} → Lists ts all s → Lists ts others z → (all ≡ others) × (s ≡ z)
  lists_agree (none n eq) (none m eq') = (eq ∙ sym eq', same_rest m n)
  lists_agree (none n eq) (some (last d m eq')) = absurd (no_close d n)
  lists_agree (none n eq) (some (more d m i eq')) = absurd (no_close d n)
  lists_agree (some (last d m eq')) (none n eq) = absurd (no_close d n)
  lists_agree (some (more d m i eq')) (none n eq) = absurd (no_close d n)
  lists_agree (some i) (some i') = items_agree i i'

  pub items_agree : {ts s z : Tokens} {all others : List Expr} → Items ts all s → Items ts others z → (all ≡ others) × (s ≡ z)
  items_agree {s = s} (last d n eq) (last d' n' eq') =
      let both = closed (omega arith) (agree d d') n refl n' refl in
      (eq ∙ (ap (λ x. x ∷ []) both.0 ∙ sym eq'), same_rest n' (subst (λ ts. IsNext ts k.Close s) both.1 n))
  items_agree {s = s} (last d n eq) (more d' n' i' eq') =
      let both = closed (omega arith) (agree d d') n refl n' refl in
      let kinds = same_kind n' (subst (λ ts. IsNext ts k.Close s) both.1 n) in cc
  items_agree (more {after = after} d n i eq) (last d' n' eq') =
      let both = closed (omega arith) (agree d d') n refl n' refl in
      let kinds = same_kind n' (subst (λ ts. IsNext ts k.Comma after) both.1 n) in cc
  items_agree {z = z} (more {after = after} {x = x} {others = rest} d n i eq) (more {after = after'} {x = x'} {others = rest'} d' n' i' eq') =
      let both = closed (omega arith) (agree d d') n refl n' refl in
      let afters = same_rest n' (subst (λ ts. IsNext ts k.Comma after) both.1 n) in
      let behind = items_agree i (subst (λ ts. Items ts rest' z) (sym afters) i') in
      (eq ∙ (ap (λ x. x ∷ rest) both.0 ∙ (ap (λ es. x' ∷ es) behind.0 ∙ sym eq')), behind.1)
