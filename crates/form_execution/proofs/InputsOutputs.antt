-- PRINT, READ and assignments.
use Rattle.std.proofs.Common.{◌≡◌, ℕ, ◌<◌, true, false, List, [], ◌∷◌, length, ap, sym, ◌∙◌, subst, refl, arith}
use Rattle.f77_tree.specs.declared.expr.Expr.{Expr}
use Rattle.f77_tree.specs.declared.expr.Expr.TheVariants as e
use Rattle.f77_tree.specs.declared.form.Form.{Form}
use Rattle.f77_tree.specs.declared.form.Form.TheVariants as f
use Rattle.f77_expr.specs.declared.token.Token.TheVariants as t
use Rattle.f77_expr.specs.declared.token.Kind.{Kind}
use Rattle.f77_expr.specs.declared.token.Kind.TheVariants as k
use Rattle.f77_expr.specs.Kinds.{Tokens, IsNext}
use Rattle.f77_expr.specs.Grammar.{ReadsExpression}
use Rattle.f77_expr.specs.Longest.{NoneBegins}
use Rattle.f77_expr.proofs.FirstKinds.{First, at_int, at_true, at_false, at_word, at_open, at_minus, at_plus, at_not, first_kind}
use Rattle.form_parts.specs.Only.{NotNext, Follows, equals, LongestFront, OnlyPart, NoPart, Sole, Never}
use Rattle.form_parts.specs.Listed.{Whole}
use Rattle.form_parts.specs.Parts.{IsVariable}
use Rattle.form_parts.specs.Parts.{IsExpression}
use Rattle.form_execution.specs.Assignment.{IsAssignment}
use Rattle.form_execution.specs.InputOutput.{IsItem, value, literal, IsPrint, alone, listed, IsRead}
use Rattle.form_parts.proofs.Following.{settles_follows}
use Rattle.form_parts.proofs.NextToken.{same_rest, none_next}

-- ---- items of PRINT

no_text_at : {above : ℕ} {kind : Kind} → First above kind → kind ≡ k.Text → ⊥
no_text_at at_int e = cc
no_text_at at_true e = cc
no_text_at at_false e = cc
no_text_at at_word e = cc
no_text_at at_open e = cc
no_text_at (at_minus h) e = cc
no_text_at (at_plus h) e = cc
no_text_at (at_not h) e = cc

pub no_text : {ts s z : Tokens} {x : Expr} {bytes : List ℕ} → ReadsExpression ts x z → ts ≡ t.Text bytes ∷ s → ⊥
no_text {s = s} {bytes = bytes} d e = no_text_at (first_kind d (record { token = t.Text bytes; front = e; is = refl })) refl

literal_same : {ts rest z : Tokens} {bytes : List ℕ} {y : Expr} → ts ≡ t.Text bytes ∷ rest → IsItem ts y z → (y ≡ e.Text bytes) × (z ≡ rest)
literal_same front (value d) = absurd (no_text d front)
literal_same {rest = rest} {z = z} {bytes = bytes} front (literal other g is) =
    let both : t.Text other ∷ z ≡ t.Text bytes ∷ rest = sym g ∙ front in
    let same : other ≡ bytes = cc in
    (is ∙ ap e.Text same, cc)

pub item_literal : {ts rest : Tokens} {bytes : List ℕ} → ts ≡ t.Text bytes ∷ rest → OnlyPart IsItem false ts (e.Text bytes) rest
item_literal {bytes = bytes} front = record { part = literal bytes front refl; shorter = omega (arith, ap length front); only = λ y z i follows. literal_same front i }

value_same : {ts s z : Tokens} {x y : Expr} → ((bytes : List ℕ) (rest : Tokens) → ts ≡ t.Text bytes ∷ rest → ⊥) → LongestFront ts x s → IsItem ts y z → Follows false z → (y ≡ x) × (z ≡ s)
value_same {z = z} {y = y} other longest (value d) follows = longest.is.settled y z d (settles_follows follows)
value_same {z = z} other longest (literal bytes front is) follows = absurd (other bytes z front)

pub item_value : {ts s : Tokens} {x : Expr} → ((bytes : List ℕ) (rest : Tokens) → ts ≡ t.Text bytes ∷ rest → ⊥) → LongestFront ts x s → OnlyPart IsItem false ts x s
item_value other longest = record { part = value longest.is.reads; shorter = longest.shorter; only = λ y z i follows. value_same other longest i follows }

no_item_at : {ts z : Tokens} {y : Expr} → ((bytes : List ℕ) (rest : Tokens) → ts ≡ t.Text bytes ∷ rest → ⊥) → NoneBegins ts → IsItem ts y z → ⊥
no_item_at {z = z} {y = y} other none (value d) = none.not y z d
no_item_at {z = z} other none (literal bytes front is) = other bytes z front

pub no_item : {ts : Tokens} → ((bytes : List ℕ) (rest : Tokens) → ts ≡ t.Text bytes ∷ rest → ⊥) → NoneBegins ts → NoPart IsItem false ts
no_item other none = record { not = λ y z i follows. no_item_at other none i }

-- ---- PRINT

pub never_star : {ts : Tokens} → NotNext ts k.Star → Never IsPrint ts
never_star lacks = record { not = λ form p. no_star lacks p }
  where
    no_star : {ts : Tokens} {form : Form} → NotNext ts k.Star → IsPrint ts form → ⊥
    no_star lacks (alone n is) = lacks.not [] n
    no_star lacks (listed behind rest items n m w is) = lacks.not behind n

print_alone : {ts behind : Tokens} {form : Form} → IsNext ts k.Star behind → behind ≡ [] → IsPrint ts form → form ≡ f.Print []
print_alone n e (alone m is) = is
print_alone n e (listed behind rest items m comma w is) = absurd (none_next (same_rest n m ∙ e) comma)

pub sole_alone : {ts behind : Tokens} → IsNext ts k.Star behind → behind ≡ [] → Sole IsPrint ts (f.Print [])
sole_alone {ts} n e = record { is = alone (subst (λ b. IsNext ts k.Star b) e n) refl; only = λ form p. print_alone n e p }

print_listed : {ts behind rest : Tokens} {items : List Expr} {form : Form} → IsNext ts k.Star behind → IsNext behind k.Comma rest → Sole (Whole IsItem) rest items → IsPrint ts form → form ≡ f.Print items
print_listed n m sole (alone other is) = absurd (none_next (same_rest other n) m)
print_listed {behind = behind} {rest = rest} n m sole (listed behind' rest' items' n' m' w is) =
    let place : rest' ≡ rest = same_rest m (subst (λ b. IsNext b k.Comma rest') (same_rest n n') m') in
    is ∙ ap f.Print (sole.only items' (subst (λ r. Whole IsItem r items') place w))

pub sole_listed : {ts behind rest : Tokens} {items : List Expr} → IsNext ts k.Star behind → IsNext behind k.Comma rest → Sole (Whole IsItem) rest items → Sole IsPrint ts (f.Print items)
sole_listed {behind = behind} {rest = rest} {items = items} n m sole = record { is = listed behind rest items n m sole.is refl; only = λ form p. print_listed n m sole p }

print_no_comma : {ts behind : Tokens} {form : Form} → IsNext ts k.Star behind → 0 < length behind → NotNext behind k.Comma → IsPrint ts form → ⊥
print_no_comma n h lacks (alone other is) = omega (arith, h, ap length (same_rest other n))
print_no_comma n h lacks (listed behind' rest items n' m w is) = lacks.not rest (subst (λ b. IsNext b k.Comma rest) (same_rest n n') m)

pub never_print_comma : {ts behind : Tokens} → IsNext ts k.Star behind → 0 < length behind → NotNext behind k.Comma → Never IsPrint ts
never_print_comma n h lacks = record { not = λ form p. print_no_comma n h lacks p }

print_no_items : {ts behind rest : Tokens} {form : Form} → IsNext ts k.Star behind → IsNext behind k.Comma rest → Never (Whole IsItem) rest → IsPrint ts form → ⊥
print_no_items n m never (alone other is) = none_next (same_rest other n) m
print_no_items {rest = rest} n m never (listed behind' rest' items n' m' w is) =
    let place : rest' ≡ rest = same_rest m (subst (λ b. IsNext b k.Comma rest') (same_rest n n') m') in
    never.not items (subst (λ r. Whole IsItem r items) place w)

pub never_items : {ts behind rest : Tokens} → IsNext ts k.Star behind → IsNext behind k.Comma rest → Never (Whole IsItem) rest → Never IsPrint ts
never_items n m never = record { not = λ form p. print_no_items n m never p }

-- ---- READ

read_place : {ts behind rest : Tokens} {form : Form} → IsNext ts k.Star behind → IsNext behind k.Comma rest → (r : IsRead ts form) → r.rest ≡ rest
read_place n m r = same_rest m (subst (λ b. IsNext b k.Comma r.rest) (same_rest n r.star) r.comma)

pub sole_read : {ts behind rest : Tokens} {targets : List Expr} → IsNext ts k.Star behind → IsNext behind k.Comma rest → Sole (Whole IsVariable) rest targets → Sole IsRead ts (f.Read targets)
sole_read {behind = behind} {rest = rest} {targets = targets} n m sole = record {
  is = record { behind = behind; rest = rest; targets = targets; star = n; comma = m; listed = sole.is; made = refl };
  only = λ form r. r.made ∙ ap f.Read (sole.only r.targets (subst (λ t. Whole IsVariable t r.targets) (read_place n m r) r.listed));
}

pub never_read_star : {ts : Tokens} → NotNext ts k.Star → Never IsRead ts
never_read_star lacks = record { not = λ form r. lacks.not r.behind r.star }

pub never_read_comma : {ts behind : Tokens} → IsNext ts k.Star behind → NotNext behind k.Comma → Never IsRead ts
never_read_comma n lacks = record { not = λ form r. lacks.not r.rest (subst (λ b. IsNext b k.Comma r.rest) (same_rest n r.star) r.comma) }

pub never_targets : {ts behind rest : Tokens} → IsNext ts k.Star behind → IsNext behind k.Comma rest → Never (Whole IsVariable) rest → Never IsRead ts
never_targets n m never = record { not = λ form r. never.not r.targets (subst (λ t. Whole IsVariable t r.targets) (read_place n m r) r.listed) }

-- ---- assignments

assigned_same : {ts rest more : Tokens} {target x : Expr} {form : Form} → OnlyPart IsVariable true ts target rest → IsNext rest k.Equals more → Sole IsExpression more x → IsAssignment ts form → form ≡ f.Assign target x
assigned_same {rest = rest} {more = more} {target = target} part n sole a =
    let same = part.only a.target a.rest a.assigned (equals a.more a.equals) in
    let place : a.more ≡ more = same_rest n (subst (λ r. IsNext r k.Equals a.more) same.1 a.equals) in
    a.made ∙ (ap (λ t. f.Assign t a.value) same.0 ∙ ap (λ x. f.Assign target x) (sole.only a.value (subst (λ m. IsExpression m a.value) place a.reads)))

pub sole_assignment : {ts rest more : Tokens} {target x : Expr} → OnlyPart IsVariable true ts target rest → IsNext rest k.Equals more → Sole IsExpression more x → Sole IsAssignment ts (f.Assign target x)
sole_assignment {rest = rest} {more = more} {target = target} {x = x} part n sole = record {
  is = record { target = target; value = x; rest = rest; more = more; assigned = part.part; equals = n; reads = sole.is; made = refl };
  only = λ form a. assigned_same part n sole a;
}

pub never_target : {ts : Tokens} → NoPart IsVariable true ts → Never IsAssignment ts
never_target none = record { not = λ form a. none.not a.target a.rest a.assigned (equals a.more a.equals) }

pub never_equal : {ts rest : Tokens} {target : Expr} → OnlyPart IsVariable true ts target rest → NotNext rest k.Equals → Never IsAssignment ts
never_equal part lacks = record { not = λ form a. lacks.not a.more (subst (λ r. IsNext r k.Equals a.more) (part.only a.target a.rest a.assigned (equals a.more a.equals)).1 a.equals) }

pub never_assigned : {ts rest more : Tokens} {target : Expr} → OnlyPart IsVariable true ts target rest → IsNext rest k.Equals more → Never IsExpression more → Never IsAssignment ts
never_assigned {more = more} part n never = record {
  not = λ form a.
      let same = part.only a.target a.rest a.assigned (equals a.more a.equals) in
      let place : a.more ≡ more = same_rest n (subst (λ r. IsNext r k.Equals a.more) same.1 a.equals) in
      never.not a.value (subst (λ m. IsExpression m a.value) place a.reads);
}
