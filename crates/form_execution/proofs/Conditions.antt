-- Conditions, words that stand alone, and the parts of a DO.
use Rattle.std.proofs.Common.{◌≡◌, ℕ, ◌<◌, ◌≤◌, true, false, List, [], ◌∷◌, ◌++◌, get_or, Option, Some, None, length, ap, sym, ◌∙◌, subst, refl, arith}
use Rattle.f77_tree.specs.Names.{is_name}
use Rattle.f77_tree.specs.declared.expr.Expr.{Expr}
use Rattle.f77_tree.specs.declared.form.Form.{Form}
use Rattle.f77_tree.specs.declared.form.Form.TheVariants as f
use Rattle.f77_expr.specs.declared.token.Kind.TheVariants as k
use Rattle.f77_expr.specs.Spelling.{Text, is_digit, value_of}
use Rattle.f77_expr.specs.Kinds.{Tokens, IsNext}
use Rattle.f77_expr.specs.Grammar.{ReadsExpression}
use Rattle.f77_expr.specs.Longest.{NoneBegins}
use Rattle.fixed_form.proofs.WordRuns.{false_true}
use Rattle.form_parts.specs.Answers.{InTokens}
use Rattle.form_parts.specs.Only.{NotNext, LongestFront, OnlyFront, NoFront, Sole, Never}
use Rattle.form_parts.specs.Listed.{Whole}
use Rattle.form_kinds.specs.Scans.{FirstOutside, NoneOutside}
use Rattle.form_kinds.specs.StatementKinds.{IsDoHead, NoDoHead, IsOptionalComma, absent, comma}
use Rattle.form_execution.specs.Control.{IsBare, IsCondition, IsTest, is_then, IsRange, by_one, by_step, IsDoForm}
use Rattle.form_parts.proofs.Following.{settles_at}
use Rattle.form_parts.proofs.NextToken.{next_shorter, same_rest}
use Rattle.form_kinds.proofs.Digits.{piece_same}
use Rattle.form_kinds.proofs.KindTests.{mark_ends, marked_name, name_no_comma}
use Rattle.form_kinds.proofs.Places.{first_same, first_none}

pub sole_bare : {ts : Tokens} (whole : Form) → ts ≡ [] → Sole (IsBare whole) ts whole
sole_bare whole e = record { is = record { none = e; made = refl }; only = λ y is. is.made }

pub never_bare : {ts : Tokens} (whole : Form) → 0 < length ts → Never (IsBare whole) ts
never_bare whole h = record { not = λ y is. omega (arith, h, ap length is.none) }

-- ---- conditions

condition_same : {ts inside behind rest z : Tokens} {x y : Expr} → IsNext ts k.Open inside → LongestFront inside x behind → IsNext behind k.Close rest → IsCondition ts y z → (y ≡ x) × (z ≡ rest)
condition_same {inside = inside} {behind = behind} {rest = rest} {z = z} {y = y} opens longest closes c =
    let start : c.inside ≡ inside = same_rest opens c.opens in
    let same = longest.is.settled y c.behind (subst (λ t. ReadsExpression t y c.behind) start c.reads) (settles_at refl c.closes) in
    (same.0, same_rest closes (subst (λ t. IsNext t k.Close z) same.1 c.closes))

pub condition_front : {ts inside behind rest : Tokens} {x : Expr} → IsNext ts k.Open inside → LongestFront inside x behind → IsNext behind k.Close rest → OnlyFront IsCondition ts x rest
condition_front {inside = inside} {behind = behind} opens longest closes = record {
  part = record { inside = inside; behind = behind; opens = opens; reads = longest.is.reads; closes = closes };
  shorter = omega (arith, next_shorter opens, longest.shorter, next_shorter closes);
  only = λ y z c. condition_same opens longest closes c;
}

pub no_condition_open : {ts : Tokens} → NotNext ts k.Open → NoFront IsCondition ts
no_condition_open lacks = record { not = λ y z c. lacks.not c.inside c.opens }

pub no_condition_inside : {ts inside : Tokens} → IsNext ts k.Open inside → NoneBegins inside → NoFront IsCondition ts
no_condition_inside opens none = record { not = λ y z c. none.not y c.behind (subst (λ t. ReadsExpression t y c.behind) (same_rest opens c.opens) c.reads) }

unclosed_at : {ts inside behind z : Tokens} {x y : Expr} → IsNext ts k.Open inside → LongestFront inside x behind → NotNext behind k.Close → IsCondition ts y z → ⊥
unclosed_at {inside = inside} {z = z} {y = y} opens longest lacks c =
    let start : c.inside ≡ inside = same_rest opens c.opens in
    let same = longest.is.settled y c.behind (subst (λ t. ReadsExpression t y c.behind) start c.reads) (settles_at refl c.closes) in
    lacks.not z (subst (λ t. IsNext t k.Close z) same.1 c.closes)

pub no_condition_close : {ts inside behind : Tokens} {x : Expr} → IsNext ts k.Open inside → LongestFront inside x behind → NotNext behind k.Close → NoFront IsCondition ts
no_condition_close opens longest lacks = record { not = λ y z c. unclosed_at opens longest lacks c }

pub sole_test : {ts rest : Tokens} {x : Expr} → OnlyFront IsCondition ts x rest → is_then rest ≡ true → Sole IsTest ts x
sole_test {rest = rest} front then_is = record { is = record { rest = rest; condition = front.part; then_is = then_is }; only = λ y t. (front.only y t.rest t.condition).0 }

pub never_test : {ts : Tokens} → NoFront IsCondition ts → Never IsTest ts
never_test none = record { not = λ y t. none.not y t.rest t.condition }

pub never_then : {ts rest : Tokens} {x : Expr} → OnlyFront IsCondition ts x rest → is_then rest ≡ false → Never IsTest ts
never_then front wrong = record { not = λ y t. false_true wrong (ap is_then (sym (front.only y t.rest t.condition).1) ∙ t.then_is) }

-- ---- the parts of a DO

abbrev pub Parts : Expr → Expr → Option Expr → Expr × Expr × Option Expr
Parts a b step = (a, b, step)

two_parts : (x y a b : Expr) → x ∷ y ∷ [] ≡ a ∷ b ∷ [] → Parts x y None ≡ Parts a b None
two_parts x y a b e =
    let first : x ≡ a = cc in
    let second : y ≡ b = cc in
    ap (λ x. Parts x y None) first ∙ ap (λ y. Parts a y None) second

range_two : {ts : Tokens} {a b : Expr} {parts : Expr × Expr × Option Expr} → Sole (Whole ReadsExpression) ts (a ∷ b ∷ []) → IsRange ts parts → parts ≡ (a, b, None)
range_two {a = a} {b = b} sole (by_one from to w is) = is ∙ two_parts from to a b (sole.only (from ∷ to ∷ []) w)
range_two sole (by_step from to step w is) = let same = ap length (sole.only (from ∷ to ∷ step ∷ []) w) in absurd (omega (arith, same))

pub sole_two : {ts : Tokens} {a b : Expr} → Sole (Whole ReadsExpression) ts (a ∷ b ∷ []) → Sole IsRange ts (a, b, None)
sole_two {a = a} {b = b} sole = record { is = by_one a b sole.is refl; only = λ parts r. range_two sole r }

three_parts : (x y z a b c : Expr) → x ∷ y ∷ z ∷ [] ≡ a ∷ b ∷ c ∷ [] → Parts x y (Some z) ≡ Parts a b (Some c)
three_parts x y z a b c e =
    let first : x ≡ a = cc in
    let second : y ≡ b = cc in
    let third : z ≡ c = cc in
    ap (λ x. Parts x y (Some z)) first ∙ (ap (λ y. Parts a y (Some z)) second ∙ ap (λ z. Parts a b (Some z)) third)

range_three : {ts : Tokens} {a b c : Expr} {parts : Expr × Expr × Option Expr} → Sole (Whole ReadsExpression) ts (a ∷ b ∷ c ∷ []) → IsRange ts parts → parts ≡ (a, b, Some c)
range_three sole (by_one from to w is) = let same = ap length (sole.only (from ∷ to ∷ []) w) in absurd (omega (arith, same))
range_three {a = a} {b = b} {c = c} sole (by_step from to step w is) = is ∙ three_parts from to step a b c (sole.only (from ∷ to ∷ step ∷ []) w)

pub sole_three : {ts : Tokens} {a b c : Expr} → Sole (Whole ReadsExpression) ts (a ∷ b ∷ c ∷ []) → Sole IsRange ts (a, b, Some c)
sole_three {a = a} {b = b} {c = c} sole = record { is = by_step a b c sole.is refl; only = λ parts r. range_three sole r }

no_range : {ts : Tokens} {parts : Expr × Expr × Option Expr} → Never (Whole ReadsExpression) ts → IsRange ts parts → ⊥
no_range never (by_one from to w is) = never.not (from ∷ to ∷ []) w
no_range never (by_step from to step w is) = never.not (from ∷ to ∷ step ∷ []) w

pub never_range : {ts : Tokens} → Never (Whole ReadsExpression) ts → Never IsRange ts
never_range never = record { not = λ parts r. no_range never r }

other_range : {ts : Tokens} {all : List Expr} {parts : Expr × Expr × Option Expr} → Sole (Whole ReadsExpression) ts all → (length all ≡ 2 → ⊥) → (length all ≡ 3 → ⊥) → IsRange ts parts → ⊥
other_range sole two three (by_one from to w is) = two (sym (ap length (sole.only (from ∷ to ∷ []) w)))
other_range sole two three (by_step from to step w is) = three (sym (ap length (sole.only (from ∷ to ∷ step ∷ []) w)))

pub never_other : {ts : Tokens} {all : List Expr} → Sole (Whole ReadsExpression) ts all → (length all ≡ 2 → ⊥) → (length all ≡ 3 → ⊥) → Never IsRange ts
never_other sole two three = record { not = λ parts r. other_range sole two three r }

-- ---- a DO

pub record SameHead (l m : ℕ) (p q : Text) : Type 0 where
  pub label : l ≡ m
  pub name : p ≡ q

comma_mark : {mark : Text} (name more : Text) → IsOptionalComma mark → is_name name ≡ true → mark ++ name ≡ 44 ∷ more → mark ≡ 44 ∷ []
comma_mark name more (absent e) named f = absurd (name_no_comma name more named (ap (λ m. m ++ name) (sym e) ∙ f))
comma_mark name more (comma e) named f = e

pub do_head_same : {text p q : Text} {l m : ℕ} → IsDoHead text l p → IsDoHead text m q → SameHead l m p q
do_head_same {p = p} {q = q} a b =
    let cuts : a.digits ++ (a.mark ++ p) ≡ b.digits ++ (b.mark ++ q) = cc (a.cut, b.cut) in
    let same = piece_same is_digit a.digits (a.mark ++ p) b.digits (b.mark ++ q) a.are_digits.digits b.are_digits.digits (mark_ends a.mark p a.optional a.named) (mark_ends b.mark q b.optional b.named) cuts in
    record { label = a.value ∙ (ap value_of same.piece ∙ sym b.value); name = marked_name a.optional b.optional (λ more e. comma_mark q more b.optional b.named (sym same.rest ∙ e)) a.named same.rest }

do_same : {text before behind name : Text} {label : ℕ} {from to : Expr} {step : Option Expr} {form : Form} → FirstOutside 61 text before behind → IsDoHead before label name → Sole (InTokens IsRange) behind (from, to, step) → IsDoForm text form → form ≡ f.Do label name from to step
do_same {before = before} {behind = behind} {name = name} {label = label} {from = from} {to = to} {step = step} first head sole d =
    let place = first_same d.cut first in
    let same = do_head_same (subst (λ t. IsDoHead t d.label d.name) place.before d.head) head in
    let parts = sole.only d.parts (subst (λ t. InTokens IsRange t d.parts) place.behind d.range) in
    d.made ∙ (ap (λ l. f.Do l d.name d.parts.0 d.parts.1 d.parts.2) same.label ∙ (ap (λ n. f.Do label n d.parts.0 d.parts.1 d.parts.2) same.name ∙ ap (λ (p : Expr × Expr × Option Expr). f.Do label name p.0 p.1 p.2) parts))

pub sole_do : {text before behind name : Text} {label : ℕ} {from to : Expr} {step : Option Expr} → FirstOutside 61 text before behind → IsDoHead before label name → Sole (InTokens IsRange) behind (from, to, step) → Sole IsDoForm text (f.Do label name from to step)
sole_do {before = before} {behind = behind} {name = name} {label = label} {from = from} {to = to} {step = step} first head sole = record {
  is = record { before = before; behind = behind; label = label; name = name; parts = (from, to, step); cut = first; head = head; range = sole.is; made = refl };
  only = λ form d. do_same first head sole d;
}

pub never_equals : {text : Text} → NoneOutside 61 text → Never IsDoForm text
never_equals none = record { not = λ form d. first_none none d.cut }

pub never_do_head : {text before behind : Text} → FirstOutside 61 text before behind → NoDoHead before → Never IsDoForm text
never_do_head first none = record { not = λ form d. none.not d.label d.name (subst (λ t. IsDoHead t d.label d.name) (first_same d.cut first).before d.head) }

pub never_do_range : {text before behind : Text} → FirstOutside 61 text before behind → Never (InTokens IsRange) behind → Never IsDoForm text
never_do_range first never = record { not = λ form d. never.not d.parts (subst (λ t. InTokens IsRange t d.parts) (first_same d.cut first).behind d.range) }

-- ---- lists of two and of three

pub two_of : {A : Type 0} (all : List A) (a b : A) → 2 ≤ length all → length all < 3 → a ≡ get_or all 0 a → b ≡ get_or all 1 b → all ≡ a ∷ b ∷ []
two_of [] a b h g e f = absurd (omega (arith, h))
two_of (x ∷ []) a b h g e f = absurd (omega (arith, h))
two_of (x ∷ y ∷ []) a b h g e f = ap (λ z. z ∷ y ∷ []) (sym e) ∙ ap (λ z. a ∷ z ∷ []) (sym f)
two_of (x ∷ y ∷ z ∷ all) a b h g e f = absurd (omega (arith, g))

pub three_of : {A : Type 0} (all : List A) (a b c : A) → 3 ≤ length all → length all < 4 → a ≡ get_or all 0 a → b ≡ get_or all 1 b → c ≡ get_or all 2 c → all ≡ a ∷ b ∷ c ∷ []
three_of [] a b c h g e f d = absurd (omega (arith, h))
three_of (x ∷ []) a b c h g e f d = absurd (omega (arith, h))
three_of (x ∷ y ∷ []) a b c h g e f d = absurd (omega (arith, h))
three_of (x ∷ y ∷ z ∷ []) a b c h g e f d = ap (λ w. w ∷ y ∷ z ∷ []) (sym e) ∙ (ap (λ w. a ∷ w ∷ z ∷ []) (sym f) ∙ ap (λ w. a ∷ b ∷ w ∷ []) (sym d))
three_of (x ∷ y ∷ z ∷ w ∷ all) a b c h g e f d = absurd (omega (arith, g))

pub range_of_two : {ts : Tokens} {all : List Expr} {a b : Expr} → Sole (Whole ReadsExpression) ts all → all ≡ a ∷ b ∷ [] → Sole IsRange ts (a, b, None)
range_of_two {ts} sole e = sole_two (subst (λ l. Sole (Whole ReadsExpression) ts l) e sole)

pub range_of_three : {ts : Tokens} {all : List Expr} {a b c : Expr} → Sole (Whole ReadsExpression) ts all → all ≡ a ∷ b ∷ c ∷ [] → Sole IsRange ts (a, b, Some c)
range_of_three {ts} sole e = sole_three (subst (λ l. Sole (Whole ReadsExpression) ts l) e sole)
