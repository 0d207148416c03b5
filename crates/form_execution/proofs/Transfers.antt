-- Labels, and statements that go elsewhere.
use Rattle.std.proofs.Common.{◌≡◌, ℕ, ℤ, ◌<◌, ◌≤◌, true, false, List, [], ◌∷◌, get_or, Option, Some, None, MatchOption, Result, Ok, Err, IfOk, pos, length, ap, sym, ◌∙◌, subst, refl, arith}
use Rattle.std.specs.declared.alloc.AllocError.{AllocError}
use Rattle.f77_tree.specs.declared.expr.Expr.{Expr}
use Rattle.f77_tree.specs.declared.form.Form.{Form}
use Rattle.f77_tree.specs.declared.form.Form.TheVariants as f
use Rattle.f77_expr.specs.declared.token.Token.TheVariants as t
use Rattle.f77_expr.specs.declared.token.Kind.TheVariants as k
use Rattle.f77_expr.specs.Kinds.{Tokens, IsNext, kind_of}
use Rattle.fixed_form.proofs.WordRuns.{false_true}
use Rattle.form_parts.specs.Only.{OnlyFront, NoFront, Sole, Never}
use Rattle.form_parts.specs.Listed.{Parenthesized, Whole, behind_comma}
use Rattle.form_execution.specs.Control.{IsCondition}
use Rattle.form_parts.specs.Parts.{IsExpression}
use Rattle.form_execution.specs.Transfer.{IsLabel, IsPlainGoTo, IsComputedGoTo, IsGoTo, plain, computed, IsArithmeticIf, is_stop, IsStop, call_of, IsCall}

-- ---- labels

int_same : {m n : ℤ} {c d : ℕ} {r s : Tokens} → t.Int m c ∷ r ≡ t.Int n d ∷ s → (m ≡ n) × (c ≡ d) × (r ≡ s)
int_same e = (cc, cc, cc)

pos_same : {m n : ℕ} → pos m ≡ pos n → m ≡ n
pos_same e = cc

label_same : {ts rest z : Tokens} {label y digits : ℕ} → ts ≡ t.Int (pos label) digits ∷ rest → IsLabel ts y z → (y ≡ label) × (z ≡ rest)
label_same e l = let same = int_same (sym l.front ∙ e) in (pos_same same.0, same.2)

pub label_front : {ts rest : Tokens} {label digits : ℕ} → ts ≡ t.Int (pos label) digits ∷ rest → digits ≤ 5 → label ≤ 99999 → OnlyFront IsLabel ts label rest
label_front {digits = digits} e few small = record { part = record { digits = digits; front = e; few = few; small = small }; shorter = omega (arith, ap length e); only = λ y z l. label_same e l }

pub no_label_many : {ts rest : Tokens} {n : ℤ} {digits : ℕ} → ts ≡ t.Int n digits ∷ rest → 5 < digits → NoFront IsLabel ts
no_label_many e many = record { not = λ y z l. let same = int_same (sym l.front ∙ e) in omega (arith, many, l.few, same.1) }

pub no_label_value : {ts rest : Tokens} {n : ℤ} {digits : ℕ} → ts ≡ t.Int n digits ∷ rest → ((m : ℕ) → m ≤ 99999 → n ≡ pos m → ⊥) → NoFront IsLabel ts
no_label_value e h = record { not = λ y z l. let same = int_same (sym l.front ∙ e) in h y l.small (sym same.0) }

pub no_label_token : {ts : Tokens} → ((n : ℤ) (digits : ℕ) (rest : Tokens) → ts ≡ t.Int n digits ∷ rest → ⊥) → NoFront IsLabel ts
no_label_token h = record { not = λ y z l. h (pos y) l.digits z l.front }

pub label_no_open : {ts rest z : Tokens} {y : ℕ} → IsLabel ts y z → IsNext ts k.Open rest → ⊥
label_no_open {y = y} l n =
    let same : n.token ≡ t.Int (pos y) l.digits = cc (n.front, l.front) in
    let kinds : k.Open ≡ k.Int = sym n.is ∙ ap kind_of same in
    cc

-- ---- GO TO

pub sole_plain : {ts rest : Tokens} {label : ℕ} → OnlyFront IsLabel ts label rest → rest ≡ [] → Sole IsPlainGoTo ts (f.GoTo label)
sole_plain {ts} {rest} {label} front e = record {
  is = record { label = label; is = subst (λ r. IsLabel ts label r) e front.part; made = refl };
  only = λ form g. g.made ∙ ap f.GoTo (front.only g.label [] g.is).0;
}

pub never_plain : {ts : Tokens} → NoFront IsLabel ts → Never IsPlainGoTo ts
never_plain none = record { not = λ form g. none.not g.label [] g.is }

pub never_plain_more : {ts rest : Tokens} {label : ℕ} → OnlyFront IsLabel ts label rest → 0 < length rest → Never IsPlainGoTo ts
never_plain_more front more = record { not = λ form g. omega (arith, more, ap length (front.only g.label [] g.is).1) }

computed_same : {ts rest : Tokens} {labels : List ℕ} {x : Expr} {form : Form} → OnlyFront (Parenthesized IsLabel) ts labels rest → Sole IsExpression (behind_comma rest) x → IsComputedGoTo ts form → form ≡ f.ComputedGoTo labels x
computed_same {rest = rest} {labels = labels} front sole g =
    let same = front.only g.labels g.rest g.listed in
    let index = sole.only g.index (subst (λ r. IsExpression (behind_comma r) g.index) same.1 g.reads) in
    g.made ∙ (ap (λ l. f.ComputedGoTo l g.index) same.0 ∙ ap (λ e. f.ComputedGoTo labels e) index)

pub sole_computed : {ts rest : Tokens} {labels : List ℕ} {x : Expr} → OnlyFront (Parenthesized IsLabel) ts labels rest → Sole IsExpression (behind_comma rest) x → Sole IsComputedGoTo ts (f.ComputedGoTo labels x)
sole_computed {rest = rest} {labels = labels} {x = x} front sole = record {
  is = record { labels = labels; index = x; rest = rest; listed = front.part; reads = sole.is; made = refl };
  only = λ form g. computed_same front sole g;
}

pub never_labels : {ts : Tokens} → NoFront (Parenthesized IsLabel) ts → Never IsComputedGoTo ts
never_labels none = record { not = λ form g. none.not g.labels g.rest g.listed }

pub never_index : {ts rest : Tokens} {labels : List ℕ} → OnlyFront (Parenthesized IsLabel) ts labels rest → Never IsExpression (behind_comma rest) → Never IsComputedGoTo ts
never_index front never = record { not = λ form g. never.not g.index (subst (λ r. IsExpression (behind_comma r) g.index) (front.only g.labels g.rest g.listed).1 g.reads) }

go_to_same : {ts : Tokens} {form y : Form} → Sole IsPlainGoTo ts form → IsGoTo ts y → y ≡ form
go_to_same sole (plain g) = sole.only _ g
go_to_same sole (computed g) = absurd (label_no_open sole.is.is g.listed.opens)

pub go_plain : {ts : Tokens} {form : Form} → Sole IsPlainGoTo ts form → Sole IsGoTo ts form
go_plain sole = record { is = plain sole.is; only = λ y g. go_to_same sole g }

computed_only : {ts : Tokens} {form y : Form} → Never IsPlainGoTo ts → Sole IsComputedGoTo ts form → IsGoTo ts y → y ≡ form
computed_only {y = y} never sole (plain g) = absurd (never.not y g)
computed_only {y = y} never sole (computed g) = sole.only y g

no_go_to : {ts : Tokens} {y : Form} → Never IsPlainGoTo ts → Never IsComputedGoTo ts → IsGoTo ts y → ⊥
no_go_to {y = y} a b (plain g) = a.not y g
no_go_to {y = y} a b (computed g) = b.not y g

pub go_computed : (ts : Tokens) (r : Result (Option Form) AllocError) → Never IsPlainGoTo ts → IfOk r (λ found. MatchOption found (Never IsComputedGoTo ts) (λ form. Sole IsComputedGoTo ts form)) → IfOk r (λ found. MatchOption found (Never IsGoTo ts) (λ form. Sole IsGoTo ts form))
go_computed ts (Ok None) never h = record { not = λ y g. no_go_to never h g }
go_computed ts (Ok (Some form)) never h = record { is = computed h.is; only = λ y g. computed_only never h g }
go_computed ts (Err e) never h = tt

-- ---- arithmetic IF

three_same : {a b c x y z : ℕ} → x ∷ y ∷ z ∷ [] ≡ a ∷ b ∷ c ∷ [] → (x ≡ a) × (y ≡ b) × (z ≡ c)
three_same e = (cc, cc, cc)

arithmetic_same : {ts rest : Tokens} {x : Expr} {a b c : ℕ} {form : Form} → OnlyFront IsCondition ts x rest → Sole (Whole IsLabel) rest (a ∷ b ∷ c ∷ []) → IsArithmeticIf ts form → form ≡ f.ArithmeticIf x a b c
arithmetic_same {x = x} {a = a} {b = b} {c = c} front sole g =
    let same = front.only g.test g.rest g.condition in
    let labels = three_same (sole.only (g.negative ∷ g.null ∷ g.positive ∷ []) (subst (λ r. Whole IsLabel r (g.negative ∷ g.null ∷ g.positive ∷ [])) same.1 g.labels)) in
    g.made ∙ (ap (λ e. f.ArithmeticIf e g.negative g.null g.positive) same.0 ∙ (ap (λ n. f.ArithmeticIf x n g.null g.positive) labels.0 ∙ (ap (λ n. f.ArithmeticIf x a n g.positive) labels.1 ∙ ap (λ n. f.ArithmeticIf x a b n) labels.2)))

pub sole_arithmetic : {ts rest : Tokens} {x : Expr} {a b c : ℕ} → OnlyFront IsCondition ts x rest → Sole (Whole IsLabel) rest (a ∷ b ∷ c ∷ []) → Sole IsArithmeticIf ts (f.ArithmeticIf x a b c)
sole_arithmetic {rest = rest} {x = x} {a = a} {b = b} {c = c} front sole = record {
  is = record { test = x; rest = rest; negative = a; null = b; positive = c; condition = front.part; labels = sole.is; made = refl };
  only = λ form g. arithmetic_same front sole g;
}

pub three_at : (all : List ℕ) → length all ≡ 3 → all ≡ get_or all 0 0 ∷ get_or all 1 0 ∷ get_or all 2 0 ∷ []
three_at [] h = absurd (omega (arith, h))
three_at (x ∷ []) h = absurd (omega (arith, h))
three_at (x ∷ y ∷ []) h = absurd (omega (arith, h))
three_at (x ∷ y ∷ z ∷ []) h = refl
three_at (x ∷ y ∷ z ∷ w ∷ all) h = absurd (omega (arith, h))

pub arithmetic_of : {ts rest : Tokens} {x : Expr} {all : List ℕ} {a b c : ℕ} → OnlyFront IsCondition ts x rest → Sole (Whole IsLabel) rest all → all ≡ a ∷ b ∷ c ∷ [] → Sole IsArithmeticIf ts (f.ArithmeticIf x a b c)
arithmetic_of {rest = rest} front sole e = sole_arithmetic front (subst (λ l. Sole (Whole IsLabel) rest l) e sole)

pub never_value : {ts : Tokens} → NoFront IsCondition ts → Never IsArithmeticIf ts
never_value none = record { not = λ form g. none.not g.test g.rest g.condition }

pub never_three : {ts rest : Tokens} {x : Expr} → OnlyFront IsCondition ts x rest → Never (Whole IsLabel) rest → Never IsArithmeticIf ts
never_three front never = record { not = λ form g. never.not (g.negative ∷ g.null ∷ g.positive ∷ []) (subst (λ r. Whole IsLabel r (g.negative ∷ g.null ∷ g.positive ∷ [])) (front.only g.test g.rest g.condition).1 g.labels) }

pub never_count : {ts rest : Tokens} {x : Expr} {all : List ℕ} → OnlyFront IsCondition ts x rest → Sole (Whole IsLabel) rest all → (length all ≡ 3 → ⊥) → Never IsArithmeticIf ts
never_count front sole other = record {
  not = λ form g. other (sym (ap length (sole.only (g.negative ∷ g.null ∷ g.positive ∷ []) (subst (λ r. Whole IsLabel r (g.negative ∷ g.null ∷ g.positive ∷ [])) (front.only g.test g.rest g.condition).1 g.labels))));
}

-- ---- STOP and CALL

pub sole_stop : {ts : Tokens} → is_stop ts ≡ true → Sole IsStop ts f.Stop
sole_stop h = record { is = record { stops = h; made = refl }; only = λ form s. s.made }

pub never_stop : {ts : Tokens} → is_stop ts ≡ false → Never IsStop ts
never_stop h = record { not = λ form s. false_true h s.stops }

some_form : {x y : Form} → Some x ≡ Some y → x ≡ y
some_form e = cc

call_same : {ts : Tokens} {x : Expr} {form y : Form} → Sole IsExpression ts x → call_of x ≡ Some form → IsCall ts y → y ≡ form
call_same {form = form} {y = y} sole e g = some_form (sym g.made ∙ (ap call_of (sole.only g.x g.reads) ∙ e))

no_call_at : {ts : Tokens} {x : Expr} {y : Form} → Sole IsExpression ts x → call_of x ≡ None → IsCall ts y → ⊥
no_call_at {y = y} sole e g = let none_some : None ≡ Some y = sym e ∙ (ap call_of (sym (sole.only g.x g.reads)) ∙ g.made) in cc

pub found_call : {ts : Tokens} {x : Expr} (r : Option Form) → Sole IsExpression ts x → r ≡ call_of x → MatchOption r (Never IsCall ts) (λ form. Sole IsCall ts form)
found_call None sole e = record { not = λ y g. no_call_at sole (sym e) g }
found_call {x = x} (Some form) sole e = record { is = record { x = x; reads = sole.is; made = sym e }; only = λ y g. call_same sole (sym e) g }

pub never_call : {ts : Tokens} → Never IsExpression ts → Never IsCall ts
never_call never = record { not = λ form g. never.not g.x g.reads }
