-- No expression that is read has a literal of characters in it.
use Rattle.std.proofs.Common.{◌≡◌, ℕ, ℤ, Bool, true, false, ◌||◌, List, refl, sym, ap, ◌∙◌, rules}
use Rattle.std.specs.List.{list_any}
use Rattle.f77_tree.specs.declared.expr.Expr.{Expr, fold-roll-Expr, the_lemmas}
use Rattle.f77_tree.specs.declared.expr.Expr.TheOpen.{Expr-F}
use Rattle.f77_tree.specs.declared.expr.Expr.TheVariants as e
use Rattle.f77_tree.specs.declared.expr.Expr.TheVariants.{rolls-Apply}
use Rattle.f77_tree.specs.declared.expr.Op.{Op}
use Rattle.f77_expr.specs.declared.token.Rule.{Rule}
use Rattle.f77_expr.specs.Kinds.{Tokens}
use Rattle.f77_expr.specs.Grammar.{Reads, chain, asserted, denied, alone, compared, negated, kept, single, power, number, yes, no, name, applied, paren, Joins, stop, go, Lists, none, some, Items, last, more}
use Rattle.sound_units.specs.Texts.{text_step, has_text}
use Rattle.sound_units.proofs.Lists.{any-map}

pub neither : (a b : Bool) → a ≡ false → b ≡ false → (a || b) ≡ false
neither a b h k = ap (λ x. x || b) h ∙ k

pub text_Apply : (name : List ℕ) (list : List Expr) → has_text (e.Apply name list) ≡ list_any has_text list
text_Apply word list = ap has_text (sym (rolls-Apply word list)) ∙ (fold-roll-Expr Bool text_step (Expr-F.Apply word list) ∙ any-map (λ (b : Bool). b) has_text list)

text_Int : (n : ℤ) → has_text (e.Int n) ≡ false
text_Int n = search (rules, the_lemmas)

text_Truth : (b : Bool) → has_text (e.Truth b) ≡ false
text_Truth b = search (rules, the_lemmas)

pub text_Scalar : (name : List ℕ) → has_text (e.Scalar name) ≡ false
text_Scalar word = search (rules, the_lemmas)

text_Paren : (a : Expr) → has_text (e.Paren a) ≡ has_text a
text_Paren a = search (rules, the_lemmas)

text_Neg : (a : Expr) → has_text (e.Neg a) ≡ has_text a
text_Neg a = search (rules, the_lemmas)

text_Plus : (a : Expr) → has_text (e.Plus a) ≡ has_text a
text_Plus a = search (rules, the_lemmas)

text_Not : (a : Expr) → has_text (e.Not a) ≡ has_text a
text_Not a = search (rules, the_lemmas)

text_Binary : (op : Op) (a b : Expr) → has_text (e.Binary op a b) ≡ (has_text a || has_text b)
text_Binary op a b = search (rules, the_lemmas)

both_none : (op : Op) (a b : Expr) → has_text a ≡ false → has_text b ≡ false → has_text (e.Binary op a b) ≡ false
both_none op a b h k = text_Binary op a b ∙ neither (has_text a) (has_text b) h k

mutual
  pub none_read : {rule : Rule} {ts s : Tokens} {x : Expr} → Reads rule ts x s → has_text x ≡ false
  none_read (chain g r j) = none_joined j (none_read r)
  none_read (asserted r) = none_read r
  none_read (denied {a = a} n r eq) = ap has_text eq ∙ (text_Not a ∙ none_read r)
  none_read (alone r) = none_read r
  none_read (compared {o = o} {a = a} {b = b} r n q t eq) = ap has_text eq ∙ both_none o a b (none_read r) (none_read t)
  none_read (negated {a = a} n r j) = none_joined j (text_Neg a ∙ none_read r)
  none_read (kept {a = a} n r j) = none_joined j (text_Plus a ∙ none_read r)
  none_read (single r) = none_read r
  none_read (power {o = o} {a = a} {b = b} r n q t eq) = ap has_text eq ∙ both_none o a b (none_read r) (none_read t)
  none_read (number n digits f eq) = ap has_text eq ∙ text_Int n
  none_read (yes n eq) = ap has_text eq ∙ text_Truth true
  none_read (no n eq) = ap has_text eq ∙ text_Truth false
  none_read (name word f named eq) = ap has_text eq ∙ text_Scalar word
  none_read (applied {all = all} word f named n l eq) = ap has_text eq ∙ (text_Apply word all ∙ none_listed l)
  none_read (paren {a = a} n r m eq) = ap has_text eq ∙ (text_Paren a ∙ none_read r)

  none_joined : {rule : Rule} {a x : Expr} {ts s : Tokens} → Joins rule a ts x s → has_text a ≡ false → has_text x ≡ false
  none_joined (stop eq f) h = ap has_text eq ∙ h
  none_joined (go {o = o} {a = a} {b = b} n q r j) h = none_joined j (both_none o a b h (none_read r))

  none_listed : {ts s : Tokens} {all : List Expr} → Lists ts all s → list_any has_text all ≡ false
  none_listed (none n eq) = ap (list_any has_text) eq
  none_listed (some i) = none_among i

  none_among : {ts s : Tokens} {all : List Expr} → Items ts all s → list_any has_text all ≡ false
  none_among (last {x = x} r n eq) = ap (list_any has_text) eq ∙ neither (has_text x) false (none_read r) refl
  none_among (more {x = x} {others = others} r n i eq) = ap (list_any has_text) eq ∙ neither (has_text x) (list_any has_text others) (none_read r) (none_among i)
