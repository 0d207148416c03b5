-- Each expression that is read from such tokens has integers of 64 bits.
use Rattle.std.proofs.Common.{◌≡◌, ℕ, ℤ, Bool, true, false, ◌&&◌, List, [], ◌∷◌, refl, sym, ap, ◌∙◌, subst, map, rules}
use Rattle.std.specs.List.{list_all}
use Rattle.run_inputs.specs.Inputs.{is_word64}
use Rattle.f77_tree.specs.declared.expr.Expr.{Expr, fold-roll-Expr, the_lemmas}
use Rattle.f77_tree.specs.declared.expr.Expr.TheOpen.{Expr-F}
use Rattle.f77_tree.specs.declared.expr.Expr.TheVariants as e
use Rattle.f77_tree.specs.declared.expr.Expr.TheVariants.{rolls-Apply}
use Rattle.f77_tree.specs.declared.expr.Op.{Op}
use Rattle.f77_expr.specs.declared.token.Rule.{Rule}
use Rattle.f77_expr.specs.Kinds.{Tokens}
use Rattle.f77_expr.specs.Grammar.{Reads, chain, asserted, denied, alone, compared, negated, kept, single, power, number, yes, no, name, applied, paren, Joins, stop, go, Lists, none, some, Items, last, more}
use Rattle.word_laws.specs.Literals.{literal_step, has_word64}
use Rattle.word_texts.proofs.Tokens.{Small, small_word, behind, behind_one, first_small}

pub join : (a b : Bool) → a ≡ true → b ≡ true → (a && b) ≡ true
join a b h k = ap (λ x. x && b) h ∙ k

pub all-map : {A B : Type 0} → (p : B → Bool) (f : A → B) (xs : List A) → list_all p (map f xs) ≡ list_all (λ x. p (f x)) xs
all-map p f [] = refl
all-map p f (x ∷ xs) = ap (λ b. p (f x) && b) (all-map p f xs)

pub word_Apply : (name : List ℕ) (list : List Expr) → has_word64 (e.Apply name list) ≡ list_all has_word64 list
word_Apply word list = ap has_word64 (sym (rolls-Apply word list)) ∙ (fold-roll-Expr Bool literal_step (Expr-F.Apply word list) ∙ all-map (λ (b : Bool). b) has_word64 list)

pub word_Int : (n : ℤ) → has_word64 (e.Int n) ≡ is_word64 n
word_Int n = search (rules, the_lemmas)

pub word_Truth : (b : Bool) → has_word64 (e.Truth b) ≡ true
word_Truth b = search (rules, the_lemmas)

pub word_Text : (bytes : List ℕ) → has_word64 (e.Text bytes) ≡ true
word_Text bytes = search (rules, the_lemmas)

pub word_Scalar : (name : List ℕ) → has_word64 (e.Scalar name) ≡ true
word_Scalar word = search (rules, the_lemmas)

word_Paren : (a : Expr) → has_word64 (e.Paren a) ≡ has_word64 a
word_Paren a = search (rules, the_lemmas)

word_Neg : (a : Expr) → has_word64 (e.Neg a) ≡ has_word64 a
word_Neg a = search (rules, the_lemmas)

word_Plus : (a : Expr) → has_word64 (e.Plus a) ≡ has_word64 a
word_Plus a = search (rules, the_lemmas)

word_Not : (a : Expr) → has_word64 (e.Not a) ≡ has_word64 a
word_Not a = search (rules, the_lemmas)

word_Binary : (op : Op) (a b : Expr) → has_word64 (e.Binary op a b) ≡ (has_word64 a && has_word64 b)
word_Binary op a b = search (rules, the_lemmas)

both_have : (op : Op) (a b : Expr) → has_word64 a ≡ true → has_word64 b ≡ true → has_word64 (e.Binary op a b) ≡ true
both_have op a b h k = word_Binary op a b ∙ join (has_word64 a) (has_word64 b) h k

-- it has such integers, and so have the tokens that are left
mutual
  pub read : {rule : Rule} {ts s : Tokens} {x : Expr} → Reads rule ts x s → Small ts → (has_word64 x ≡ true) × Small s
  read (chain g r j) h = let a = read r h in joined j a.0 a.1
  read (asserted r) h = read r h
  read (denied {a = a} n r eq) h = let b = read r (behind n h) in (ap has_word64 eq ∙ (word_Not a ∙ b.0), b.1)
  read (alone r) h = read r h
  read (compared {o = o} {a = a} {b = b} r n q t eq) h = let c = read r h in let d = read t (behind n c.1) in (ap has_word64 eq ∙ both_have o a b c.0 d.0, d.1)
  read (negated {a = a} n r j) h = let b = read r (behind n h) in joined j (word_Neg a ∙ b.0) b.1
  read (kept {a = a} n r j) h = let b = read r (behind n h) in joined j (word_Plus a ∙ b.0) b.1
  read (single r) h = read r h
  read (power {o = o} {a = a} {b = b} r n q t eq) h = let c = read r h in let d = read t (behind n c.1) in (ap has_word64 eq ∙ both_have o a b c.0 d.0, d.1)
  read (number n digits f eq) h = (ap has_word64 eq ∙ (word_Int n ∙ small_word n (first_small _ n digits _ f h)), behind_one _ _ _ f h)
  read (yes n eq) h = (ap has_word64 eq ∙ word_Truth true, behind n h)
  read (no n eq) h = (ap has_word64 eq ∙ word_Truth false, behind n h)
  read (name word f named eq) h = (ap has_word64 eq ∙ word_Scalar word, behind_one _ _ _ f h)
  read (applied {all = all} word f named n l eq) h = let b = listed l (behind n (behind_one _ _ _ f h)) in (ap has_word64 eq ∙ (word_Apply word all ∙ b.0), b.1)
  read (paren {a = a} n r m eq) h = let b = read r (behind n h) in (ap has_word64 eq ∙ (word_Paren a ∙ b.0), behind m b.1)

  joined : {rule : Rule} {a x : Expr} {ts s : Tokens} → Joins rule a ts x s → has_word64 a ≡ true → Small ts → (has_word64 x ≡ true) × Small s
  joined (stop eq f) h k = (ap has_word64 eq ∙ h, subst Small (sym f) k)
  joined (go {o = o} {a = a} {b = b} n q r j) h k = let c = read r (behind n k) in joined j (both_have o a b h c.0) c.1

  listed : {ts s : Tokens} {all : List Expr} → Lists ts all s → Small ts → (list_all has_word64 all ≡ true) × Small s
  listed (none n eq) h = (ap (list_all has_word64) eq, behind n h)
  listed (some i) h = among i h

  among : {ts s : Tokens} {all : List Expr} → Items ts all s → Small ts → (list_all has_word64 all ≡ true) × Small s
  among (last {x = x} r n eq) h = let b = read r h in (ap (list_all has_word64) eq ∙ join (has_word64 x) true b.0 refl, behind n b.1)
  among (more {x = x} {others = others} r n i eq) h = let b = read r h in let c = among i (behind n b.1) in (ap (list_all has_word64) eq ∙ join (has_word64 x) (list_all has_word64 others) b.0 c.0, c.1)
