-- The longest primary, and lists.
use Rattle.std.proofs.Common.{◌≡◌, ℕ, true, false, List, ◌∷◌, length, ap, sym, ◌∙◌, subst, refl, arith, ⊎_elim, inl}
use Rattle.f77_tree.specs.declared.expr.Expr.{Expr}
use Rattle.f77_tree.specs.declared.expr.Expr.TheVariants as e
use Rattle.f77_tree.specs.Names.{is_name}
use Rattle.f77_expr.specs.declared.token.Token.TheVariants as t
use Rattle.f77_expr.specs.declared.token.Kind.{Kind}
use Rattle.f77_expr.specs.declared.token.Kind.TheVariants as k
use Rattle.f77_expr.specs.declared.token.Rule.TheVariants as r
use Rattle.f77_expr.specs.Kinds.{Tokens, IsNext}
use Rattle.f77_expr.specs.Grammar.{Reads, number, yes, no, name, applied, paren, Lists}
use Rattle.f77_expr.specs.Longest.{strength}
use Rattle.f77_expr.specs.Best.{Within, Best, Fails, NotNext, BeginsNoName, FirstList, NoList}
use Rattle.f77_expr.proofs.NextToken.{same_kind, same_rest, goes_level}
use Rattle.f77_expr.proofs.Shorter.{next_length}
use Rattle.f77_expr.proofs.FirstKinds.{int_kind, word_kind}
use Rattle.f77_expr.proofs.Agreement.{lists_agree}
use Rattle.f77_expr.proofs.Shapes.{number_most, yes_most, no_most, applied_most, paren_most}
use Rattle.f77_expr.proofs.Views.{Shape, a_number, a_yes, a_no, a_name, an_applied, a_paren, shape}

pub best_number : {ts s : Tokens} (n digits : _) → ts ≡ t.Int n digits ∷ s → Best r.Primary ts (e.Int n) s
best_number n digits f = record {
  reads = number n digits f refl;
  shorter = omega (arith, ap length f);
  most = λ y z d. number_most n digits f (shape d);
}

-- ---- truth values

pub best_yes : {ts s : Tokens} → IsNext ts k.True s → Best r.Primary ts (e.Truth true) s
best_yes n = record {
  reads = yes n refl;
  shorter = omega (arith, next_length n);
  most = λ y z d. yes_most n (shape d);
}

pub best_no : {ts s : Tokens} → IsNext ts k.False s → Best r.Primary ts (e.Truth false) s
best_no n = record {
  reads = no n refl;
  shorter = omega (arith, next_length n);
  most = λ y z d. no_most n (shape d);
}

-- ---- names

-- a word that is no name begins nothing
not_named : {ts s z : Tokens} {word : List ℕ} {y : Expr} → ts ≡ t.Word word ∷ s → is_name word ≡ false → Shape ts y z → ⊥
not_named {word = word} f plain (a_number n digits f' eq) = let no_way : t.Int n digits ≡ t.Word word = cc in cc
not_named f plain (a_yes m eq) = let kinds = word_kind f m in cc
not_named f plain (a_no m eq) = let kinds = word_kind f m in cc
not_named {word = word} f plain (a_name word' f' named eq) = let words : word' ≡ word = cc in let both : true ≡ false = sym named ∙ (ap is_name words ∙ plain) in cc
not_named {word = word} f plain (an_applied word' f' named m l eq) = let words : word' ≡ word = cc in let both : true ≡ false = sym named ∙ (ap is_name words ∙ plain) in cc
not_named f plain (a_paren m d q eq) = let kinds = word_kind f m in cc

pub fails_word : {ts s : Tokens} (word : List ℕ) → ts ≡ t.Word word ∷ s → is_name word ≡ false → Fails r.Primary ts
fails_word word f plain = record { not = λ y z d. not_named f plain (shape d) }

-- a name that no list follows
name_most : {ts s z : Tokens} {word : List ℕ} {y : Expr} → ts ≡ t.Word word ∷ s → ((more z : Tokens) (all : List Expr) → IsNext s k.Open more → Lists more all z → ⊥) → Shape ts y z → Within r.Primary (e.Scalar word) s y z
name_most {word = word} f no_list (a_number n digits f' eq) = let no_way : t.Int n digits ≡ t.Word word = cc in cc
name_most f no_list (a_yes m eq) = let kinds = word_kind f m in cc
name_most f no_list (a_no m eq) = let kinds = word_kind f m in cc
name_most {s = s} {z = z} {word = word} f no_list (a_name word' f' named eq) = let words : word' ≡ word = cc in let rests : z ≡ s = cc in inl (eq ∙ ap e.Scalar words, rests)
name_most {s = s} {z = z} f no_list (an_applied {rest = rest} {more = after} {all = all} word' f' named m l eq) =
    let rests : rest ≡ s = cc in absurd (no_list after z all (subst (λ ts. IsNext ts k.Open after) rests m) l)
name_most f no_list (a_paren m d q eq) = let kinds = word_kind f m in cc

pub best_name : {ts s : Tokens} (word : List ℕ) → ts ≡ t.Word word ∷ s → is_name word ≡ true → ((more z : Tokens) (all : List Expr) → IsNext s k.Open more → Lists more all z → ⊥) → Best r.Primary ts (e.Scalar word) s
best_name word f named no_list = record {
  reads = name word f named refl;
  shorter = omega (arith, ap length f);
  most = λ y z d. name_most f no_list (shape d);
}

pub best_bare : {ts s : Tokens} (word : List ℕ) → ts ≡ t.Word word ∷ s → is_name word ≡ true → NotNext s k.Open → Best r.Primary ts (e.Scalar word) s
best_bare word f named closed = best_name word f named (λ more z all n l. closed.not more n)

pub best_unlisted : {ts s more : Tokens} (word : List ℕ) → ts ≡ t.Word word ∷ s → is_name word ≡ true → IsNext s k.Open more → NoList more → Best r.Primary ts (e.Scalar word) s
best_unlisted word f named n no_list =
    best_name word f named (λ more' z all m l. no_list.not all z (subst (λ ts. Lists ts all z) (same_rest n m) l))

pub best_applied : {ts rest more s : Tokens} {all : List Expr} (word : List ℕ) → ts ≡ t.Word word ∷ rest → is_name word ≡ true → IsNext rest k.Open more → FirstList more all s → Best r.Primary ts (e.Apply word all) s
best_applied word f named n found = record {
  reads = applied word f named n found.lists refl;
  shorter = omega (arith, ap length f, next_length n, found.shorter);
  most = λ y z d. applied_most word f n found.lists (λ others v l. lists_agree found.lists l) (shape d);
}

-- ---- parentheses

-- Where an expression ends before a token that goes on nothing, it is the best.
pub closed : {ts s z rest : Tokens} {x y : Expr} {kind : Kind} → Best r.Equivalence ts x s → strength kind ≡ 0 → Reads r.Equivalence ts y z → IsNext z kind rest → (y ≡ x) × (z ≡ s)
closed best weak d n = ⊎_elim (λ same. same) (λ less. absurd (omega (arith, goes_level less.1 n, weak))) (best.most _ _ d)

pub best_paren : {ts rest more s : Tokens} {a : Expr} → IsNext ts k.Open rest → Best r.Equivalence rest a more → IsNext more k.Close s → Best r.Primary ts (e.Paren a) s
best_paren n best m = record {
  reads = paren n best.reads m refl;
  shorter = omega (arith, next_length n, best.shorter, next_length m);
  most = λ y z d. paren_most n (λ b v u q p. closed best refl q p) m (shape d);
}

not_paren : {ts rest z : Tokens} {y : Expr} → IsNext ts k.Open rest → ((a : Expr) (more s : Tokens) → Reads r.Equivalence rest a more → IsNext more k.Close s → ⊥) → Shape ts y z → ⊥
not_paren n no_inner (a_number n' digits' f' eq) = let kinds = int_kind f' n in cc
not_paren n no_inner (a_yes q eq) = let kinds = same_kind n q in cc
not_paren n no_inner (a_no q eq) = let kinds = same_kind n q in cc
not_paren n no_inner (a_name word f' named eq) = let kinds = word_kind f' n in cc
not_paren n no_inner (an_applied word f' named q l eq) = let kinds = word_kind f' n in cc
not_paren {z = z} n no_inner (a_paren {more = more'} {a = a'} n' d m' eq) = no_inner a' more' z (subst (λ ts. Reads r.Equivalence ts a' more') (same_rest n n') d) m'

pub fails_inner : {ts rest : Tokens} → IsNext ts k.Open rest → Fails r.Equivalence rest → Fails r.Primary ts
fails_inner n fails = record { not = λ y z d. not_paren n (λ a more s q m. fails.not a more q) (shape d) }

pub fails_unclosed : {ts rest more : Tokens} {a : Expr} → IsNext ts k.Open rest → Best r.Equivalence rest a more → NotNext more k.Close → Fails r.Primary ts
fails_unclosed n best open_end = record {
  not = λ y z d. not_paren n
      (λ a' more' s q m. open_end.not s (subst (λ ts. IsNext ts k.Close s) (closed best refl q m).1 m)) (shape d);
}

-- nothing of a primary stands in front
not_begun : {ts z : Tokens} {y : Expr} → BeginsNoName ts → NotNext ts k.True → NotNext ts k.False → NotNext ts k.Open → Shape ts y z → ⊥
not_begun plain no_true no_false no_open (a_number n digits f eq) = plain.no_int n digits _ f
not_begun plain no_true no_false no_open (a_yes m eq) = no_true.not _ m
not_begun plain no_true no_false no_open (a_no m eq) = no_false.not _ m
not_begun plain no_true no_false no_open (a_name word f named eq) = plain.no_word word _ f
not_begun plain no_true no_false no_open (an_applied word f named m l eq) = plain.no_word word _ f
not_begun plain no_true no_false no_open (a_paren m d q eq) = no_open.not _ m

pub fails_begun : {ts : Tokens} → BeginsNoName ts → NotNext ts k.True → NotNext ts k.False → NotNext ts k.Open → Fails r.Primary ts
fails_begun plain no_true no_false no_open = record { not = λ y z d. not_begun plain no_true no_false no_open (shape d) }
