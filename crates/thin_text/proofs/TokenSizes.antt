-- How many bytes tokens and expressions have at least in a text.
use Rattle.std.proofs.Common.{◌≡◌, ℕ, ◌+◌, ◌≤◌, Bool, true, false, List, [], ◌∷◌, length, map, sum, sum_by, cond, ◌==◌, Some, refl, sym, ap, ◌∙◌, subst, rules, arith, length-append}
use Rattle.std.proofs.lemmas.List.Sums.{sum-map, sum_by-cons}
use Rattle.f77_tree.specs.declared.expr.Op.{Op}
use Rattle.f77_tree.specs.declared.expr.Expr.{Expr, fold-Expr, fold-roll-Expr, the_lemmas}
use Rattle.f77_tree.specs.declared.expr.Expr.TheOpen.{Expr-F}
use Rattle.f77_tree.specs.declared.expr.Expr.TheVariants as e
use Rattle.f77_tree.specs.declared.expr.Expr.TheVariants.{rolls-Apply}
use Rattle.f77_expr.specs.declared.token.Token.{Token}
use Rattle.f77_expr.specs.declared.token.Token.TheVariants as t
use Rattle.f77_expr.specs.declared.token.Rule.{Rule}
use Rattle.f77_expr.specs.declared.token.Kind.{Kind}
use Rattle.f77_expr.specs.declared.token.Kind.TheVariants as k
use Rattle.f77_expr.specs.declared.token.Rule.TheVariants as r
use Rattle.f77_expr.specs.Kinds.{Tokens, IsNext, kind_of}
use Rattle.f77_expr.specs.Spelling.{Spells, doubled}
use Rattle.f77_expr.specs.Spelling as y
use Rattle.f77_expr.specs.Lexing.{Piece, Good, Strange, Spelled, good, large, unclosed, Pieces, done, spelled, strange, Lexes}
use Rattle.f77_expr.specs.Grammar as g

-- ---- tokens

abbrev pub token_size : Token → ℕ
token_size (t.Word word) = length word
token_size (t.Int n digits) = 1
token_size (t.Text bytes) = 2 + length bytes
token_size (t.Dot word) = 1
token_size (t.Sign b) = 1
token_size t.Power = 1

abbrev pub tokens_size : Tokens → ℕ
tokens_size [] = 0
tokens_size (t ∷ ts) = token_size t + tokens_size ts

longer_by : (test : Bool) (b : ℕ) (bytes more : List ℕ) → length bytes ≤ length more → length (b ∷ bytes) ≤ length (cond test (39 ∷ 39 ∷ more) (b ∷ more))
longer_by true b bytes more h = omega (arith, h)
longer_by false b bytes more h = omega (arith, h)

doubled_long : (bytes : List ℕ) → length bytes ≤ length (doubled bytes)
unfolding doubled
doubled_long [] = omega arith
doubled_long (b ∷ bytes) = longer_by (b == 39) b bytes (doubled bytes) (doubled_long bytes)

spells_size : (bytes : List ℕ) (token : Token) → Spells bytes token → token_size token ≤ length bytes
spells_size bytes token (y.word b more cut l w is) = let z = ap token_size is in omega (arith, z)
spells_size bytes token (y.integer d v is) = let z = ap token_size is in let f = d.filled in omega (arith, z, f)
spells_size bytes token (y.literal content cut is) =
    let z = ap token_size is in
    let l = ap length cut in
    let m = length-append (doubled content) (39 ∷ []) in
    let h = doubled_long content in
    omega (arith, z, l, m, h)
spells_size bytes token (y.dot_word w cut known is) = let z = ap token_size is in let l = ap length cut in omega (arith, z, l)
spells_size bytes token (y.power cut is) = let z = ap token_size is in let l = ap length cut in omega (arith, z, l)
spells_size bytes token (y.sign b cut known is) = let z = ap token_size is in let l = ap length cut in omega (arith, z, l)

good_is : (a b : Token) → Good a ≡ Good b → a ≡ b
good_is a b h = cc

spelled_size : (bytes : List ℕ) (token : Token) → Spelled bytes (Good token) → token_size token ≤ length bytes
spelled_size bytes token (good other spells is) = let z = ap token_size (good_is token other is) in let h = spells_size bytes other spells in omega (arith, z, h)
spelled_size bytes token (large d v is) = absurd (cc)
spelled_size bytes token (unclosed content cut is) = absurd (cc)

pieces_size : (text : List ℕ) (all : List Piece) (ts : Tokens) → all ≡ map Good ts → Pieces text all → tokens_size ts ≤ length text
pieces_size text all [] h p = omega arith
pieces_size text all (t ∷ ts) h (done e a) = let z : [] ≡ Good t ∷ map Good ts = sym a ∙ h in absurd (cc)
pieces_size text all (t ∷ ts) h (spelled {rest = rest} {first = first} {others = others} f p a) =
    let z : first ∷ others ≡ Good t ∷ map Good ts = sym a ∙ h in
    let same : first ≡ Good t = cc in
    let more : others ≡ map Good ts = cc in
    let own = spelled_size f.bytes t (subst (Spelled f.bytes) same f.spelled) in
    let behind = pieces_size rest others ts more p in
    let l = ap length f.cut ∙ length-append f.bytes rest in
    omega (arith, own, behind, l)
pieces_size text all (t ∷ ts) h (strange {others = others} b cut n p a) = let z : Strange ∷ others ≡ Good t ∷ map Good ts = sym a ∙ h in absurd (cc)

pub lexed_size : (text : List ℕ) (ts : Tokens) → Lexes text ts → tokens_size ts ≤ length text
lexed_size text ts l = pieces_size text (map Good ts) ts refl l

-- ---- expressions

abbrev size_step : Expr-F ℕ → ℕ
size_step (Expr-F.Int n) = 1
size_step (Expr-F.Truth b) = 1
size_step (Expr-F.Text bytes) = 2 + length bytes
size_step (Expr-F.Scalar name) = length name
size_step (Expr-F.Apply name list) = length name + sum list
size_step (Expr-F.Paren x) = x
size_step (Expr-F.Neg x) = x
size_step (Expr-F.Plus x) = x
size_step (Expr-F.Not x) = x
size_step (Expr-F.Binary op a b) = 1 + a + b

abbrev pub expr_size : Expr → ℕ
expr_size = fold-Expr ℕ size_step

pub size_int : (n : _) → expr_size (e.Int n) ≡ 1
size_int n = search (rules, the_lemmas)

size_truth : (b : Bool) → expr_size (e.Truth b) ≡ 1
size_truth b = search (rules, the_lemmas)

pub size_text : (bytes : List ℕ) → expr_size (e.Text bytes) ≡ 2 + length bytes
size_text bytes = search (rules, the_lemmas)

pub size_scalar : (name : List ℕ) → expr_size (e.Scalar name) ≡ length name
size_scalar name = search (rules, the_lemmas)

pub size_apply : (name : List ℕ) (list : List Expr) → expr_size (e.Apply name list) ≡ length name + sum_by expr_size list
size_apply name list = ap expr_size (sym (rolls-Apply name list)) ∙ (fold-roll-Expr ℕ size_step (Expr-F.Apply name list) ∙ ap (λ n. length name + n) (sum-map expr_size list))

size_paren : (x : Expr) → expr_size (e.Paren x) ≡ expr_size x
size_paren x = search (rules, the_lemmas)

size_neg : (x : Expr) → expr_size (e.Neg x) ≡ expr_size x
size_neg x = search (rules, the_lemmas)

size_plus : (x : Expr) → expr_size (e.Plus x) ≡ expr_size x
size_plus x = search (rules, the_lemmas)

size_not : (x : Expr) → expr_size (e.Not x) ≡ expr_size x
size_not x = search (rules, the_lemmas)

pub size_binary : (o : Op) (a b : Expr) → expr_size (e.Binary o a b) ≡ 1 + expr_size a + expr_size b
size_binary o a b = search (rules, the_lemmas)

-- ---- readings

-- a sign has a byte
pub next_size : (ts : Tokens) (kind : Kind) (rest : Tokens) → IsNext ts kind rest → tokens_size rest ≤ tokens_size ts
next_size ts kind rest n = let z = ap tokens_size n.front in omega (arith, z)

solid : (token : Token) → (kind_of token ≡ k.Word → ⊥) → 1 ≤ token_size token
solid (t.Word word) h = absurd (h refl)
solid (t.Int n digits) h = omega arith
solid (t.Text bytes) h = omega arith
solid (t.Dot word) h = omega arith
solid (t.Sign b) h = omega arith
solid t.Power h = omega arith

-- a token that is no word has a byte
pub solid_next : (ts : Tokens) (kind : Kind) (rest : Tokens) → IsNext ts kind rest → (kind ≡ k.Word → ⊥) → 1 + tokens_size rest ≤ tokens_size ts
solid_next ts kind rest n h = let z = ap tokens_size n.front in let s = solid n.token (λ w. h (sym n.is ∙ w)) in omega (arith, z, s)

no_word_operator : (rule : Rule) (o : Op) → g.operator rule k.Word ≡ Some o → ⊥
no_word_operator r.Equivalence o h = cc
no_word_operator r.Disjunction o h = cc
no_word_operator r.Conjunction o h = cc
no_word_operator r.Negation o h = cc
no_word_operator r.Relation o h = cc
no_word_operator r.Sum o h = cc
no_word_operator r.Product o h = cc
no_word_operator r.Factor o h = cc
no_word_operator r.Primary o h = cc

operator_next : (rule : Rule) (kind : Kind) (o : Op) (ts rest : Tokens) → IsNext ts kind rest → g.operator rule kind ≡ Some o → 1 + tokens_size rest ≤ tokens_size ts
operator_next rule kind o ts rest n h = solid_next ts kind rest n (λ w. no_word_operator rule o (ap (g.operator rule) (sym w) ∙ h))

mutual
  pub reads_size : {rule : Rule} {ts s : Tokens} {x : Expr} → g.Reads rule ts x s → expr_size x + tokens_size s ≤ tokens_size ts
  reads_size (g.chain l d j) = let a = reads_size d in let b = joins_size j in omega (arith, a, b)
  reads_size (g.asserted d) = reads_size d
  reads_size {ts = ts} (g.denied {rest = rest} {a = a} n d h) = let z = ap expr_size h ∙ size_not a in let b = reads_size d in let m = next_size ts _ rest n in omega (arith, z, b, m)
  reads_size (g.alone d) = reads_size d
  reads_size (g.compared {rest = rest} {more = more} {kind = kind} {o = o} {a = a} {b = b} d n op f h) =
      let z = ap expr_size h ∙ size_binary o a b in let p = reads_size d in let q = reads_size f in let m = operator_next r.Relation kind o rest more n op in omega (arith, z, p, q, m)
  reads_size {ts = ts} (g.negated {rest = rest} {a = a} n d j) = let z = size_neg a in let p = reads_size d in let q = joins_size j in let m = next_size ts _ rest n in omega (arith, z, p, q, m)
  reads_size {ts = ts} (g.kept {rest = rest} {a = a} n d j) = let z = size_plus a in let p = reads_size d in let q = joins_size j in let m = next_size ts _ rest n in omega (arith, z, p, q, m)
  reads_size (g.single d) = reads_size d
  reads_size (g.power {rest = rest} {more = more} {kind = kind} {o = o} {a = a} {b = b} d n op f h) =
      let z = ap expr_size h ∙ size_binary o a b in let p = reads_size d in let q = reads_size f in let m = operator_next r.Factor kind o rest more n op in omega (arith, z, p, q, m)
  reads_size (g.number n digits h i) = let z = ap expr_size i ∙ size_int n in let p = ap tokens_size h in omega (arith, z, p)
  reads_size {ts = ts} {s = s} (g.yes n i) = let z = ap expr_size i ∙ size_truth true in let m = solid_next ts k.True s n (λ w. absurd (cc)) in omega (arith, z, m)
  reads_size {ts = ts} {s = s} (g.no n i) = let z = ap expr_size i ∙ size_truth false in let m = solid_next ts k.False s n (λ w. absurd (cc)) in omega (arith, z, m)
  reads_size (g.name w h n i) = let z = ap expr_size i ∙ size_scalar w in let p = ap tokens_size h in omega (arith, z, p)
  reads_size (g.applied {rest = rest} {more = more} {all = all} w h n o l i) =
      let z = ap expr_size i ∙ size_apply w all in let p = ap tokens_size h in let m = next_size rest _ more o in let q = lists_size l in omega (arith, z, p, m, q)
  reads_size {ts = ts} {s = s} (g.paren {rest = rest} {more = more} {a = a} n d c i) =
      let z = ap expr_size i ∙ size_paren a in let m = next_size ts _ rest n in let p = reads_size d in let q = next_size more _ s c in omega (arith, z, m, p, q)

  joins_size : {rule : Rule} {a x : Expr} {ts s : Tokens} → g.Joins rule a ts x s → expr_size x + tokens_size s ≤ expr_size a + tokens_size ts
  joins_size (g.stop h i) = let z = ap expr_size h in let w = ap tokens_size i in omega (arith, z, w)
  joins_size {rule = rule} {a = a} {ts = ts} (g.go {kind = kind} {o = o} {b = b} {rest = rest} n op d j) =
      let z = size_binary o a b in let m = operator_next rule kind o ts rest n op in let p = reads_size d in let q = joins_size j in omega (arith, z, m, p, q)

  lists_size : {ts s : Tokens} {all : List Expr} → g.Lists ts all s → sum_by expr_size all + tokens_size s ≤ tokens_size ts
  lists_size {ts = ts} {s = s} (g.none n h) = let z = ap (sum_by expr_size) h in let m = next_size ts _ s n in omega (arith, z, m)
  lists_size (g.some i) = items_size i

  items_size : {ts s : Tokens} {all : List Expr} → g.Items ts all s → sum_by expr_size all + tokens_size s ≤ tokens_size ts
  items_size {s = s} (g.last {rest = rest} {x = x} d n h) = let z = ap (sum_by expr_size) h ∙ sum_by-cons expr_size x [] in let p = reads_size d in let m = next_size rest _ s n in omega (arith, z, p, m)
  items_size (g.more {rest = rest} {after = after} {x = x} {others = others} d n i h) =
      let z = ap (sum_by expr_size) h ∙ sum_by-cons expr_size x others in let p = reads_size d in let m = next_size rest _ after n in let q = items_size i in omega (arith, z, p, m, q)
