-- What is known of the pieces so far, with one more and at the end.
use Rattle.std.proofs.Common.{◌≡◌, ℕ, ◌+◌, ◌<◌, ◌≤◌, suc, ◌==◌, Bool, true, false, List, [], ◌∷◌, ◌++◌, length, map, take, drop, ap, sym, ◌∙◌, subst, refl, arith, ◌⊎◌, ⊎_elim, inl, inr, append_assoc, length-append, length-drop}
use Rattle.std.proofs.lemmas.List.{append-nil}
use Rattle.std.proofs.lemmas.Grind.{flat_map-append}
use Rattle.std.proofs.lemmas.Bool.Decides.{nat_tests}
use Rattle.f77_expr.specs.declared.token.Token.{Token}
use Rattle.f77_expr.specs.declared.fronts.Part.{Part}
use Rattle.f77_expr.specs.Kinds.{Tokens}
use Rattle.f77_expr.specs.Spelling.{Text}
use Rattle.f77_expr.specs.Lexing.{Piece, Good, Large, Unclosed, Strange, Pieces, done, Lexes, token_of, tokens_of, Has, Lacks, Counts}
use Rattle.f77_expr.specs.Fronts.{IsPart, Begins, Tells, yes, no, Stands, Knows}

-- ---- which pieces stand among others

has_none : {p : Piece} → Has p [] → ⊥
has_none {p} has = omega (arith, ap length has.at, length-append has.before (p ∷ has.behind))

has_push : {p : Piece} (all before behind : List Piece) (q : Piece) → all ++ q ∷ [] ≡ before ++ p ∷ behind → Has p all ⊎ (q ≡ p)
has_push [] [] behind q e = inr cc
has_push {p} [] (x ∷ before) behind q e = absurd (omega (arith, ap length e, length-append before (p ∷ behind)))
has_push {p} (a ∷ all) [] behind q e =
    let first : a ≡ p = cc in
    let at : a ∷ all ≡ p ∷ all = ap (λ a. a ∷ all) first in
    inl (record { before = []; behind = all; at = at })
has_push {p} (a ∷ all) (x ∷ before) behind q e =
    let tail : all ++ q ∷ [] ≡ before ++ p ∷ behind = cc in
    ⊎_elim (λ has. inl (record { before = a ∷ has.before; behind = has.behind; at = ap (λ all. a ∷ all) has.at })) (λ same. inr same) (has_push all before behind q tail)

tells_start : {p : Piece} → Tells false p []
tells_start = no refl (record { not = has_none })

tells_yes : {p : Piece} (all : List Piece) → Tells true p (all ++ p ∷ [])
tells_yes all = yes refl (record { before = all; behind = []; at = refl })

tells_other : {flag : Bool} {p : Piece} (all : List Piece) (q : Piece) → (q ≡ p → ⊥) → Tells flag p all → Tells flag p (all ++ q ∷ [])
tells_other {p = p} all q other (yes f has) =
    yes f (record { before = has.before; behind = has.behind ++ q ∷ []; at = ap (λ all. all ++ q ∷ []) has.at ∙ append_assoc has.before (p ∷ has.behind) (q ∷ []) })
tells_other all q other (no f lacks) =
    no f (record { not = λ has. ⊎_elim lacks.not other (has_push all has.before has.behind q has.at) })

-- ---- one piece more

tokens_push : (all : List Piece) (p : Piece) → tokens_of (all ++ p ∷ []) ≡ tokens_of all ++ token_of p
tokens_push all p = flat_map-append token_of all (p ∷ []) ∙ ap (λ ts. tokens_of all ++ ts) (append-nil (token_of p))

pub stands_start : Stands [] [] false false false
stands_start = record { tokens_are = refl; unclosed_is = tells_start; large_is = tells_start; strange_is = tells_start }

pub stands_good : {unclosed large strange : Bool} (all : List Piece) (tokens : Tokens) (p : Piece) (token : Token) → p ≡ Good token → Stands all tokens unclosed large strange → Stands (all ++ p ∷ []) (tokens ++ token ∷ []) unclosed large strange
stands_good all tokens p token e s = record {
  tokens_are = ap (λ ts. ts ++ token ∷ []) s.tokens_are ∙ sym (tokens_push all p ∙ ap (λ p. tokens_of all ++ token_of p) e);
  unclosed_is = tells_other all p (λ f. cc) s.unclosed_is;
  large_is = tells_other all p (λ f. cc) s.large_is;
  strange_is = tells_other all p (λ f. cc) s.strange_is;
}

no_token_more : (all : List Piece) (tokens : Tokens) (p : Piece) → token_of p ≡ [] → tokens ≡ tokens_of all → tokens ≡ tokens_of (all ++ p ∷ [])
no_token_more all tokens p e f = f ∙ sym (tokens_push all p ∙ (ap (λ ts. tokens_of all ++ ts) e ∙ append-nil (tokens_of all)))

pub stands_large : {unclosed large strange : Bool} (all : List Piece) (tokens : Tokens) (p : Piece) → p ≡ Large → Stands all tokens unclosed large strange → Stands (all ++ p ∷ []) tokens unclosed true strange
stands_large all tokens p e s = record {
  tokens_are = no_token_more all tokens p (ap token_of e) s.tokens_are;
  unclosed_is = tells_other all p (λ f. cc) s.unclosed_is;
  large_is = subst (λ p. Tells true Large (all ++ p ∷ [])) (sym e) (tells_yes all);
  strange_is = tells_other all p (λ f. cc) s.strange_is;
}

pub stands_unclosed : {unclosed large strange : Bool} (all : List Piece) (tokens : Tokens) (p : Piece) → p ≡ Unclosed → Stands all tokens unclosed large strange → Stands (all ++ p ∷ []) tokens true large strange
stands_unclosed all tokens p e s = record {
  tokens_are = no_token_more all tokens p (ap token_of e) s.tokens_are;
  unclosed_is = subst (λ p. Tells true Unclosed (all ++ p ∷ [])) (sym e) (tells_yes all);
  large_is = tells_other all p (λ f. cc) s.large_is;
  strange_is = tells_other all p (λ f. cc) s.strange_is;
}

pub stands_strange : {unclosed large strange : Bool} (all : List Piece) (tokens : Tokens) (p : Piece) → p ≡ Strange → Stands all tokens unclosed large strange → Stands (all ++ p ∷ []) tokens unclosed large true
stands_strange all tokens p e s = record {
  tokens_are = no_token_more all tokens p (ap token_of e) s.tokens_are;
  unclosed_is = tells_other all p (λ f. cc) s.unclosed_is;
  large_is = tells_other all p (λ f. cc) s.large_is;
  strange_is = subst (λ p. Tells true Strange (all ++ p ∷ [])) (sym e) (tells_yes all);
}

-- ---- along a text

-- these pieces stand in front of what is left of the text
pub record Goes (text rest : Text) (before : List Piece) : Type 0 where
  pub on : (others : List Piece) → Pieces rest others → Pieces text (before ++ others)

goes_start : (text : Text) → Goes text text []
goes_start text = record { on = λ others pieces. pieces }

goes_next : {text rest : Text} {before : List Piece} {part : Part} {n : ℕ} (after : Text) → Goes text rest before → (b : Begins rest part n) → after ≡ drop n rest → Goes text after (before ++ b.piece ∷ [])
goes_next {text} {before = before} after goes b e = record {
  on = λ others pieces. subst (Pieces text) (sym (append_assoc before (b.piece ∷ []) others)) (goes.on (b.piece ∷ others) (b.all others (subst (λ s. Pieces s others) e pieces)));
}

goes_end : {text rest : Text} {before : List Piece} → Goes text rest before → rest ≡ [] → Pieces text before
goes_end {text} {before = before} goes e = subst (Pieces text) (append-nil before) (goes.on [] (done e refl))

pub shorter : {rest : Text} {part : Part} {n : ℕ} (after : Text) → Begins rest part n → after ≡ drop n rest → length after < length rest
shorter {rest} {n = n} after b e = omega (arith, ap length e, length-drop n rest, b.some, b.within)

-- what is known of the pieces so far, and of what is left
pub record Gathered (text rest : Text) (tokens : Tokens) (unclosed large strange : Bool) : Type 0 where
  pub before : List Piece
  pub goes : Goes text rest before
  pub stands : Stands before tokens unclosed large strange

pub gathered_start : (text : Text) → Gathered text text [] false false false
gathered_start text = record { before = []; goes = goes_start text; stands = stands_start }

pub gathered_next : {text rest : Text} {tokens : Tokens} {unclosed large strange : Bool} {part : Part} {n : ℕ} (bytes after : Text) (more : Tokens) (unclosed_now large_now strange_now : Bool) → Gathered text rest tokens unclosed large strange → Begins rest part n → bytes ≡ take n rest → after ≡ drop n rest → ((before : List Piece) (piece : Piece) → IsPart part bytes piece → Stands before tokens unclosed large strange → Stands (before ++ piece ∷ []) more unclosed_now large_now strange_now) → Gathered text after more unclosed_now large_now strange_now
gathered_next {part = part} bytes after more unclosed_now large_now strange_now g b e f step = record {
  before = g.before ++ b.piece ∷ [];
  goes = goes_next after g.goes b f;
  stands = step g.before b.piece (subst (λ s. IsPart part s b.piece) (sym e) b.is) g.stands;
}

pub gathered_end : {text rest : Text} {tokens : Tokens} {unclosed large strange : Bool} → Gathered text rest tokens unclosed large strange → rest ≡ [] → Knows text tokens unclosed large strange
gathered_end g e = record { all = g.before; pieces = goes_end g.goes e; stands = g.stands }

pub record Counted (text rest : Text) (count : ℕ) : Type 0 where
  pub before : List Piece
  pub goes : Goes text rest before
  pub number : count ≡ length before
  pub few : count + length rest ≤ length text

pub counted_start : (text : Text) → Counted text text 0
counted_start text = record { before = []; goes = goes_start text; number = refl; few = omega arith }

pub counted_next : {text rest : Text} {count : ℕ} {part : Part} {n : ℕ} (after : Text) → Counted text rest count → Begins rest part n → after ≡ drop n rest → Counted text after (count + 1)
counted_next after c b e = record {
  before = c.before ++ b.piece ∷ [];
  goes = goes_next after c.goes b e;
  number = omega (arith, c.number, length-append c.before (b.piece ∷ []));
  few = omega (arith, c.few, shorter after b e);
}

pub counted_end : {text rest : Text} {count : ℕ} → Counted text rest count → rest ≡ [] → Counts text count
counted_end c e = record { all = c.before; pieces = goes_end c.goes e; number = c.number }

-- ---- tokens or a fault

lacks_tail : {p q : Piece} {all : List Piece} → Lacks p (q ∷ all) → Lacks p all
lacks_tail {q = q} lacks = record { not = λ has. lacks.not (record { before = q ∷ has.before; behind = has.behind; at = ap (λ all. q ∷ all) has.at }) }

first_lacks : {p : Piece} (all : List Piece) → Lacks p (p ∷ all) → ⊥
first_lacks all lacks = lacks.not (record { before = []; behind = all; at = refl })

all_good : (all : List Piece) → Lacks Unclosed all → Lacks Large all → Lacks Strange all → map Good (tokens_of all) ≡ all
all_good [] u l s = refl
all_good (Good token ∷ all) u l s = ap (λ all. Good token ∷ all) (all_good all (lacks_tail u) (lacks_tail l) (lacks_tail s))
all_good (Large ∷ all) u l s = absurd (first_lacks all l)
all_good (Unclosed ∷ all) u l s = absurd (first_lacks all u)
all_good (Strange ∷ all) u l s = absurd (first_lacks all s)

lacks : {flag : Bool} {p : Piece} {all : List Piece} → Tells flag p all → flag ≡ false → Lacks p all
lacks (yes f found) e = let no_way : true ≡ false = sym f ∙ e in absurd cc
lacks (no f none) e = none

pub lexes : {text : Text} {tokens : Tokens} {unclosed large strange : Bool} → Knows text tokens unclosed large strange → unclosed ≡ false → large ≡ false → strange ≡ false → Lexes text tokens
lexes {text} k u l s =
    let same = all_good k.all (lacks k.stands.unclosed_is u) (lacks k.stands.large_is l) (lacks k.stands.strange_is s) in
    subst (Pieces text) (sym (ap (map Good) k.stands.tokens_are ∙ same)) k.pieces

pub emptied : (text : Text) → (length text == 0) ≡ true → text ≡ []
emptied [] e = refl
emptied (b ∷ text) e = absurd (some (length text) e)
  where
    some : (n : ℕ) → (suc n == 0) ≡ true → ⊥
    some n e = grind (arith, nat_tests)
