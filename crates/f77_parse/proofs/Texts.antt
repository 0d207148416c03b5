-- The faults of a text: of its tokens, or for want of a form.
use Rattle.std.proofs.Common.{◌≡◌, ℕ, ◌≤◌, Bool, true, false, not, ◌&&◌, List, [], ◌∷◌, ◌++◌, map, Some, None, refl, sym, ap, ◌∙◌, subst, arith, rules}
use Rattle.f77_tree.specs.declared.fault.SourceFault.{SourceFault}
use Rattle.f77_tree.specs.declared.fault.Place.{Place}
use Rattle.f77_tree.specs.declared.form.Form.{Form, the_lemmas}
use Rattle.f77_tree.specs.declared.form.Form.TheVariants as f
use Rattle.fixed_form.specs.declared.reader.Line.{Line}
use Rattle.f77_expr.specs.declared.token.Token.{Token}
use Rattle.f77_expr.specs.Depth.{deepest}
use Rattle.f77_expr.specs.Kinds.{Tokens}
use Rattle.f77_expr.specs.Laws.{PiecesAreUnique}
use Rattle.f77_expr.specs.Lexing.{Piece, Good, Large, Unclosed, Lexes, tokens_of, WhyNoTokens, open_literal as open_why, large_integer as large_why, too_deep as deep_why, no_token as strange_why, IsNoText}
use Rattle.form_parts.specs.Only.{Never, Sole}
use Rattle.f77_forms.specs.Forms.{HasForm}
use Rattle.form_kinds.specs.Foreign.{IsForeign}
use Rattle.f77_parse.specs.UnitFaults.{PieceFault, open_literal, large_integer, too_deep, TokenFault, IsFormless}
use Rattle.f77_parse.specs.Shown.{IsOnly, is_end, IsLast, HasNoForm, HasSomeForm, KnowsForm, Explained, by_tokens, foreign, no_form}
use Rattle.f77_parse.proofs.Deciding.{false_true}

-- ---- tokens alone

all_good : (ts : Tokens) (before behind : List Piece) (piece : Piece) → map Good ts ≡ before ++ piece ∷ behind → (t : Token) × (piece ≡ Good t)
all_good [] [] behind piece e = absurd (cc)
all_good [] (b ∷ before) behind piece e = absurd (cc)
all_good (t ∷ ts) [] behind piece e = (t, cc)
all_good (t ∷ ts) (b ∷ before) behind piece e = let r : map Good ts ≡ before ++ piece ∷ behind = cc in all_good ts before behind piece r

good_tokens : (ts : Tokens) → tokens_of (map Good ts) ≡ ts
good_tokens [] = refl
good_tokens (t ∷ ts) = ap (λ xs. t ∷ xs) (good_tokens ts)

no_piece_fault : (ts : Tokens) → deepest ts ≤ 100 → (n : ℕ) → PieceFault (map Good ts) n → ⊥
no_piece_fault ts d n (open_literal h e) = let g = all_good ts h.before h.behind Unclosed h.at in let z : Unclosed ≡ Good g.0 = g.1 in cc
no_piece_fault ts d n (large_integer l h e) = let g = all_good ts h.before h.behind Large h.at in let z : Large ≡ Good g.0 = g.1 in cc
no_piece_fault ts d n (too_deep l m h e) = let same = ap deepest (good_tokens ts) in absurd (omega (arith, d, h, same))

pub no_token_fault : PiecesAreUnique → (text : List ℕ) (ts : Tokens) → Lexes text ts → deepest ts ≤ 100 → (n : ℕ) → TokenFault text n → ⊥
no_token_fault unique text ts lexes d n t = no_piece_fault ts d n (subst (λ all. PieceFault all n) (unique text t.all (map Good ts) t.pieces lexes) t.why)

-- ---- one number

one_piece_fault : (all : List Piece) (n m : ℕ) → PieceFault all n → PieceFault all m → m ≡ n
one_piece_fault all n m (open_literal h e) (open_literal k g) = g ∙ sym e
one_piece_fault all n m (open_literal h e) (large_integer l k g) = absurd (l.not h)
one_piece_fault all n m (open_literal h e) (too_deep l s k g) = absurd (l.not h)
one_piece_fault all n m (large_integer l h e) (open_literal k g) = absurd (l.not k)
one_piece_fault all n m (large_integer l h e) (large_integer s k g) = g ∙ sym e
one_piece_fault all n m (large_integer l h e) (too_deep s t k g) = absurd (t.not h)
one_piece_fault all n m (too_deep l s h e) (open_literal k g) = absurd (l.not k)
one_piece_fault all n m (too_deep l s h e) (large_integer t k g) = absurd (s.not k)
one_piece_fault all n m (too_deep l s h e) (too_deep t u k g) = g ∙ sym e

one_token_fault : PiecesAreUnique → (text : List ℕ) (n m : ℕ) → TokenFault text n → TokenFault text m → m ≡ n
one_token_fault unique text n m a b = one_piece_fault a.all n m a.why (subst (λ all. PieceFault all m) (unique text b.all a.all b.pieces a.pieces) b.why)

-- ---- a text that isn't its tokens

why_fault : (fault : SourceFault) (at : Place) (all : List Piece) → WhyNoTokens fault at all → (fault.number ≡ 6 → ⊥) → PieceFault all fault.number
why_fault fault at all (open_why i h) six = open_literal h i.number_is
why_fault fault at all (large_why i l h) six = large_integer l h i.number_is
why_fault fault at all (deep_why i l s h) six = too_deep l s h i.number_is
why_fault fault at all (strange_why i l s d h) six = absurd (six i.number_is)

why_none : (fault : SourceFault) (at : Place) (all : List Piece) → WhyNoTokens fault at all → fault.number ≡ 6 → (n : ℕ) → PieceFault all n → ⊥
why_none fault at all (open_why i h) six n p = let z : 6 ≡ 10 = sym six ∙ i.number_is in absurd (cc)
why_none fault at all (large_why i l h) six n p = let z : 6 ≡ 9 = sym six ∙ i.number_is in absurd (cc)
why_none fault at all (deep_why i l s h) six n p = let z : 6 ≡ 11 = sym six ∙ i.number_is in absurd (cc)
why_none fault at all (strange_why i l s d h) six n (open_literal k g) = l.not k
why_none fault at all (strange_why i l s d h) six n (large_integer t k g) = s.not k
why_none fault at all (strange_why i l s d h) six n (too_deep t u k g) = absurd (omega (arith, d, k))

pub told_fault : PiecesAreUnique → (text : List ℕ) (fault : SourceFault) (at : Place) → IsNoText fault at text → (fault.number ≡ 6 → ⊥) → IsOnly (TokenFault text) (Some fault.number)
told_fault unique text fault at h six =
    let own : TokenFault text fault.number = record { all = h.all; pieces = h.pieces; why = why_fault fault at h.all h.why six } in
    (own, λ m t. one_token_fault unique text fault.number m own t)

pub untold_fault : PiecesAreUnique → (text : List ℕ) (fault : SourceFault) (at : Place) → IsNoText fault at text → fault.number ≡ 6 → IsOnly (TokenFault text) None
untold_fault unique text fault at h six = λ n t. why_none fault at h.all h.why six n (subst (λ all. PieceFault all n) (unique text t.all h.all t.pieces h.pieces) t.why)

-- ---- forms in their places

pub no_form_at : (behind : List Line) (text : List ℕ) → Never HasForm text → KnowsForm behind text None
no_form_at behind text none = record { not = λ form h. none.not form h.has }

end_is : (form : Form) → is_end form ≡ true → form ≡ f.End
end_is form h = search (rules, the_lemmas)

end_told : is_end f.End ≡ true
end_told = search (rules, the_lemmas)

and_false : (b : Bool) → b && false ≡ false
and_false true = refl
and_false false = refl

front_true : (b : Bool) → b && true ≡ true → b ≡ true
front_true true h = refl
front_true false h = h

pub early_end : (last : Bool) (behind : List Line) (text : List ℕ) (form : Form) → Sole HasForm text form → is_end form && not last ≡ true → IsLast last behind → KnowsForm behind text None
early_end true behind text form sole e h = absurd (false_true (sym (and_false (is_end form)) ∙ e))
early_end false behind text form sole e h = record { not = λ other k. h (k.ends (sole.only other k.has ∙ end_is form (front_true (is_end form) e))) }

and_true : (b : Bool) → b ≡ true → b && true ≡ true
and_true true h = refl
and_true false h = h

pub form_placed : (last : Bool) (behind : List Line) (text : List ℕ) (form : Form) → Sole HasForm text form → is_end form && not last ≡ false → IsLast last behind → KnowsForm behind text (Some form)
form_placed true behind text form sole e h = record { is = record { has = sole.is; ends = λ x. h }; only = λ other k. sole.only other k.has }
form_placed false behind text form sole e h = record {
  is = record { has = sole.is; ends = λ x. let w : true ≡ false = sym (and_true (is_end form) (ap is_end x ∙ end_told)) ∙ e in absurd (false_true (sym w)) };
  only = λ other k. sole.only other k.has;
}

-- ---- what explains a text

pub tokens_explain : (behind : List Line) (text : List ℕ) (n : ℕ) → IsOnly (TokenFault text) (Some n) → IsOnly (Explained behind text) (Some n)
tokens_explain behind text n h = (by_tokens h.0, go)
  where
    go : (m : ℕ) → Explained behind text m → m ≡ n
    go m (by_tokens t) = h.1 m t
    go m (foreign l i e) = absurd (l.unexplained n h.0)
    go m (no_form l i e) = absurd (l.unexplained n h.0)

pub form_explains : (behind : List Line) (text : List ℕ) → IsOnly (TokenFault text) None → HasSomeForm behind text → IsOnly (Explained behind text) None
form_explains behind text h some = go
  where
    go : (n : ℕ) → Explained behind text n → ⊥
    go n (by_tokens t) = h n t
    go n (foreign l i e) = l.none some.form some.is
    go n (no_form l i e) = l.none some.form some.is

formless : (behind : List Line) (text : List ℕ) → IsOnly (TokenFault text) None → HasNoForm behind text → IsFormless behind text
formless behind text h none = record { none = none.not; unexplained = h }

pub foreign_explains : (behind : List Line) (text : List ℕ) → IsOnly (TokenFault text) None → HasNoForm behind text → IsForeign text → IsOnly (Explained behind text) (Some 7)
foreign_explains behind text h none is = (foreign (formless behind text h none) is refl, go)
  where
    go : (n : ℕ) → Explained behind text n → n ≡ 7
    go n (by_tokens t) = absurd (h n t)
    go n (foreign l i e) = e
    go n (no_form l i e) = absurd (i is)

pub nothing_explains : (behind : List Line) (text : List ℕ) → IsOnly (TokenFault text) None → HasNoForm behind text → (IsForeign text → ⊥) → IsOnly (Explained behind text) (Some 6)
nothing_explains behind text h none is = (no_form (formless behind text h none) is refl, go)
  where
    go : (n : ℕ) → Explained behind text n → n ≡ 6
    go n (by_tokens t) = absurd (h n t)
    go n (foreign l i e) = absurd (is i)
    go n (no_form l i e) = e
