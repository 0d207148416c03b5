-- What is read of tokens, said of texts and of forms.
use Rattle.std.proofs.Common.{◌≡◌, ◌≤◌, List, [], ◌∷◌, ◌++◌, Option, Some, None, MatchOption, Result, Ok, Err, IfOk, map, ap, sym, ◌∙◌, subst, refl, arith}
use Rattle.std.specs.declared.alloc.AllocError.{AllocError}
use Rattle.f77_tree.specs.declared.expr.Expr.{Expr}
use Rattle.f77_tree.specs.declared.form.Form.{Form}
use Rattle.f77_tree.specs.declared.fault.SourceFault.{SourceFault}
use Rattle.f77_tree.specs.declared.fault.Place.{Place}
use Rattle.f77_expr.specs.declared.token.Token.{Token}
use Rattle.f77_expr.specs.Spelling.{Text}
use Rattle.f77_expr.specs.Kinds.{Tokens}
use Rattle.f77_expr.specs.Depth.{deepest}
use Rattle.f77_expr.specs.Grammar.{ReadsExpression}
use Rattle.f77_expr.specs.Longest.{WhyNone, too_deep, no_form, NotWhole}
use Rattle.f77_expr.specs.Lexing as x
use Rattle.f77_expr.specs.Lexing.{Piece, Good, Unclosed, Large, Strange, Pieces, Lexes, Has, token_of, tokens_of, WhyNoTokens, open_literal, large_integer, no_token, IsNoText}
use Rattle.f77_expr.proofs.Unique.{pieces_same, lexes_same}
use Rattle.f77_expr.proofs.Public.{one_tree}
use Rattle.form_parts.specs.Answers.{AreTokens, InTokens, Made}
use Rattle.form_parts.specs.Only.{Sole, Never}
use Rattle.form_parts.specs.Parts.{IsExpression}

-- ---- the tokens of a text

pub sole_tokens : {text : Text} {all : Tokens} → Lexes text all → deepest all ≤ 100 → Sole AreTokens text all
sole_tokens {text} {all} l h = record { is = record { lexes = l; shallow = h }; only = λ ts are. lexes_same text ts all are.lexes l }

pub record IsGood (piece : Piece) : Type 0 where
  pub token : Token
  pub is : piece ≡ Good token

good_at : (ts : Tokens) (before behind : List Piece) (piece : Piece) → map Good ts ≡ before ++ piece ∷ behind → IsGood piece
good_at [] [] behind piece e = absurd cc
good_at [] (p ∷ before) behind piece e = absurd cc
good_at (t ∷ ts) [] behind piece e = record { token = t; is = let same : piece ≡ Good t = cc in same }
good_at (t ∷ ts) (p ∷ before) behind piece e =
    let rest : map Good ts ≡ before ++ piece ∷ behind = cc in
    good_at ts before behind piece rest

good_has : {text : Text} {all : List Piece} {ts : Tokens} {piece : Piece} → Pieces text all → AreTokens text ts → Has piece all → IsGood piece
good_has {ts = ts} {piece = piece} pieces are has = good_at ts has.before has.behind piece (pieces_same are.lexes pieces ∙ has.at)

good_tokens : (ts : Tokens) → tokens_of (map Good ts) ≡ ts
good_tokens [] = refl
good_tokens (t ∷ ts) = ap (λ ts. t ∷ ts) (good_tokens ts)

why_not : {fault : SourceFault} {at : Place} {text : Text} {all : List Piece} {ts : Tokens} → WhyNoTokens fault at all → Pieces text all → AreTokens text ts → ⊥
why_not (open_literal f has) pieces are = let good = (good_has pieces are has).is in absurd cc
why_not (large_integer f lacks has) pieces are = let good = (good_has pieces are has).is in absurd cc
why_not {all = all} {ts = ts} (x.too_deep f a b deep) pieces are =
    let all_are : tokens_of all ≡ ts = ap tokens_of (sym (pieces_same are.lexes pieces)) ∙ good_tokens ts in
    omega (arith, deep, are.shallow, ap deepest all_are)
why_not (no_token f a b c has) pieces are = let good = (good_has pieces are has).is in absurd cc

pub no_tokens : {fault : SourceFault} {at : Place} {text : Text} → IsNoText fault at text → Never AreTokens text
no_tokens none = record { not = λ ts are. why_not none.why none.pieces are }

-- ---- what the tokens of a text are

in_same : {A : Type 0} {Is : Tokens → A → Type 0} {text : Text} {ts : Tokens} {x : A} → Sole AreTokens text ts → InTokens Is text x → Is ts x
in_same {Is = Is} {x = x} sole i = subst (λ ts. Is ts x) (sole.only i.tokens i.cut) i.is

pub sole_in : {A : Type 0} {Is : Tokens → A → Type 0} {text : Text} {ts : Tokens} {x : A} → Sole AreTokens text ts → Sole Is ts x → Sole (InTokens Is) text x
sole_in {ts = ts} tokens sole = record { is = record { tokens = ts; cut = tokens.is; is = sole.is }; only = λ y i. sole.only y (in_same tokens i) }

pub never_tokens : {A : Type 0} {Is : Tokens → A → Type 0} {text : Text} → Never AreTokens text → Never (InTokens Is) text
never_tokens never = record { not = λ y i. never.not i.tokens i.cut }

pub never_in : {A : Type 0} {Is : Tokens → A → Type 0} {text : Text} {ts : Tokens} → Sole AreTokens text ts → Never Is ts → Never (InTokens Is) text
never_in tokens never = record { not = λ y i. never.not y (in_same tokens i) }

pub found_in : {A : Type 0} {text : Text} {ts : Tokens} (Is : Tokens → A → Type 0) (r : Result (Option A) AllocError) → Sole AreTokens text ts → IfOk r (λ found. MatchOption found (Never Is ts) (λ x. Sole Is ts x)) →
    IfOk r (λ found. MatchOption found (Never (InTokens Is) text) (λ x. Sole (InTokens Is) text x))
found_in Is (Ok None) tokens h = never_in tokens h
found_in Is (Ok (Some x)) tokens h = sole_in tokens h
found_in Is (Err e) tokens h = tt

-- ---- forms of one part

made_same : {A : Type 0} {Is : Tokens → A → Type 0} {make : A → Form} {ts : Tokens} {part : A} {form : Form} → Sole Is ts part → Made Is make ts form → form ≡ make part
made_same {make = make} sole m = m.made ∙ ap make (sole.only m.part m.is)

pub sole_made : {A : Type 0} {Is : Tokens → A → Type 0} {ts : Tokens} {part : A} (make : A → Form) → Sole Is ts part → Sole (Made Is make) ts (make part)
sole_made {part = part} make sole = record { is = record { part = part; is = sole.is; made = refl }; only = λ form m. made_same sole m }

pub never_made : {A : Type 0} {Is : Tokens → A → Type 0} {ts : Tokens} (make : A → Form) → Never Is ts → Never (Made Is make) ts
never_made make never = record { not = λ form m. never.not m.part m.is }

-- ---- one expression

pub sole_expression : {ts : Tokens} {x : Expr} → ReadsExpression ts x [] → Sole IsExpression ts x
sole_expression {ts} {x} d = record { is = record { reads = d }; only = λ y is. one_tree ts [] y x is.reads d }

pub found_expression : (ts : Tokens) (r : Option Expr) → MatchOption r (NotWhole ts) (λ x. ReadsExpression ts x []) → MatchOption r (Never IsExpression ts) (λ x. Sole IsExpression ts x)
found_expression ts None h = record { not = λ y is. h.not y is.reads }
found_expression ts (Some x) h = sole_expression h

none_whole : {fault : SourceFault} {at : Place} {ts : Tokens} {y : Expr} → WhyNone fault at ts → deepest ts ≤ 100 → IsExpression ts y → ⊥
none_whole (too_deep f deep) h is = omega (arith, deep, h)
none_whole {y = y} (no_form f d none) h is = none.not y [] is.reads

pub never_expression : {fault : SourceFault} {at : Place} {ts : Tokens} → WhyNone fault at ts → deepest ts ≤ 100 → Never IsExpression ts
never_expression why h = record { not = λ y is. none_whole why h is }
