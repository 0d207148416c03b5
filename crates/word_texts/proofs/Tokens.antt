-- The tokens of a text have integers below 2 ^ 63.
use Rattle.std.proofs.Common.{◌≡◌, ℕ, ◌<◌, ◌^◌, List, [], ◌∷◌, true, ℤ, pos, negsuc, sym, subst, map, nat_lt, arith}
use Rattle.std.specs.List.{AllByRecursion}
use Rattle.std.proofs.lemmas.Bool.Decides.{nat_tests}
use Rattle.run_inputs.specs.Inputs.{is_word64}
use Rattle.f77_expr.specs.declared.token.Token.{Token}
use Rattle.f77_expr.specs.declared.token.Token.TheVariants as t
use Rattle.f77_expr.specs.declared.token.Kind.{Kind}
use Rattle.f77_expr.specs.declared.token.Kind.TheVariants as k
use Rattle.f77_expr.specs.Kinds.{Tokens, IsNext, kind_of}
use Rattle.f77_expr.specs.Spelling.{Text, Spells, word, integer, literal, dot_word, power, sign}
use Rattle.f77_expr.specs.Lexing.{Piece, Good, Spelled, good, large, unclosed, Pieces, done, spelled, strange}
use Rattle.form_parts.specs.Answers.{AreTokens}
use Rattle.form_parts.specs.Listed.{behind_comma_at, behind_comma}

-- an integer without a sign
abbrev pub IsSmall : ℤ → Type 0
IsSmall (pos n) = n < 2 ^ 63
IsSmall (negsuc n) = ⊥

abbrev pub SmallToken : Token → Type 0
SmallToken (t.Int n digits) = IsSmall n
SmallToken _ = Unit {0}

abbrev pub Small : Tokens → Type 0
Small ts = AllByRecursion SmallToken ts

passes : (n m : ℕ) → n < m → nat_lt n m ≡ true
passes n m e = grind (arith, nat_tests)

pub small_word : (n : ℤ) → IsSmall n → is_word64 n ≡ true
small_word (pos n) h = passes n (2 ^ 63) h
small_word (negsuc n) h = absurd h

-- ---- from texts

abbrev SmallPiece : Piece → Type 0
SmallPiece (Good token) = SmallToken token
SmallPiece _ = Unit {0}

spells_small : {bytes : Text} {token : Token} → Spells bytes token → SmallToken token
spells_small (word b more e l w eq) = subst SmallToken (sym eq) tt
spells_small (integer a l eq) = subst SmallToken (sym eq) l
spells_small (literal content e eq) = subst SmallToken (sym eq) tt
spells_small (dot_word w e n eq) = subst SmallToken (sym eq) tt
spells_small (power e eq) = subst SmallToken (sym eq) tt
spells_small (sign b e n eq) = subst SmallToken (sym eq) tt

spelled_small : {bytes : Text} {piece : Piece} → Spelled bytes piece → SmallPiece piece
spelled_small (good token s eq) = subst SmallPiece (sym eq) (spells_small s)
spelled_small (large a l eq) = subst SmallPiece (sym eq) tt
spelled_small (unclosed content e eq) = subst SmallPiece (sym eq) tt

pieces_small : {text : Text} {all : List Piece} → Pieces text all → AllByRecursion SmallPiece all
pieces_small (done e eq) = subst (AllByRecursion SmallPiece) (sym eq) tt
pieces_small (spelled f p eq) = subst (AllByRecursion SmallPiece) (sym eq) (spelled_small f.spelled, pieces_small p)
pieces_small (strange b e n p eq) = subst (AllByRecursion SmallPiece) (sym eq) (tt, pieces_small p)

good_small : (ts : Tokens) → AllByRecursion SmallPiece (map Good ts) → Small ts
good_small [] h = tt
good_small (token ∷ ts) h = (h.0, good_small ts h.1)

pub lexed : (text : Text) (ts : Tokens) → AreTokens text ts → Small ts
lexed text ts a = good_small ts (pieces_small a.lexes)

-- ---- what is left

pub behind : {ts rest : Tokens} {kind : Kind} → IsNext ts kind rest → Small ts → Small rest
behind n h = (subst Small n.front h).1

pub behind_one : (ts : Tokens) (token : Token) (rest : Tokens) → ts ≡ token ∷ rest → Small ts → Small rest
behind_one ts token rest e h = (subst Small e h).1

pub first_small : (ts : Tokens) (n : ℤ) (digits : ℕ) (rest : Tokens) → ts ≡ t.Int n digits ∷ rest → Small ts → IsSmall n
first_small ts n digits rest e h = (subst Small e h).0

pub comma_small : (ts : Tokens) → Small ts → Small (behind_comma ts)
comma_small [] h = tt
comma_small (token ∷ ts) h = go (kind_of token)
  where
    go : (kind : Kind) → Small (behind_comma_at kind token ts)
    go k.Comma = h.1
    go _ = h
