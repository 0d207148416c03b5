-- What a token is to the grammar.
use Rattle.std.specs.Prelude.{◌≡◌, ℕ, List, ◌∷◌, if◌then◌else◌, ◌==◌, codes}
use Rattle.std.specs.Str.{bytes_eq}
use Rattle.f77_expr.specs.declared.token.Token.{Token}
use Rattle.f77_expr.specs.declared.token.Token.TheVariants as t
use Rattle.f77_expr.specs.declared.token.Kind.{Kind}
use Rattle.f77_expr.specs.declared.token.Kind.TheVariants as k

abbrev pub Tokens : Type 0
Tokens = List Token

-- the signs of one character
abbrev pub sign_kind : ℕ → Kind
sign_kind b =
    if b == 40 then k.Open else (if b == 41 then k.Close else (if b == 44 then k.Comma else (if b == 43 then k.Plus else (if b == 45 then k.Minus else (if b == 42 then k.Star else (if b == 47 then k.Slash else (if b == 61 then k.Equals else (if b == 58 then k.Colon else k.Other))))))))

-- the words between dots: relations, operators on truth values, and the two truth values
abbrev pub dot_kind : List ℕ → Kind
dot_kind word =
    if bytes_eq word (codes "EQ") then k.Eq else (if bytes_eq word (codes "NE") then k.Ne else (if bytes_eq word (codes "LT") then k.Lt else (if bytes_eq word (codes "LE") then k.Le else (if bytes_eq word (codes "GT") then k.Gt else (if bytes_eq word (codes "GE") then k.Ge else (if bytes_eq word (codes "NOT") then k.Not else (if bytes_eq word (codes "AND") then k.And else (if bytes_eq word (codes "OR") then k.Or else (if bytes_eq word (codes "EQV") then k.Eqv else (if bytes_eq word (codes "NEQV") then k.Neqv else (if bytes_eq word (codes "TRUE") then k.True else (if bytes_eq word (codes "FALSE") then k.False else k.Other))))))))))))

abbrev pub kind_of : Token → Kind
kind_of (t.Word word) = k.Word
kind_of (t.Int n digits) = k.Int
kind_of (t.Text bytes) = k.Text
kind_of (t.Dot word) = dot_kind word
kind_of (t.Sign b) = sign_kind b
kind_of t.Power = k.Power

-- a token of this kind stands first, and the rest behind it
pub record IsNext (ts : Tokens) (kind : Kind) (rest : Tokens) : Type 0 where
  pub token : Token
  pub front : ts ≡ token ∷ rest
  pub is : kind_of token ≡ kind
