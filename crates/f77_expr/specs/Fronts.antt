-- What the lexer knows of the piece at the front of a text: what it is, and how many bytes it has.
use Rattle.std.specs.Prelude.{◌≡◌, ℕ, ◌<◌, ◌≤◌, List, [], ◌∷◌, ◌++◌, Bool, true, false, length, take, drop, slice_index}
use Rattle.f77_expr.specs.declared.token.Token.{Token}
use Rattle.f77_expr.specs.declared.token.Token.TheVariants as t
use Rattle.f77_expr.specs.declared.fronts.Sort.{Sort}
use Rattle.f77_expr.specs.declared.fronts.Sort.TheVariants as s
use Rattle.f77_expr.specs.declared.fronts.Part.{Part}
use Rattle.f77_expr.specs.declared.fronts.Part.TheVariants as p
use Rattle.f77_expr.specs.Kinds.{Tokens}
use Rattle.f77_expr.specs.Spelling.{Text, doubled}
use Rattle.f77_expr.specs.Lexing.{Piece, Good, Large, Unclosed, Strange, Pieces, tokens_of, Has, Lacks}

pub record IsLiteral (bytes : Text) (token : Token) : Type 0 where
  pub content : Text
  pub cut : bytes ≡ 39 ∷ (doubled content ++ 39 ∷ [])
  pub is : token ≡ t.Text content

pub record IsDotWord (bytes : Text) (token : Token) : Type 0 where
  pub word : Text
  pub cut : bytes ≡ 46 ∷ (word ++ 46 ∷ [])
  pub is : token ≡ t.Dot word

-- the token of this sort that stands at these bytes
abbrev pub HasSort : Sort → Text → Token → Type 0
HasSort s.Word bytes token = token ≡ t.Word bytes
HasSort (s.Int n) bytes token = token ≡ t.Int n (length bytes)
HasSort s.Literal bytes token = IsLiteral bytes token
HasSort s.Dot bytes token = IsDotWord bytes token
HasSort (s.Sign b) bytes token = token ≡ t.Sign b
HasSort s.Power bytes token = token ≡ t.Power

pub record IsGood (sort : Sort) (bytes : Text) (piece : Piece) : Type 0 where
  pub token : Token
  pub has : HasSort sort bytes token
  pub is : piece ≡ Good token

-- the piece that stands at these bytes
abbrev pub IsPart : Part → Text → Piece → Type 0
IsPart (p.Good sort) bytes piece = IsGood sort bytes piece
IsPart p.Large bytes piece = piece ≡ Large
IsPart p.Unclosed bytes piece = piece ≡ Unclosed
IsPart p.Strange bytes piece = piece ≡ Strange

-- the text doesn't begin with this byte
pub record BeginsOther (text : Text) (b : ℕ) : Type 0 where
  pub not : (rest : Text) → text ≡ b ∷ rest → ⊥

-- the text begins with two stars
pub record IsPower (text : Text) : Type 0 where
  pub long : 1 < length text
  pub first : slice_index text 0 ≡ 42
  pub second : slice_index text 1 ≡ 42

-- the first n bytes of the text are its first piece
pub record Begins (text : Text) (part : Part) (n : ℕ) : Type 0 where
  pub within : n ≤ length text
  pub some : 0 < n
  pub piece : Piece
  pub is : IsPart part (take n text) piece
  pub all : (others : List Piece) → Pieces (drop n text) others → Pieces text (piece ∷ others)

-- whether a piece stands among them
pub data Tells (flag : Bool) (piece : Piece) (all : List Piece) : Type 0 where
  yes : flag ≡ true → Has piece all → Tells flag piece all
  no : flag ≡ false → Lacks piece all → Tells flag piece all

-- what is known of pieces: the tokens among them, and which others are
pub record Stands (all : List Piece) (tokens : Tokens) (unclosed large strange : Bool) : Type 0 where
  pub tokens_are : tokens ≡ tokens_of all
  pub unclosed_is : Tells unclosed Unclosed all
  pub large_is : Tells large Large all
  pub strange_is : Tells strange Strange all

-- what is known of all the pieces of a text
pub record Knows (text : Text) (tokens : Tokens) (unclosed large strange : Bool) : Type 0 where
  pub all : List Piece
  pub pieces : Pieces text all
  pub stands : Stands all tokens unclosed large strange
