-- Which tokens a text is, and what else may stand in it.
use Rattle.std.specs.Prelude.{◌≡◌, ℕ, ◌<◌, ◌≤◌, ◌^◌, List, [], ◌∷◌, ◌++◌, length, map, flat_map}
use Rattle.f77_tree.specs.declared.fault.SourceFault.{SourceFault}
use Rattle.f77_tree.specs.declared.fault.Place.{Place}
use Rattle.f77_tree.specs.declared.fault.Refused.{Refused}
use Rattle.f77_tree.specs.declared.fault.Refused.TheVariants.{Fault, OutOfMemory}
use Rattle.f77_expr.specs.declared.token.Token.{Token}
use Rattle.f77_expr.specs.Depth.{deepest}
use Rattle.f77_expr.specs.Kinds.{Tokens}
use Rattle.f77_expr.specs.Longest.{IsFaultAt}
use Rattle.f77_expr.specs.Spelling.{Text, AreDigits, Spells, doubled, value_of}

-- A piece of a text: a token, digits whose value is too large, a literal that isn't closed, or a byte that begins no
-- token.
pub data Piece : Type 0 where
  Good : Token → Piece
  Large : Piece
  Unclosed : Piece
  Strange : Piece

-- the piece that these bytes spell
pub data Spelled (bytes : Text) (piece : Piece) : Type 0 where
  good : (token : Token) → Spells bytes token → piece ≡ Good token → Spelled bytes piece
  large : AreDigits bytes → 2 ^ 63 ≤ value_of bytes → piece ≡ Large → Spelled bytes piece
  -- an apostrophe and bytes in which each apostrophe is doubled, but no end
  unclosed : (content : Text) → bytes ≡ 39 ∷ doubled content → piece ≡ Unclosed → Spelled bytes piece

-- the longest piece that is spelled at the front
pub record Front (text : Text) (piece : Piece) (rest : Text) : Type 0 where
  pub bytes : Text
  pub cut : text ≡ bytes ++ rest
  pub spelled : Spelled bytes piece
  pub longest : (other more : Text) (second : Piece) → text ≡ other ++ more → Spelled other second → length other ≤ length bytes

pub record NoFront (text : Text) : Type 0 where
  pub not : (piece : Piece) (rest : Text) → Front text piece rest → ⊥

-- The pieces of a text. Each text has exactly one such list.
pub data Pieces : Text → List Piece → Type 0 where
  done : {text : Text} {all : List Piece} → text ≡ [] → all ≡ [] → Pieces text all
  spelled : {text rest : Text} {first : Piece} {others all : List Piece} → Front text first rest → Pieces rest others → all ≡ first ∷ others → Pieces text all
  strange : {text rest : Text} {others all : List Piece} (b : ℕ) → text ≡ b ∷ rest → NoFront text → Pieces rest others → all ≡ Strange ∷ others → Pieces text all

-- the text is these tokens and nothing else
abbrev pub Lexes : Text → Tokens → Type 0
Lexes text all = Pieces text (map Good all)

abbrev pub token_of : Piece → Tokens
token_of (Good token) = token ∷ []
token_of _ = []

abbrev pub tokens_of : List Piece → Tokens
tokens_of = flat_map token_of

-- a piece of this kind stands among them
pub record Has (piece : Piece) (all : List Piece) : Type 0 where
  pub before : List Piece
  pub behind : List Piece
  pub at : all ≡ before ++ piece ∷ behind

pub record Lacks (piece : Piece) (all : List Piece) : Type 0 where
  pub not : Has piece all → ⊥

-- Why a text isn't a list of tokens: 10 where a literal isn't closed, else 9 where an integer is too large, else 11
-- where parentheses stand too deep, else 6.
pub data WhyNoTokens (fault : SourceFault) (at : Place) (all : List Piece) : Type 0 where
  open_literal : IsFaultAt fault 10 at → Has Unclosed all → WhyNoTokens fault at all
  large_integer : IsFaultAt fault 9 at → Lacks Unclosed all → Has Large all → WhyNoTokens fault at all
  too_deep : IsFaultAt fault 11 at → Lacks Unclosed all → Lacks Large all → 100 < deepest (tokens_of all) → WhyNoTokens fault at all
  no_token : IsFaultAt fault 6 at → Lacks Unclosed all → Lacks Large all → deepest (tokens_of all) ≤ 100 → Has Strange all → WhyNoTokens fault at all

pub record IsNoText (fault : SourceFault) (at : Place) (text : Text) : Type 0 where
  pub all : List Piece
  pub pieces : Pieces text all
  pub why : WhyNoTokens fault at all

abbrev pub Explains : Refused → Place → Text → Type 0
Explains (Fault fault) at text = IsNoText fault at text
Explains OutOfMemory at text = Unit {0}

-- how many tokens a text counts, where a strange byte and a literal that isn't closed count as one each
pub record Counts (text : Text) (n : ℕ) : Type 0 where
  pub all : List Piece
  pub pieces : Pieces text all
  pub number : n ≡ length all
