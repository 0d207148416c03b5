-- A text has one list of pieces, and so at most one list of tokens.
use Rattle.std.specs.Prelude.{◌≡◌, List}
use Rattle.f77_expr.specs.Kinds.{Tokens}
use Rattle.f77_expr.specs.Spelling.{Text}
use Rattle.f77_expr.specs.Lexing.{Piece, Pieces, Lexes}

abbrev pub PiecesAreUnique : Type 0
PiecesAreUnique = (text : Text) (a b : List Piece) → Pieces text a → Pieces text b → a ≡ b

abbrev pub TokensAreUnique : Type 0
TokensAreUnique = (text : Text) (a b : Tokens) → Lexes text a → Lexes text b → a ≡ b
