-- Texts in which parentheses stand too deep.
use Rattle.std.specs.Prelude.{◌<◌, List}
use Rattle.f77_expr.specs.Spelling.{Text}
use Rattle.f77_expr.specs.Depth.{deepest}
use Rattle.f77_expr.specs.Lexing.{Piece, Unclosed, Large, Pieces, Lacks, tokens_of}

-- More than 100 parentheses stand in each other in the whole text, and no literal that isn't closed or integer that is too
-- large explains the text before that.
pub record IsTooDeep (text : Text) : Type 0 where
  pub all : List Piece
  pub pieces : Pieces text all
  pub closed : Lacks Unclosed all
  pub small : Lacks Large all
  pub deep : 100 < deepest (tokens_of all)
