-- What the pieces and lines of a unit stand for.
use Rattle.std.specs.Prelude.{◌≡◌, List, [], ◌∷◌, Option, Some, None}
use Rattle.f77_semantics.specs.Program.{Statement, LogicalIf}
use Rattle.f77_semantics.specs.Terms.{Meant, Variable}
use Rattle.interp_code.specs.declared.step.Step.{Step}
use Rattle.interp_code.specs.declared.ending.Ending.TheVariants.{Count, Nowhere}
use Rattle.interp_code.specs.Endings.{prelude, ending}
use Rattle.interp_lower.specs.declared.piece.Piece.{Piece}
use Rattle.interp_lower.specs.declared.piece.Line.{Line}

-- a piece is a statement: it has its steps and its ending
pub record IsPiece (p : Piece) (t : Statement) : Type 0 where
  pub steps : p.steps ≡ prelude t
  pub ending : p.ending ≡ ending t

-- a DO with these steps, by what its variable stands for
abbrev pub IsLoop : Piece → Meant → List Step → Type 0
IsLoop p (Variable ty b) steps = (p.steps ≡ steps) × (p.ending ≡ Count b)
IsLoop p _ steps = (p.steps ≡ []) × (p.ending ≡ Nowhere)

-- the statement inside a logical IF
abbrev pub inside : Statement → Option Statement
inside (LogicalIf e inner) = Some inner
inside _ = None

abbrev pub IsInner : Option Piece → Option Statement → Type 0
IsInner None None = Unit {0}
IsInner (Some p) (Some t) = IsPiece p t
IsInner _ _ = ⊥

pub record IsLine (l : Line) (t : Statement) : Type 0 where
  pub piece : IsPiece l.piece t
  pub inner : IsInner l.inner (inside t)

-- lines and statements one by one
abbrev pub AreLines : List Line → List Statement → Type 0
AreLines [] [] = Unit {0}
AreLines (l ∷ ls) (t ∷ ts) = IsLine l t × AreLines ls ts
AreLines _ _ = ⊥
