-- Lines and statements by their numbers.
use Rattle.std.specs.Borrow.{Bor}
use Rattle.std.specs.Slice.{IsItemAt}
use Rattle.std.proofs.Common.{◌≡◌, ℕ, zero, suc, ◌≤◌, List, [], ◌∷◌, length, Option, None, Some, MatchOption, slice_get, refl, sym, ap, ◌∙◌, subst, arith}
use Rattle.run_model.specs.Acts.{Fail, Stuck}
use Rattle.f77_semantics.specs.Program.{Term, Statement, LogicalIf, Do, NoStatement, Routine}
use Rattle.f77_semantics.specs.declared.storage.Base.{Base}
use Rattle.interp_code.specs.declared.ending.Ending.TheVariants.{Count}
use Rattle.f77_semantics.specs.Expressions.{Frame}
use Rattle.f77_semantics.specs.Statements.{Here, inner, advance}
use Rattle.interp_code.specs.Endings.{ending}
use Rattle.interp_lower.specs.declared.piece.Piece.{Piece}
use Rattle.interp_lower.specs.declared.piece.Line.{Line}
use Rattle.interp_calls.proofs.Items.{item_there, item_not}
use Rattle.interp_lower.specs.Lines.{IsPiece, IsInner, IsLine, AreLines, inside}

abbrev pub or_no : Option Statement → Statement
or_no o = elim o [ None ↦ NoStatement | Some t ↦ t ]

pub line_at : (ls : List Line) (ts : List Statement) → AreLines ls ts → (k : ℕ) (l : Line) → slice_get ls k ≡ Some l → IsLine l (or_no (slice_get ts k))
line_at [] [] are k l e = absurd cc
line_at [] (t ∷ ts) are k l e = absurd are
line_at (m ∷ ls) [] are k l e = absurd are
line_at (m ∷ ls) (t ∷ ts) are zero l e =
    let same : m ≡ l = cc in
    subst (λ (m : Line). IsLine m t) same are.0
line_at (m ∷ ls) (t ∷ ts) are (suc k) l e = line_at ls ts are.1 k l e

pub no_line : (ls : List Line) (ts : List Statement) → AreLines ls ts → (k : ℕ) → slice_get ls k ≡ None → or_no (slice_get ts k) ≡ NoStatement
no_line [] [] are k e = refl
no_line [] (t ∷ ts) are k e = absurd are
no_line (m ∷ ls) [] are k e = absurd are
no_line (m ∷ ls) (t ∷ ts) are zero e = absurd cc
no_line (m ∷ ls) (t ∷ ts) are (suc k) e = no_line ls ts are.1 k e

pub behind_all : (ts : List Statement) (k : ℕ) → length ts ≤ k → or_no (slice_get ts k) ≡ NoStatement
behind_all [] k h = refl
behind_all (t ∷ ts) zero h = absurd (omega arith)
behind_all (t ∷ ts) (suc k) h = behind_all ts k (omega arith)

pub inner_is : (o : Option Piece) (t : Statement) → IsInner o (inside t) → MatchOption o (inner t ≡ NoStatement) (λ p. IsPiece p (inner t))
inner_is None (LogicalIf e s) h = absurd h
inner_is (Some p) (LogicalIf e s) h = h
inner_is None t h = refl
inner_is (Some p) t h = absurd h

-- the line at a number, if there is one
pub line_found : (xs ls : List Line) (ts : List Statement) → xs ≡ ls → AreLines ls ts → (k : ℕ) (r : Option (Bor Line)) → IsItemAt xs k r → MatchOption r (or_no (slice_get ts k) ≡ NoStatement) (λ l. IsLine l.now (or_no (slice_get ts k)))
line_found xs ls ts e are k None item = no_line ls ts are k (ap (λ l. slice_get l k) (sym e) ∙ item_not xs k item)
line_found xs ls ts e are k (Some l) item = line_at ls ts are k l.now (ap (λ l. slice_get l k) (sym e) ∙ item_there xs k l item)

-- a DO by its ending
pub record Counts (t : Statement) (b : Base) : Type 0 where
  pub first : Term
  pub last : Term
  pub step : Option Term
  pub is : t ≡ Do b first last step

pub counts : (t : Statement) (b : Base) → ending t ≡ Count b → Counts t b
counts (Do c e1 e2 e3) b e =
    let same : c ≡ b = cc in
    record { first = e1; last = e2; step = e3; is = ap (λ (x : Base). Do x e1 e2 e3) same }
counts t b e = absurd cc

pub advance_not : (u : Routine) (f : Frame) (s : Here) (k : ℕ) (t : Statement) → ((b : Base) → ending t ≡ Count b → ⊥) → advance u f s k t ≡ Fail Stuck
advance_not u f s k (Do b e1 e2 e3) not = absurd (not b refl)
advance_not u f s k t not = refl
