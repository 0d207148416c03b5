-- The places of turns, and the ends of runs of steps.
use Rattle.std.proofs.Common.{◌≡◌, ℕ, suc, [], pos, sym, ap, ◌∙◌}
use Rattle.run_model.specs.Acts.{World, and_then, Handler}
use Rattle.run_model.specs.Turns.{turns, run_from}
use Rattle.f77_flow.specs.Graph.{At}
use Rattle.f77_semantics.specs.Program.{Statement, Routine}
use Rattle.interp_code.specs.Endings.{finish}
use Rattle.interp_code.specs.Steps.{steps}
use Rattle.interp_code.proofs.Statements.{performs}
use Rattle.interp_lower.specs.declared.piece.Piece.{Piece}
use Rattle.interp_lower.specs.Lines.{IsPiece}
use Rattle.f77_semantics.specs.Expressions.{Frame}
use Rattle.f77_semantics.specs.Statements as running
use Rattle.f77_semantics.specs.Statements.{turn, turn_at, perform}
use Rattle.f77_semantics.specs.Units.{beginning}
use Rattle.interp_turns.specs.declared.here.Here.{Here}
use Rattle.interp_turns.specs.declared.here.Point.{Point}
use Rattle.interp_turns.specs.Places.{point_of, here_of}

abbrev pub at_first : ℕ → running.Here
at_first n = record { point = At n; loops = λ k. record { count = 0; step = pos 1 } }

-- the turns of a unit, from its beginning
pub begun : (u : Routine) (h : Handler) (f : Frame) (n : ℕ) (s : running.Here) (w : World) (left : ℕ) → u.first ≡ n → s ≡ at_first n → left ≡ w.left → run_from h (turn u f) (beginning u) w ≡ turns h (turn u f) (suc left) s w
begun u h f n s w left e d l = λ i. turns h (turn u f) (suc (sym l i)) ((ap at_first e ∙ sym d) i) w

-- the turn of a place
pub turn_is : (u : Routine) (f : Frame) (s : Here) (p : Point) → s.point ≡ p → turn u f (here_of s) ≡ turn_at u f (here_of s) (point_of p)
turn_is u f s p e = ap (λ q. turn_at u f (here_of s) (point_of q)) e

-- a statement is the steps and the ending of its piece
pub piece_is : (u : Routine) (f : Frame) (s : running.Here) (k : ℕ) (p : Piece) (t : Statement) → IsPiece p t → perform u f s k t ≡ and_then (steps f p.steps []) (finish u f s k p.ending)
piece_is u f s k p t is = performs u f s k t ∙ (λ i. and_then (steps f (sym is.steps i) []) (finish u f s k (sym is.ending i)))
