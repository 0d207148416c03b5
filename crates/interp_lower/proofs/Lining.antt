-- The lines of a unit, statement by statement.
use Rattle.std.proofs.Common.{◌≡◌, ℕ, suc, ◌+◌, ◌<◌, ◌≤◌, Bool, true, false, List, [], ◌∷◌, ◌++◌, Option, None, length, drop, get_or, refl, sym, ◌∙◌, subst, append_assoc, append-nil, add-one}
use Rattle.std.proofs.Math.Seq.{drop-cons}
use Rattle.std.proofs.lemmas.List.{drop_all}
use Rattle.f77_tree.specs.declared.expr.Expr.{Expr}
use Rattle.f77_tree.specs.declared.form.Form.{Form, out-Form}
use Rattle.f77_tree.specs.declared.form.Form.TheOpen.{Form-F}
use Rattle.f77_tree.specs.declared.unit.Stmt.{Stmt}
use Rattle.f77_names.specs.declared.facts.Facts.{Facts}
use Rattle.f77_values.specs.Tables.{Name}
use Rattle.f77_names.specs.Occurrences.{in_statement}
use Rattle.f77_store.specs.Layouts.{callees_with}
use Rattle.f77_semantics.specs.Program.{Statement}
use Rattle.f77_semantics.specs.Terms.{Meant, Constant, Variable, AnArray, Function, AnIntrinsic, Unknown}
use Rattle.f77_semantics.specs.Resolve.{term, sites, optional, loop, simple, statement_of, statements_from}
use Rattle.interp_lower.specs.declared.piece.Piece.{Piece}
use Rattle.interp_lower.specs.declared.piece.Line.{Line}
use Rattle.interp_lower.specs.Pieces.{loop_steps}
use Rattle.interp_lower.specs.Lines.{IsPiece, IsLoop, inside, IsInner, IsLine, AreLines}
use Rattle.interp_lower.proofs.Preludes.{prelude-Do}

module _ (m : Name → Meant) where
  pub is_loop : (p : Piece) (x : Meant) (first last : Expr) (step : Option Expr) (s : ℕ) → IsLoop p x (loop_steps m first last step s)
      → IsPiece p (loop x (term m first s) (term m last (s + sites m first)) (optional m step (s + (sites m first + sites m last))))
  is_loop p (Variable ty b) first last step s h = record { steps = h.0 ∙ sym (prelude-Do m b first last step s); ending = h.1 }
  is_loop p (Constant v) first last step s h = record { steps = h.0; ending = h.1 }
  is_loop p (AnArray ty a) first last step s h = record { steps = h.0; ending = h.1 }
  is_loop p Function first last step s h = record { steps = h.0; ending = h.1 }
  is_loop p (AnIntrinsic i) first last step s h = record { steps = h.0; ending = h.1 }
  is_loop p Unknown first last step s h = record { steps = h.0; ending = h.1 }

  -- a statement that may stand in a logical IF is none
  pub none_inside : (main : Bool) (to : ℕ → ℕ) (s : ℕ) (F : Form-F Form) → inside (simple m main to s F) ≡ None
  none_inside main to s (Form-F.Assign t e) = refl
  none_inside main to s (Form-F.ArithmeticIf e a b c) = refl
  none_inside main to s (Form-F.GoTo label) = refl
  none_inside main to s (Form-F.ComputedGoTo labels e) = refl
  none_inside main to s Form-F.Continue = refl
  none_inside main to s Form-F.Return = refl
  none_inside true to s Form-F.End = refl
  none_inside false to s Form-F.End = refl
  none_inside main to s Form-F.Stop = refl
  none_inside main to s (Form-F.Call name es) = refl
  none_inside main to s (Form-F.Print es) = refl
  none_inside main to s (Form-F.Read es) = refl
  none_inside main to s _ = refl

  -- a line without another inside
  pub single_line : (l : Line) (t : Statement) → IsPiece l.piece t → l.inner ≡ None → inside t ≡ None → IsLine l t
  single_line l t h n e = record { piece = h; inner = subst (λ o. IsInner o (inside t)) (sym n) (subst (IsInner None) (sym e) tt) }

  module _ (f : Facts) (main : Bool) (all : List Stmt) where
    pub lines_more : (k site n : ℕ) (d : Stmt) (so_far : List Line) (line : Line) (whole : List Statement) → k < length all
        → IsLine line (statement_of m main all k site (out-Form (get_or all k d).form))
        → n ≡ site + length (callees_with f (in_statement (get_or all k d)))
        → ((rest : List Line) → AreLines rest (statements_from m f main all k site (drop k all)) → AreLines (so_far ++ rest) whole)
        → (rest : List Line) → AreLines rest (statements_from m f main all (k + 1) n (drop (k + 1) all)) → AreLines ((so_far ++ line ∷ []) ++ rest) whole
    lines_more k site n d so_far line whole h is e before rest behind =
        let here : AreLines rest (statements_from m f main all (suc k) n (drop (suc k) all)) = subst (λ (j : ℕ). AreLines rest (statements_from m f main all j n (drop j all))) (add-one k) behind in
        let next : AreLines rest (statements_from m f main all (suc k) (site + length (callees_with f (in_statement (get_or all k d)))) (drop (suc k) all)) = subst (λ (j : ℕ). AreLines rest (statements_from m f main all (suc k) j (drop (suc k) all))) e here in
        let both : AreLines (line ∷ rest) (statements_from m f main all k site (get_or all k d ∷ drop (suc k) all)) = (is, next) in
        let opened : AreLines (line ∷ rest) (statements_from m f main all k site (drop k all)) = subst (λ (ss : List Stmt). AreLines (line ∷ rest) (statements_from m f main all k site ss)) (sym (drop-cons all k d h)) both in
        subst (λ (ls : List Line). AreLines ls whole) (sym (append_assoc so_far (line ∷ []) rest)) (before (line ∷ rest) opened)

    -- no statement is left
    pub lines_end : (k site : ℕ) (so_far : List Line) (whole : List Statement) → length all ≤ k
        → ((rest : List Line) → AreLines rest (statements_from m f main all k site (drop k all)) → AreLines (so_far ++ rest) whole) → AreLines so_far whole
    lines_end k site so_far whole h before =
        let none : AreLines [] (statements_from m f main all k site (drop k all)) = subst (λ (ss : List Stmt). AreLines [] (statements_from m f main all k site ss)) (sym (drop_all k all h)) tt in
        subst (λ (ls : List Line). AreLines ls whole) (append-nil so_far) (before [] none)
