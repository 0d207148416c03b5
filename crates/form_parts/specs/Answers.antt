-- What a reader of a text or of tokens answers.
use Rattle.std.specs.Prelude.{◌≡◌, ◌≤◌}
use Rattle.f77_tree.specs.declared.form.Form.{Form}
use Rattle.f77_expr.specs.Spelling.{Text}
use Rattle.f77_expr.specs.Kinds.{Tokens}
use Rattle.f77_expr.specs.Depth.{deepest}
use Rattle.f77_expr.specs.Lexing.{Lexes}

-- The tokens of a part of a statement. A part in which more than 100 parentheses stand in each other has none here: that
-- is a fault of its own, which is told before any form is asked for.
pub record AreTokens (text : Text) (ts : Tokens) : Type 0 where
  pub lexes : Lexes text ts
  pub shallow : deepest ts ≤ 100

-- the tokens of a text are this
pub record InTokens {A : Type 0} (Is : Tokens → A → Type 0) (text : Text) (x : A) : Type 0 where
  pub tokens : Tokens
  pub cut : AreTokens text tokens
  pub is : Is tokens x

-- a form that is made of one part
pub record Made {A : Type 0} (Is : Tokens → A → Type 0) (make : A → Form) (ts : Tokens) (form : Form) : Type 0 where
  pub part : A
  pub is : Is ts part
  pub made : form ≡ make part
