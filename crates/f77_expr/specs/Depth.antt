-- How deep parentheses stand in each other. One that closes nothing is passed over.
use Rattle.std.specs.Prelude.{ℕ, ◌+◌, ◌-◌, max, fold}
use Rattle.f77_expr.specs.declared.token.Token.{Token}
use Rattle.f77_expr.specs.declared.token.Kind.{Kind}
use Rattle.f77_expr.specs.declared.token.Kind.TheVariants as k
use Rattle.f77_expr.specs.Kinds.{Tokens, kind_of}

-- how many are open now
abbrev pub open_after : ℕ → Kind → ℕ
open_after now k.Open = now + 1
open_after now k.Close = now - 1
open_after now _ = now

-- how many are open now, and how many were at most
abbrev pub nested : ℕ × ℕ → Token → ℕ × ℕ
nested state token = (open_after state.0 (kind_of token), max state.1 (open_after state.0 (kind_of token)))

unfoldable pub deepest : Tokens → ℕ
deepest ts = (fold nested (0, 0) ts).1
