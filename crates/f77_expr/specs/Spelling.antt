-- How a token is spelled (section 2.3 and the lexical parts of sections 3 to 6 of the standard).
use Rattle.std.specs.Prelude.{◌≡◌, ℕ, ◌+◌, ◌-◌, ◌*◌, ◌^◌, ◌<◌, Bool, true, ◌&&◌, ◌==◌, nat_le, if◌then◌else◌, List, [], ◌∷◌, ◌++◌, length, fold, pos}
use Rattle.std.specs.List.{list_all}
use Rattle.f77_tree.specs.Names.{is_letter, is_word}
use Rattle.f77_expr.specs.declared.token.Token.{Token}
use Rattle.f77_expr.specs.declared.token.Token.TheVariants as t
use Rattle.f77_expr.specs.declared.token.Kind.TheVariants as k
use Rattle.f77_expr.specs.Kinds.{dot_kind, sign_kind}

abbrev pub Text : Type 0
Text = List ℕ

abbrev pub is_digit : ℕ → Bool
is_digit b = nat_le 48 b && nat_le b 57

-- the value of digits
abbrev pub with_digit : ℕ → ℕ → ℕ
with_digit n b = 10 * n + (b - 48)

unfoldable pub value_of : Text → ℕ
value_of = fold with_digit 0

-- digits and nothing else
pub record AreDigits (bytes : Text) : Type 0 where
  pub filled : 0 < length bytes
  pub digits : list_all is_digit bytes ≡ true

-- bytes with each apostrophe doubled, as they stand between the apostrophes of a literal
unfoldable pub doubled : Text → Text
doubled [] = []
doubled (b ∷ bs) = if b == 39 then 39 ∷ 39 ∷ doubled bs else b ∷ doubled bs

-- the token that these bytes spell
pub data Spells (bytes : Text) (token : Token) : Type 0 where
  word : (b : ℕ) (more : Text) → bytes ≡ b ∷ more → is_letter b ≡ true → list_all is_word more ≡ true → token ≡ t.Word bytes → Spells bytes token
  integer : AreDigits bytes → value_of bytes < 2 ^ 63 → token ≡ t.Int (pos (value_of bytes)) (length bytes) → Spells bytes token
  literal : (content : Text) → bytes ≡ 39 ∷ (doubled content ++ 39 ∷ []) → token ≡ t.Text content → Spells bytes token
  dot_word : (word : Text) → bytes ≡ 46 ∷ (word ++ 46 ∷ []) → (dot_kind word ≡ k.Other → ⊥) → token ≡ t.Dot word → Spells bytes token
  power : bytes ≡ 42 ∷ 42 ∷ [] → token ≡ t.Power → Spells bytes token
  sign : (b : ℕ) → bytes ≡ b ∷ [] → (sign_kind b ≡ k.Other → ⊥) → token ≡ t.Sign b → Spells bytes token
