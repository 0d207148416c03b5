-- COMMON, PARAMETER, EXTERNAL, INTRINSIC, SAVE and IMPLICIT statements behind their words (section 8 of the standard).
use Rattle.std.specs.Prelude.{◌≡◌, ℕ, List, [], ◌∷◌, Option, Some, None, flat_map, if◌then◌else◌, codes}
use Rattle.std.specs.Str.{bytes_eq}
use Rattle.f77_tree.specs.declared.expr.Expr.{Expr}
use Rattle.f77_tree.specs.declared.form.Declarator.{Declarator}
use Rattle.f77_tree.specs.declared.form.TypeWord.{TypeWord}
use Rattle.f77_tree.specs.declared.form.TypeWord.TheVariants as w
use Rattle.f77_expr.specs.declared.token.Token.TheVariants as t
use Rattle.f77_expr.specs.declared.token.Kind.TheVariants as k
use Rattle.f77_expr.specs.Kinds.{Tokens, IsNext}
use Rattle.f77_expr.specs.Grammar.{ReadsExpression}
use Rattle.form_specification.specs.declared.saved.Saved.{Saved}
use Rattle.form_specification.specs.declared.saved.Saved.TheVariants as saved
use Rattle.form_parts.specs.Listed.{Listed, Parenthesized, Whole, Sequence}
use Rattle.form_parts.specs.Parts.{IsName}
use Rattle.form_specification.specs.Declarators.{IsDeclarator}

-- ---- COMMON

-- the name of a block between slashes
pub record IsNamedBlock (ts : Tokens) (name : List ℕ) (s : Tokens) : Type 0 where
  pub inside : Tokens
  pub behind : Tokens
  pub opens : IsNext ts k.Slash inside
  pub name_is : IsName inside name behind
  pub closes : IsNext behind k.Slash s

-- two slashes with nothing between
pub record AreSlashes (ts : Tokens) (s : Tokens) : Type 0 where
  pub inside : Tokens
  pub opens : IsNext ts k.Slash inside
  pub closes : IsNext inside k.Slash s

pub record NoSlashes (ts : Tokens) : Type 0 where
  pub not : (s : Tokens) → AreSlashes ts s → ⊥

-- a block; two slashes are blank COMMON, whose name is empty
pub data IsBlock : Tokens → List ℕ → Tokens → Type 0 where
  named : {ts s : Tokens} {name : List ℕ} → IsNamedBlock ts name s → IsBlock ts name s
  blank : {ts s : Tokens} {name : List ℕ} → AreSlashes ts s → name ≡ [] → IsBlock ts name s

-- a block with its list
pub record IsEntry (ts : Tokens) (entry : List ℕ × List Declarator) (s : Tokens) : Type 0 where
  pub rest : Tokens
  pub block : IsBlock ts entry.0 rest
  pub listed : Listed IsDeclarator rest entry.1 s

-- the first block, which is blank COMMON where no slash stands
pub data IsFirstEntry : Tokens → List ℕ × List Declarator → Tokens → Type 0 where
  with_block : {ts s : Tokens} {entry : List ℕ × List Declarator} → IsEntry ts entry s → IsFirstEntry ts entry s
  without_block : {ts s : Tokens} {entry : List ℕ × List Declarator} → entry.0 ≡ [] → Listed IsDeclarator ts entry.1 s → IsFirstEntry ts entry s

-- COMMON [/b/] d,.. [[,] /b/ d,..] ..
abbrev pub IsCommon : Tokens → List (List ℕ × List Declarator) → Type 0
IsCommon = Sequence IsFirstEntry IsEntry

-- ---- PARAMETER

-- a name, `=` and an expression
pub record IsConstant (ts : Tokens) (constant : List ℕ × Expr) (s : Tokens) : Type 0 where
  pub rest : Tokens
  pub after : Tokens
  pub name : IsName ts constant.0 rest
  pub equals : IsNext rest k.Equals after
  pub value : ReadsExpression after constant.1 s

-- PARAMETER (n=e,..)
abbrev pub IsParameter : Tokens → List (List ℕ × Expr) → Type 0
IsParameter ts all = Parenthesized IsConstant ts all []

-- ---- EXTERNAL and INTRINSIC

abbrev pub AreNames : Tokens → List (List ℕ) → Type 0
AreNames = Whole IsName

-- ---- SAVE

pub data IsSaved : Tokens → Saved → Tokens → Type 0 where
  a_name : {ts s : Tokens} {x : Saved} {name : List ℕ} → IsName ts name s → x ≡ saved.Name name → IsSaved ts x s
  a_block : {ts s : Tokens} {x : Saved} {name : List ℕ} → IsNamedBlock ts name s → x ≡ saved.Block name → IsSaved ts x s

abbrev pub name_in : Saved → List (List ℕ)
name_in (saved.Name name) = name ∷ []
name_in (saved.Block name) = []

abbrev pub block_in : Saved → List (List ℕ)
block_in (saved.Name name) = []
block_in (saved.Block name) = name ∷ []

-- SAVE alone, or with names and blocks between commas, which are told apart
pub data IsSave : Tokens → List (List ℕ) × List (List ℕ) → Type 0 where
  alone : {ts : Tokens} {x : List (List ℕ) × List (List ℕ)} → ts ≡ [] → x ≡ ([], []) → IsSave ts x
  some : {ts : Tokens} {all : List Saved} {x : List (List ℕ) × List (List ℕ)} → Whole IsSaved ts all → x ≡ (flat_map name_in all, flat_map block_in all) → IsSave ts x

-- ---- IMPLICIT

-- the types that IMPLICIT gives to letters
abbrev pub type_of : List ℕ → Option TypeWord
type_of word =
    if bytes_eq word (codes "INTEGER") then Some w.Integer else (if bytes_eq word (codes "LOGICAL") then Some w.Logical else (if bytes_eq word (codes "REAL") then Some w.Real else (if bytes_eq word (codes "DOUBLEPRECISION") then Some w.DoublePrecision else None)))

-- a letter, which is a name of one letter
abbrev pub IsLetter : Tokens → ℕ → Tokens → Type 0
IsLetter ts letter s = IsName ts (letter ∷ []) s

-- A letter, or two with `-` between. One that stands alone is both ends.
pub data IsRange : Tokens → ℕ × ℕ → Tokens → Type 0 where
  single : {ts s : Tokens} {a : ℕ} {range : ℕ × ℕ} → IsLetter ts a s → range ≡ (a, a) → IsRange ts range s
  both : {ts rest more s : Tokens} {a b : ℕ} {range : ℕ × ℕ} → IsLetter ts a rest → IsNext rest k.Minus more → IsLetter more b s → range ≡ (a, b) → IsRange ts range s

pub record IsTypeWord (ts : Tokens) (found : TypeWord) (s : Tokens) : Type 0 where
  pub word : List ℕ
  pub front : ts ≡ t.Word word ∷ s
  pub is : type_of word ≡ Some found

-- a type with its letters in parentheses
pub record IsRule (ts : Tokens) (rule : TypeWord × List (ℕ × ℕ)) (s : Tokens) : Type 0 where
  pub rest : Tokens
  pub type_is : IsTypeWord ts rule.0 rest
  pub letters : Parenthesized IsRange rest rule.1 s

-- IMPLICIT type(a-b,..),..
abbrev pub IsImplicit : Tokens → List (TypeWord × List (ℕ × ℕ)) → Type 0
IsImplicit = Whole IsRule
