-- Statements of the whole language that this one lacks.
use Rattle.std.specs.Prelude.{◌≡◌, Bool, true, false, not, ◌||◌, ◌==◌, [], ◌∷◌, Option, Some, None, codes, nat_eq}
use Rattle.std.specs.List.{starts_with}
use Rattle.f77_tree.specs.Names.{is_letter}
use Rattle.f77_expr.specs.Spelling.{Text}
use Rattle.form_kinds.specs.declared.keywords.Keyword.{Keyword}
use Rattle.form_kinds.specs.declared.keywords.Keyword.TheVariants as word
use Rattle.form_kinds.specs.declared.statement_kinds.StatementKind.TheVariants as kind
use Rattle.form_kinds.specs.StatementKinds.{IsIf, IsKind}
use Rattle.form_kinds.specs.Keywords.{keyword_of, behind}

-- the types, the statements of files, and the others
abbrev pub begins_type : Text → Bool
begins_type text = starts_with nat_eq text (codes "CHARACTER") || starts_with nat_eq text (codes "COMPLEX") || starts_with nat_eq text (codes "DOUBLEPRECISION") || starts_with nat_eq text (codes "REAL")

abbrev pub begins_file : Text → Bool
begins_file text =
    starts_with nat_eq text (codes "BACKSPACE") || starts_with nat_eq text (codes "CLOSE") || starts_with nat_eq text (codes "ENDFILE") || starts_with nat_eq text (codes "INQUIRE") || starts_with nat_eq text (codes "OPEN")
    || starts_with nat_eq text (codes "REWIND") || starts_with nat_eq text (codes "WRITE")

abbrev pub begins_other : Text → Bool
begins_other text =
    starts_with nat_eq text (codes "ASSIGN") || starts_with nat_eq text (codes "ENTRY") || starts_with nat_eq text (codes "EQUIVALENCE") || starts_with nat_eq text (codes "FORMAT") || starts_with nat_eq text (codes "PAUSE")

-- the words of those statements
abbrev pub begins_foreign : Text → Bool
begins_foreign text = begins_type text || begins_file text || begins_other text

-- PRINT and READ with another unit or format than *, the assigned GO TO, and RETURN with a number: by the word and the
-- text behind it
abbrev pub is_foreign_use : Keyword → Text → Bool
is_foreign_use word.Print [] = true
is_foreign_use word.Print (b ∷ rest) = not (b == 42)
is_foreign_use word.Read [] = true
is_foreign_use word.Read (b ∷ rest) = not (b == 42)
is_foreign_use word.GoTo (b ∷ rest) = is_letter b
is_foreign_use word.Return (b ∷ rest) = true
is_foreign_use _ _ = false

abbrev pub uses_foreign : Option Keyword → Text → Bool
uses_foreign None text = false
uses_foreign (Some w) text = is_foreign_use w (behind w text)

abbrev pub is_foreign_text : Text → Bool
is_foreign_text text = begins_foreign text || uses_foreign (keyword_of text) text

-- the statement in a logical IF
pub record HasInside (text statement : Text) : Type 0 where
  pub condition : Text
  pub is_kind : IsKind text kind.LogicalIf
  pub cut : IsIf text condition statement

pub record NoneInside (text : Text) : Type 0 where
  pub not : (statement : Text) → HasInside text statement → ⊥

-- The text is of such a statement, or of a logical IF with one in it, whatever its condition. A head of a unit that begins
-- with one of the words is among them.
pub data IsForeign : Text → Type 0 where
  here : {text : Text} → IsKind text kind.Worded → is_foreign_text text ≡ true → IsForeign text
  inside : {text statement : Text} → HasInside text statement → IsForeign statement → IsForeign text
