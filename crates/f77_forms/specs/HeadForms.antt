-- The heads of units with all their parts (sections 14.1, 15.5.1, 15.6.1 and 16.1 of the standard).
use Rattle.std.specs.Prelude.{◌≡◌, ℕ, true, false, ◌==◌, if◌then◌else◌, List, [], ◌∷◌, ◌++◌, Option, Some, None, slice_index, codes}
use Rattle.f77_tree.specs.Names.{is_name, is_word}
use Rattle.f77_tree.specs.declared.form.Form.{Form}
use Rattle.f77_tree.specs.declared.form.Form.TheVariants as f
use Rattle.f77_tree.specs.declared.form.TypeWord.{TypeWord}
use Rattle.f77_tree.specs.declared.form.TypeWord.TheVariants as ty
use Rattle.f77_tree.specs.declared.unit.UnitKind.TheVariants as unit
use Rattle.f77_expr.specs.Spelling.{Text}

-- names between commas, up to the closing parenthesis
pub data AreNamesIn : Text → List Text → Type 0 where
  last_name : {text : Text} {names : List Text} (name : Text) → text ≡ name ++ 41 ∷ [] → is_name name ≡ true → names ≡ name ∷ [] → AreNamesIn text names
  next_name : {text : Text} {others names : List Text} (name rest : Text) → text ≡ name ++ 44 ∷ rest → is_name name ≡ true → AreNamesIn rest others → names ≡ name ∷ others → AreNamesIn text names

-- a list of dummies
pub data AreDummies (text : Text) (names : List Text) : Type 0 where
  no_names : text ≡ codes "()" → names ≡ [] → AreDummies text names
  some_names : (rest : Text) → text ≡ codes "(" ++ rest → AreNamesIn rest names → AreDummies text names

-- a name and its list
pub record IsNamedList (text : Text) (parts : Text × List Text) : Type 0 where
  pub list : Text
  pub cut : text ≡ parts.0 ++ list
  pub named : is_name parts.0 ≡ true
  pub listed : AreDummies list parts.1

-- PROGRAM n
pub record IsProgram (text : Text) (form : Form) : Type 0 where
  pub name : Text
  pub cut : text ≡ codes "PROGRAM" ++ name
  pub named : is_name name ≡ true
  pub made : form ≡ f.Head unit.Main None name []

-- SUBROUTINE n, alone or with a list
pub data IsSubroutine (text : Text) (form : Form) : Type 0 where
  bare : (name : Text) → text ≡ codes "SUBROUTINE" ++ name → is_name name ≡ true → form ≡ f.Head unit.Subroutine None name [] → IsSubroutine text form
  listed : (rest : Text) (parts : Text × List Text) → text ≡ codes "SUBROUTINE" ++ rest → IsNamedList rest parts → form ≡ f.Head unit.Subroutine None parts.0 parts.1 → IsSubroutine text form

-- what stands before FUNCTION
abbrev pub type_spelling : Option TypeWord → Text
type_spelling None = []
type_spelling (Some ty.Integer) = codes "INTEGER"
type_spelling (Some ty.Logical) = codes "LOGICAL"
type_spelling (Some ty.Real) = codes "REAL"
type_spelling (Some ty.DoublePrecision) = codes "DOUBLEPRECISION"
type_spelling (Some ty.Complex) = codes "COMPLEX"

-- a type or none, FUNCTION n and a list
pub record IsFunction (text : Text) (form : Form) : Type 0 where
  pub typed : Option TypeWord
  pub rest : Text
  pub parts : Text × List Text
  pub cut : text ≡ type_spelling typed ++ (codes "FUNCTION" ++ rest)
  pub listed : IsNamedList rest parts
  pub made : form ≡ f.Head unit.Function typed parts.0 parts.1

-- BLOCKDATA n, or BLOCKDATA alone, which has that name
pub data IsBlock (text : Text) (form : Form) : Type 0 where
  named : (name : Text) → text ≡ codes "BLOCKDATA" ++ name → is_name name ≡ true → form ≡ f.Head unit.BlockData None name [] → IsBlock text form
  nameless : text ≡ codes "BLOCKDATA" → form ≡ f.Head unit.BlockData None (codes "BLOCKDATA") [] → IsBlock text form

pub data IsHeadForm (text : Text) (form : Form) : Type 0 where
  program : IsProgram text form → IsHeadForm text form
  subroutine : IsSubroutine text form → IsHeadForm text form
  function : IsFunction text form → IsHeadForm text form
  block : IsBlock text form → IsHeadForm text form

-- ---- what stands at the front of a text

-- the first letter tells the type
abbrev pub type_at : ℕ → Option TypeWord
type_at b = if b == 73 then Some ty.Integer else (if b == 76 then Some ty.Logical else (if b == 82 then Some ty.Real else (if b == 68 then Some ty.DoublePrecision else (if b == 67 then Some ty.Complex else None))))

abbrev pub first_byte : Text → ℕ
first_byte text = slice_index text 0

-- a name, and the byte behind it
pub record IsFrontName (text name : Text) (mark : ℕ) (rest : Text) : Type 0 where
  pub cut : text ≡ name ++ mark ∷ rest
  pub is : is_name name ≡ true
  pub ends : is_word mark ≡ false

pub record NoFrontName (text : Text) : Type 0 where
  pub not : (name : Text) (mark : ℕ) (rest : Text) → IsFrontName text name mark rest → ⊥
