-- The name of a unit, from the text of its first statement (ANSI X3.9-1978, sections 13 to 16).
use Rattle.std.specs.Prelude.{◌≡◌, true, [], ◌∷◌, ◌++◌, codes}
use Rattle.f77_tree.specs.Names.{is_name}
use Rattle.fixed_form.specs.Lines.{Text}

-- names between commas, up to the closing parenthesis
pub data AreNames : Text → Type 0 where
  last_name : {text : Text} (name : Text) → text ≡ name ++ 41 ∷ [] → is_name name ≡ true → AreNames text
  next_name : {text : Text} (name rest : Text) → text ≡ name ++ 44 ∷ rest → is_name name ≡ true → AreNames rest → AreNames text

-- a list of dummies
pub data IsList (text : Text) : Type 0 where
  no_names : text ≡ codes "()" → IsList text
  some_names : (rest : Text) → text ≡ 40 ∷ rest → AreNames rest → IsList text

-- what may stand before FUNCTION
pub data IsTypeWord (word : Text) : Type 0 where
  untyped : word ≡ [] → IsTypeWord word
  integer : word ≡ codes "INTEGER" → IsTypeWord word
  logical : word ≡ codes "LOGICAL" → IsTypeWord word
  real : word ≡ codes "REAL" → IsTypeWord word
  double_precision : word ≡ codes "DOUBLEPRECISION" → IsTypeWord word
  complex : word ≡ codes "COMPLEX" → IsTypeWord word

-- The text is the head of a unit of this name. No head has `=`.
pub data IsHead (text name : Text) : Type 0 where
  program : text ≡ codes "PROGRAM" ++ name → is_name name ≡ true → IsHead text name
  subroutine : text ≡ codes "SUBROUTINE" ++ name → is_name name ≡ true → IsHead text name
  subroutine_list : (list : Text) → text ≡ codes "SUBROUTINE" ++ (name ++ list) → is_name name ≡ true → IsList list → IsHead text name
  function : (word list : Text) → text ≡ word ++ (codes "FUNCTION" ++ (name ++ list)) → IsTypeWord word → is_name name ≡ true → IsList list → IsHead text name
  block : text ≡ codes "BLOCKDATA" ++ name → is_name name ≡ true → IsHead text name
  bare_block : text ≡ codes "BLOCKDATA" → name ≡ codes "BLOCKDATA" → IsHead text name

-- A unit whose first statement is no head is a main program MAIN.
pub data NamesUnit (text name : Text) : Type 0 where
  headed : IsHead text name → NamesUnit text name
  main : ((other : Text) → IsHead text other → ⊥) → name ≡ codes "MAIN" → NamesUnit text name
