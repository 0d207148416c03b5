-- What stands at the front of a text, for the functions that look for a head.
use Rattle.std.specs.Prelude.{◌≡◌, ℕ, true, false, ◌∷◌, ◌++◌, codes}
use Rattle.f77_tree.specs.Names.{is_name, is_word}
use Rattle.fixed_form.specs.Lines.{Text}
use Rattle.fixed_form.specs.UnitNames.{IsList, IsTypeWord}

-- the text doesn't begin with this word
pub record Lacks (text word : Text) : Type 0 where
  pub not : (rest : Text) → text ≡ word ++ rest → ⊥

-- a name, and the byte behind it
pub record FrontName (text : Text) (mark : ℕ) (rest : Text) : Type 0 where
  pub name : Text
  pub cut : text ≡ name ++ mark ∷ rest
  pub is : is_name name ≡ true
  pub ends : is_word mark ≡ false

pub record NoFrontName (text : Text) : Type 0 where
  pub not : (name : Text) (mark : ℕ) (rest : Text) → text ≡ name ++ mark ∷ rest → is_name name ≡ true → is_word mark ≡ false → ⊥

-- a name, and a list behind it
pub record IsNamedList (text name : Text) : Type 0 where
  pub list : Text
  pub cut : text ≡ name ++ list
  pub is : is_name name ≡ true
  pub listed : IsList list

pub record NoNamedList (text : Text) : Type 0 where
  pub not : (name : Text) → IsNamedList text name → ⊥

-- a head by each of its kinds
pub data IsProgram (text name : Text) : Type 0 where
  program_head : text ≡ codes "PROGRAM" ++ name → is_name name ≡ true → IsProgram text name

pub data IsSubroutine (text name : Text) : Type 0 where
  bare : text ≡ codes "SUBROUTINE" ++ name → is_name name ≡ true → IsSubroutine text name
  listed : (rest : Text) → text ≡ codes "SUBROUTINE" ++ rest → IsNamedList rest name → IsSubroutine text name

pub data IsFunction (word text name : Text) : Type 0 where
  function_head : (rest : Text) → text ≡ word ++ (codes "FUNCTION" ++ rest) → IsNamedList rest name → IsFunction word text name

pub data IsBlock (text name : Text) : Type 0 where
  named_block : text ≡ codes "BLOCKDATA" ++ name → is_name name ≡ true → IsBlock text name
  no_name : text ≡ codes "BLOCKDATA" → name ≡ codes "BLOCKDATA" → IsBlock text name

pub record NoHead (Is : Text → Text → Type 0) (text : Text) : Type 0 where
  pub not : (name : Text) → Is text name → ⊥

pub data IsAnyFunction (text name : Text) : Type 0 where
  any_function : (word : Text) → IsTypeWord word → IsFunction word text name → IsAnyFunction text name
