-- Actual arguments for the dummy arguments of a unit (ANSI X3.9-1978, sections 15.9.1 and 15.9.3).
use Rattle.std.specs.Prelude.{◌≡◌, ℕ, List, [], ◌∷◌, Option, Some, None, Bool, true, false, ◌⊎◌, slice_get}
use Rattle.f77_tree.specs.declared.unit.Ty.{Ty}
use Rattle.f77_tree.specs.declared.unit.Ty.TheVariants as types
use Rattle.f77_tree.specs.declared.unit.Unit.{Unit as SourceUnit}
use Rattle.f77_names.specs.declared.roles.Role.{Role}
use Rattle.f77_names.specs.declared.roles.Role.TheVariants.{Scalar, Array}
use Rattle.f77_values.specs.Tables.{Name}
use Rattle.f77_names.specs.Roles.{facts, role, type_of}
use Rattle.f77_store.specs.Layouts.{callees}
use Rattle.f77_semantics.specs.Program.{Term, Literal, Text, Variable, Element, Whole, Reference, Apply, Paren, Negative, Plus, Not, Binary, NoTerm, Terms, End, ◌and◌}
use Rattle.f77_semantics.specs.Values.{has_type}
use Rattle.f77_semantics.specs.Effects.{Effects, gives}
use Rattle.sound_units.specs.Sites.{site_at}
use Rattle.sound_units.specs.Units.{effects}

-- an array by its name
abbrev pub is_whole : Term → Bool
is_whole (Whole a) = true
is_whole _ = false

-- an array, or an element of one
abbrev pub is_part : Term → Bool
is_part (Whole a) = true
is_part (Element ty a es) = true
is_part _ = false

-- An array takes an array or an element of one, and a scalar takes no array. A dummy with another role is a fault of its own (12 or 35), and
-- what is no term no accepted unit has.
abbrev pub FitsRole : Role → Term → Type 0
FitsRole (Array bounds) e = (is_part e ≡ true) ⊎ (e ≡ NoTerm)
FitsRole Scalar e = is_whole e ≡ false
FitsRole _ e = Unit {0}

-- A term with this type, where a site has the type of its callee's name. An array's elements have a type, and the array has none here;
-- neither has what is no term, nor a literal of characters, which no accepted unit passes.
abbrev pub HasType : Effects → Ty → Term → Type 0
HasType S ty (Literal v) = has_type ty v ≡ true
HasType S ty (Text bs) = Unit {0}
HasType S ty (Variable ty' b) = ty' ≡ ty
HasType S ty (Element ty' a es) = ty' ≡ ty
HasType S ty (Whole a) = Unit {0}
HasType S ty (Reference s es) = S.type_of s ≡ Some ty
HasType S ty (Apply i es) = types.Integer ≡ ty
HasType S ty (Paren e) = HasType S ty e
HasType S ty (Negative e) = types.Integer ≡ ty
HasType S ty (Plus e) = types.Integer ≡ ty
HasType S ty (Not e) = types.Logical ≡ ty
HasType S ty (Binary op a b) = gives op ≡ ty
HasType S ty NoTerm = Unit {0}

-- the type of a dummy, if it has one
abbrev pub FitsType : Effects → Option Ty → Term → Type 0
FitsType S None e = Unit {0}
FitsType S (Some ty) e = HasType S ty e

-- one actual for each dummy, and each fits
abbrev pub AllFit : (caller called : SourceUnit) → List Name → Terms → Type 0
AllFit u v [] End = Unit {0}
AllFit u v (d ∷ ds) (e and es) = FitsRole (role (facts v) d) e × FitsType (effects u) (type_of (facts v) d) e × AllFit u v ds es
AllFit u v [] (e and es) = ⊥
AllFit u v (d ∷ ds) End = ⊥

-- what a site of a unit passes fits the unit that is called there, which is one of these
pub record SiteFits (units : List SourceUnit) (caller : SourceUnit) (site : ℕ) (es : Terms) : Type 0 where
  pub place : ℕ
  pub unit : SourceUnit
  pub stands : slice_get units place ≡ Some unit
  pub called : site_at (callees caller) site ≡ Some unit.name
  pub fits : AllFit caller unit unit.dummies es
