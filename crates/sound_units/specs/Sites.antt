-- Tables by the numbers of sites, and what each site of a routine passes.
use Rattle.std.specs.Prelude.{◌≡◌, ℕ, zero, suc, ◌+◌, List, [], ◌∷◌, ◌++◌, Option, Some, None, slice_get}
use Rattle.f77_semantics.specs.Program.{Term, Literal, Text, Variable, Element, Whole, Reference, Apply, Paren, Negative, Plus, Not, Binary, NoTerm, Terms, End, ◌and◌, Statement, Assign, If, LogicalIf, ArithmeticIf, GoTo, ComputedGoTo, Do, Continue, Call, Return, Stop, Print, Read, NoStatement}

abbrev pub Each : {A : Type 0} → (A → Type 0) → List A → Type 0
Each P [] = Unit {0}
Each P (x ∷ xs) = P x × Each P xs

-- Sites are numbered from 1.
abbrev pub site_at : {A : Type 0} → List A → ℕ → Option A
site_at all zero = None
site_at all (suc n) = slice_get all n

-- what the table has from a site on
abbrev pub Part : {A : Type 0} → List A → ℕ → List A → Type 0
Part all s xs = (i : ℕ) (x : _) → slice_get xs i ≡ Some x → site_at all (s + i) ≡ Some x

-- the actuals of the references in a term, in the order of their sites
abbrev mutual
  pub calls : Term → List Terms
  calls (Literal v) = []
  calls (Text bs) = []
  calls (Variable ty b) = []
  calls (Element ty a es) = calls_in es
  calls (Whole a) = []
  calls (Reference s es) = es ∷ calls_in es
  calls (Apply i es) = calls_in es
  calls (Paren e) = calls e
  calls (Negative e) = calls e
  calls (Plus e) = calls e
  calls (Not e) = calls e
  calls (Binary op a b) = calls a ++ calls b
  calls NoTerm = []

  pub calls_in : Terms → List Terms
  calls_in End = []
  calls_in (e and es) = calls e ++ calls_in es

abbrev pub calls_optional : Option Term → List Terms
calls_optional None = []
calls_optional (Some e) = calls e

-- those of a statement
abbrev pub calls_of : Statement → List Terms
calls_of (Assign t e) = calls t ++ calls e
calls_of (If e o) = calls e
calls_of (LogicalIf e s) = calls e ++ calls_of s
calls_of (ArithmeticIf e a b c) = calls e
calls_of (GoTo l) = []
calls_of (ComputedGoTo ls e) = calls e
calls_of (Do b e1 e2 e3) = calls e1 ++ (calls e2 ++ calls_optional e3)
calls_of Continue = []
calls_of (Call s es) = es ∷ calls_in es
calls_of Return = []
calls_of Stop = []
calls_of (Print es) = calls_in es
calls_of (Read ts) = calls_in ts
calls_of NoStatement = []
