-- What holds of each call in a statement: of the number of its site, and of what is passed.
use Rattle.std.specs.Prelude.{ℕ, Option, Some, None}
use Rattle.f77_semantics.specs.Program.{Term, Literal, Text, Variable, Element, Whole, Reference, Apply, Paren, Negative, Plus, Not, Binary, NoTerm, Terms, End, ◌and◌, Statement, Assign, If, LogicalIf, ArithmeticIf, GoTo, ComputedGoTo, Do, Continue, Call, Return, Stop, Print, Read, NoStatement}

module _ (P : (site : ℕ) → Terms → Type 0) where
  abbrev mutual
    pub InTerm : Term → Type 0
    InTerm (Literal v) = Unit {0}
    InTerm (Text bs) = Unit {0}
    InTerm (Variable ty b) = Unit {0}
    InTerm (Element ty a es) = InTerms es
    InTerm (Whole a) = Unit {0}
    InTerm (Reference s es) = P s es × InTerms es
    InTerm (Apply i es) = InTerms es
    InTerm (Paren e) = InTerm e
    InTerm (Negative e) = InTerm e
    InTerm (Plus e) = InTerm e
    InTerm (Not e) = InTerm e
    InTerm (Binary op a b) = InTerm a × InTerm b
    InTerm NoTerm = Unit {0}

    pub InTerms : Terms → Type 0
    InTerms End = Unit {0}
    InTerms (e and es) = InTerm e × InTerms es

  abbrev pub InOptional : Option Term → Type 0
  InOptional None = Unit {0}
  InOptional (Some e) = InTerm e

  abbrev pub InStatement : Statement → Type 0
  InStatement (Assign t e) = InTerm t × InTerm e
  InStatement (If e o) = InTerm e
  InStatement (LogicalIf e s) = InTerm e × InStatement s
  InStatement (ArithmeticIf e a b c) = InTerm e
  InStatement (GoTo l) = Unit {0}
  InStatement (ComputedGoTo ls e) = InTerm e
  InStatement (Do b e1 e2 e3) = InTerm e1 × InTerm e2 × InOptional e3
  InStatement Continue = Unit {0}
  InStatement (Call s es) = P s es × InTerms es
  InStatement Return = Unit {0}
  InStatement Stop = Unit {0}
  InStatement (Print es) = InTerms es
  InStatement (Read es) = InTerms es
  InStatement NoStatement = Unit {0}
