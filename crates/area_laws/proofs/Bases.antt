-- The bases in terms and statements lie within the areas of their unit.
use Rattle.std.proofs.Common.{ℕ, ◌+◌, ◌≤◌, List, Option, Some, None}
use Rattle.f77_tree.specs.declared.unit.Ty.{Ty}
use Rattle.f77_tree.specs.declared.unit.Unit.{Unit as SourceUnit}
use Rattle.f77_store.specs.Layouts.{local_size}
use Rattle.f77_semantics.specs.declared.storage.Base.{Base}
use Rattle.f77_semantics.specs.declared.storage.Base.TheVariants.{Dummy, Own, Common}
use Rattle.f77_semantics.specs.declared.storage.Array.{Array}
use Rattle.f77_semantics.specs.Program.{Term, Literal, Text, Variable, Element, Whole, Reference, Apply, Paren, Negative, Plus, Not, Binary, NoTerm, Terms, End, ◌and◌, Statement, Assign, If, LogicalIf, ArithmeticIf, GoTo, ComputedGoTo, Do, Continue, Call, Return, Stop, Print, Read, NoStatement, Bound, DummyArray, Routine}
use Rattle.f77_semantics.specs.Statements.{statement}
use Rattle.prog_check.specs.Limits.{all_blocks, largest}
use Rattle.area_laws.specs.Touches.{Every}

module _ (units : List SourceUnit) (u : SourceUnit) where
  -- so many units from a base on; a dummy has its actual's
  abbrev pub BaseIn : Base → ℕ → Type 0
  BaseIn (Dummy k) n = Unit {0}
  BaseIn (Own from) n = (1 ≤ n) × (from + n ≤ local_size u)
  BaseIn (Common b from) n = (1 ≤ n) × (from + n ≤ largest (all_blocks units) b)

  abbrev pub ArrayIn : Array → Type 0
  ArrayIn a = BaseIn a.base a.length

  abbrev mutual
    pub TermIn : Term → Type 0
    TermIn (Literal v) = Unit {0}
    TermIn (Text bs) = Unit {0}
    TermIn (Variable ty b) = BaseIn b 1
    TermIn (Element ty a es) = ArrayIn a × TermsIn es
    TermIn (Whole a) = ArrayIn a
    TermIn (Reference s es) = TermsIn es
    TermIn (Apply i es) = TermsIn es
    TermIn (Paren e) = TermIn e
    TermIn (Negative e) = TermIn e
    TermIn (Plus e) = TermIn e
    TermIn (Not e) = TermIn e
    TermIn (Binary op a b) = TermIn a × TermIn b
    TermIn NoTerm = Unit {0}

    pub TermsIn : Terms → Type 0
    TermsIn End = Unit {0}
    TermsIn (e and es) = TermIn e × TermsIn es

  abbrev pub OptionalIn : Option Term → Type 0
  OptionalIn None = Unit {0}
  OptionalIn (Some e) = TermIn e

  abbrev pub StatementIn : Statement → Type 0
  StatementIn (Assign t e) = TermIn t × TermIn e
  StatementIn (If e o) = TermIn e
  StatementIn (LogicalIf e s) = TermIn e × StatementIn s
  StatementIn (ArithmeticIf e a b c) = TermIn e
  StatementIn (GoTo l) = Unit {0}
  StatementIn (ComputedGoTo ls e) = TermIn e
  StatementIn (Do b e1 e2 e3) = BaseIn b 1 × TermIn e1 × TermIn e2 × OptionalIn e3
  StatementIn Continue = Unit {0}
  StatementIn (Call s es) = TermsIn es
  StatementIn Return = Unit {0}
  StatementIn Stop = Unit {0}
  StatementIn (Print es) = TermsIn es
  StatementIn (Read es) = TermsIn es
  StatementIn NoStatement = Unit {0}

  abbrev pub BoundIn : Bound → Type 0
  BoundIn b = OptionalIn b.lower × OptionalIn b.upper

  abbrev pub DummyIn : DummyArray → Type 0
  DummyIn a = Every BoundIn a.bounds

  abbrev pub ResultIn : Option (Ty × Base) → Type 0
  ResultIn None = Unit {0}
  ResultIn (Some r) = BaseIn r.1 1

  pub record RoutineIn (r : Routine) : Type 0 where
    pub each : (k : ℕ) → StatementIn (statement r k)
    pub arrays : Every DummyIn r.dummy_arrays
    pub result : ResultIn r.result
