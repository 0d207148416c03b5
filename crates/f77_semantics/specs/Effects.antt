-- What a unit's text may read, write and call, and that its terms have their types.
use Rattle.std.specs.Prelude.{◌≡◌, ℕ, suc, ◌+◌, ◌<◌, ◌≤◌, List, [], ◌∷◌, Option, Some, None, Bool, true, false, ◌⊎◌, pos, slice_get}
use Rattle.run_model.specs.Storage.{Fresh, Loc, Interval}
use Rattle.run_model.specs.Acts.{Answer}
use Rattle.f77_tree.specs.declared.expr.Op.{Op}
use Rattle.f77_tree.specs.declared.expr.Op.TheVariants.{Pow, Mul, Div, Add, Sub, And, Or, Eqv, Neqv}
use Rattle.f77_tree.specs.declared.unit.Ty.{Ty}
use Rattle.f77_tree.specs.declared.unit.Ty.TheVariants as types
use Rattle.f77_tree.specs.declared.unit.Value.{Value}
use Rattle.f77_tree.specs.declared.unit.Value.TheVariants.{Integer}
use Rattle.f77_names.specs.declared.intrinsics.Intrinsic.{Intrinsic}
use Rattle.f77_names.specs.declared.intrinsics.Intrinsic.TheVariants.{Abs, Mod, Sign, Dim, Max, Min}
use Rattle.f77_values.specs.Tables.{Name}
use Rattle.f77_values.specs.Arithmetic.{negated, kept, denied}
use Rattle.f77_values.specs.Constants.{applied, operated}
use Rattle.f77_flow.specs.Graph.{Point, At, Inside, Test, Advance}
use Rattle.f77_semantics.specs.Values.{seen, has_type}
use Rattle.f77_semantics.specs.Program.{Base, Dummy, Own, Common, Extent, Known, AtEntry, Array, Term, Literal, Text, Variable, Element, Whole, Reference, Apply, Paren, Negative, Plus, Not, Binary, NoTerm, Terms, End, ◌and◌, Statement, Assign, If, LogicalIf, ArithmeticIf, GoTo, ComputedGoTo, Do, Continue, Call, Return, Stop, Print, Read, NoStatement, Bound, DummyArray, Routine}
use Rattle.f77_semantics.specs.Expressions.{Frame, interval, at, rest, sequence, fresh}
use Rattle.f77_semantics.specs.Statements.{statement}
use Rattle.f77_semantics.specs.Units.{Program, total, is_array, callee}

pub data Item : Type 0 where
  DummyItem : ℕ → Item
  LocalItem : ℕ → Item
  CommonItem : Name → ℕ → Item

abbrev pub Items : Type 0
Items = Item → Bool

abbrev pub interval_of : Frame → Item → Interval
interval_of f (DummyItem k) = interval f (Dummy k) 1
interval_of f (LocalItem o) = interval f (Own o) 1
interval_of f (CommonItem b o) = interval f (Common b o) 1

-- an item covers the locations of its interval
pub record Covers (i : Interval) (l : Loc) : Type 0 where
  pub at_ : ℕ
  pub inside_ : at_ < i.length
  pub is : l ≡ at i at_

pub record Covered (S : Items) (places : Item → Interval) (l : Loc) : Type 0 where
  pub item : Item
  pub in_set : S item ≡ true
  pub covers : Covers (places item) l

-- a fresh cell of a unit
abbrev pub IsFresh : Name → Loc → Type 0
IsFresh u l = (s : ℕ) × (j : ℕ) × (l ≡ record { area = Fresh u s j; offset = 0 + 0 })

-- the set has all items of a name of this length
abbrev pub HasAll : Items → Base → ℕ → Type 0
HasAll S (Dummy k) n = S (DummyItem k) ≡ true
HasAll S (Own from) n = (k : ℕ) → k < n → S (LocalItem (from + k)) ≡ true
HasAll S (Common b from) n = (k : ℕ) → k < n → S (CommonItem b (from + k)) ≡ true

-- what a unit's own statements may use and assign, the actuals and the type of each of its sites, and its dummy arrays
pub record Effects : Type 0 where
  pub used : Items
  pub assigned : Items
  pub sites : ℕ
  pub actuals : ℕ → Terms
  pub type_of : ℕ → Option Ty
  pub arrays : List DummyArray
  pub returns : Bool  -- a main program never returns

abbrev pub ScalarOk : Effects → Base → Type 0
ScalarOk S (Dummy k) = is_array S.arrays k ≡ false
ScalarOk S (Own o) = Unit {0}
ScalarOk S (Common b o) = Unit {0}

pub record KnownOk (a : Array) : Type 0 where
  pub extents : List Extent
  pub are : a.bounds ≡ Known extents
  pub fits : total extents ≤ a.length

abbrev pub ArrayOk_ : Effects → Array → Base → Type 0
ArrayOk_ S a (Dummy k) = (a.bounds ≡ AtEntry k) × (is_array S.arrays k ≡ true)
ArrayOk_ S a (Own o) = KnownOk a
ArrayOk_ S a (Common b o) = KnownOk a

abbrev pub ArrayOk : Effects → Array → Type 0
ArrayOk S a = ArrayOk_ S a a.base

-- sites are numbered from 1
abbrev pub HasSite : Effects → ℕ → Type 0
HasSite S s = (0 < s) × (s ≤ S.sites)

-- the type of an operator's operands, and of what it gives
abbrev pub takes : Op → Ty
takes And = types.Logical
takes Or = types.Logical
takes Eqv = types.Logical
takes Neqv = types.Logical
takes _ = types.Integer

abbrev pub gives : Op → Ty
gives Pow = types.Integer
gives Mul = types.Integer
gives Div = types.Integer
gives Add = types.Integer
gives Sub = types.Integer
gives _ = types.Logical

abbrev pub arity : Intrinsic → Terms → Type 0
arity Abs (a and End) = Unit {0}
arity Mod (a and b and End) = Unit {0}
arity Sign (a and b and End) = Unit {0}
arity Dim (a and b and End) = Unit {0}
arity Max (a and as_) = Unit {0}
arity Min (a and as_) = Unit {0}
arity _ _ = ⊥

-- An exponent is a constant from 0 to 62.
abbrev pub constant : Term → Option Value
constant (Literal v) = Some v
constant (Paren e) = constant e
constant (Plus e) = applied kept (constant e)
constant (Negative e) = applied negated (constant e)
constant (Not e) = applied denied (constant e)
constant (Binary op a b) = operated op (constant a) (constant b)
constant _ = None

abbrev pub ExponentOk : Op → Term → Type 0
ExponentOk Pow e = (n : ℕ) × (constant e ≡ Some (Integer (pos n))) × (n ≤ 62)
ExponentOk _ e = Unit {0}

abbrev mutual
  pub TermOk : Effects → Ty → Term → Type 0
  TermOk S ty (Literal v) = has_type ty v ≡ true
  TermOk S ty (Text bs) = ⊥
  TermOk S ty (Variable ty' b) = (ty' ≡ ty) × ScalarOk S b × HasAll S.used b 1
  TermOk S ty (Element ty' a es) = (ty' ≡ ty) × ArrayOk S a × HasAll S.used a.base a.length × IntegersOk S es
  TermOk S ty (Whole a) = ⊥
  TermOk S ty (Reference s es) = (S.type_of s ≡ Some ty) × HasSite S s × (S.actuals s ≡ es) × ActualsOk S es
  TermOk S ty (Apply i es) = (types.Integer ≡ ty) × arity i es × IntegersOk S es
  TermOk S ty (Paren e) = TermOk S ty e
  TermOk S ty (Plus e) = (types.Integer ≡ ty) × TermOk S types.Integer e
  TermOk S ty (Negative e) = (types.Integer ≡ ty) × TermOk S types.Integer e
  TermOk S ty (Not e) = (types.Logical ≡ ty) × TermOk S types.Logical e
  TermOk S ty (Binary op a b) = (gives op ≡ ty) × TermOk S (takes op) a × TermOk S (takes op) b × ExponentOk op b
  TermOk S ty NoTerm = ⊥

  pub IntegersOk : Effects → Terms → Type 0
  IntegersOk S End = Unit {0}
  IntegersOk S (e and es) = TermOk S types.Integer e × IntegersOk S es

  -- passing a variable or an array is no use of it, but the subscripts of an element are used
  pub ActualsOk : Effects → Terms → Type 0
  ActualsOk S End = Unit {0}
  ActualsOk S (Variable ty b and es) = ScalarOk S b × ActualsOk S es
  ActualsOk S (Whole a and es) = ArrayOk S a × ActualsOk S es
  ActualsOk S (Element ty a is and es) = ArrayOk S a × IntegersOk S is × ActualsOk S es
  ActualsOk S (e and es) = ((ty : Ty) × TermOk S ty e) × ActualsOk S es

abbrev pub TargetOk : Effects → Term → Type 0
TargetOk S (Variable ty b) = ScalarOk S b × HasAll S.assigned b 1
TargetOk S (Element ty a es) = ArrayOk S a × HasAll S.assigned a.base a.length × IntegersOk S es
TargetOk S _ = ⊥

abbrev pub TargetsOk : Effects → Terms → Type 0
TargetsOk S End = Unit {0}
TargetsOk S (t and ts) = TargetOk S t × TargetsOk S ts

abbrev pub ItemsOk : Effects → Terms → Type 0
ItemsOk S End = Unit {0}
ItemsOk S (Text bs and es) = ItemsOk S es
ItemsOk S (e and es) = ((ty : Ty) × TermOk S ty e) × ItemsOk S es

abbrev pub StepOk : Effects → Option Term → Type 0
StepOk S None = Unit {0}
StepOk S (Some e) = TermOk S types.Integer e

-- a place of a unit where a turn can begin
abbrev pub IsDo : Statement → Type 0
IsDo (Do b e1 e2 e3) = Unit {0}
IsDo _ = ⊥

abbrev pub IsLogicalIf : Statement → Type 0
IsLogicalIf (LogicalIf e s) = Unit {0}
IsLogicalIf _ = ⊥

abbrev pub IsStatement : Statement → Type 0
IsStatement NoStatement = ⊥
IsStatement _ = Unit {0}

abbrev pub PointOk : Routine → Point → Type 0
PointOk u (At k) = IsStatement (statement u k)
PointOk u (Inside k) = IsLogicalIf (statement u k)
PointOk u (Test k) = IsDo (statement u k)
PointOk u (Advance k) = IsDo (statement u k)

abbrev pub ResultOk : Effects → Option (Ty × Base) → Type 0
ResultOk S None = Unit {0}
ResultOk S (Some r) = ScalarOk S r.1 × HasAll S.used r.1 1

-- statement k, or the one inside it
abbrev pub StatementOk : Routine → Effects → ℕ → Statement → Type 0
StatementOk u S k (Assign t e) = TargetOk S t × ((ty : Ty) × TermOk S ty e) × PointOk u (u.after k)
StatementOk u S k (If e o) = TermOk S types.Logical e × PointOk u (At (u.below k)) × PointOk u (At o)
StatementOk u S k (LogicalIf e s) = TermOk S types.Logical e × PointOk u (u.after k) × PointOk u (Inside k)
StatementOk u S k (ArithmeticIf e a b c) = TermOk S types.Integer e × PointOk u (At a) × PointOk u (At b) × PointOk u (At c)
StatementOk u S k (GoTo l) = PointOk u (At l)
StatementOk u S k (ComputedGoTo ls e) = TermOk S types.Integer e × PointOk u (u.after k) × ((j l : ℕ) → slice_get ls j ≡ Some l → PointOk u (At l))
StatementOk u S k (Do b e1 e2 e3) = ScalarOk S b × HasAll S.assigned b 1 × HasAll S.used b 1 × TermOk S types.Integer e1 × TermOk S types.Integer e2 × StepOk S e3 × PointOk u (Test k) × PointOk u (At (u.below k)) × PointOk u (u.leaving k)
StatementOk u S k Continue = PointOk u (u.after k)
StatementOk u S k (Call s es) = HasSite S s × (S.actuals s ≡ es) × ActualsOk S es × PointOk u (u.after k)
StatementOk u S k Return = (S.returns ≡ true) × ResultOk S u.result
StatementOk u S k Stop = Unit {0}
StatementOk u S k (Print es) = ItemsOk S es × PointOk u (u.after k)
StatementOk u S k (Read ts) = TargetsOk S ts × PointOk u (u.after k)
StatementOk u S k NoStatement = Unit {0}

abbrev pub InnerOk : Routine → Effects → ℕ → Statement → Type 0
InnerOk u S k (LogicalIf e s) = StatementOk u S k s × IsStatement s
InnerOk u S k _ = Unit {0}

-- a bound of a dummy array
abbrev pub BoundOk : Effects → Bound → Type 0
BoundOk S b = StepOk S b.lower × StepOk S b.upper

abbrev pub BoundsOk : Effects → List Bound → Type 0
BoundsOk S [] = Unit {0}
BoundsOk S (b ∷ bs) = BoundOk S b × BoundsOk S bs

abbrev pub EntryOk : Effects → List DummyArray → Type 0
EntryOk S [] = Unit {0}
EntryOk S (a ∷ as_) = BoundsOk S a.bounds × EntryOk S as_

pub record UnitOk (u : Routine) (S : Effects) : Type 0 where
  pub arrays : S.arrays ≡ u.dummy_arrays
  pub first : PointOk u (At u.first)
  pub each : (k : ℕ) → StatementOk u S k (statement u k)
  pub inner : (k : ℕ) → InnerOk u S k (statement u k)
  pub entry : EntryOk S u.dummy_arrays

-- what stands for an actual at a call
pub record RestOf (i j : Interval) : Type 0 where
  pub from : ℕ
  pub below : from < i.length
  pub is : j ≡ rest i from

abbrev pub IsActual : Frame → (site position : ℕ) → Term → Interval → Type 0
IsActual f s j (Variable ty b) i = i ≡ interval f b 1
IsActual f s j (Whole a) i = i ≡ sequence f a
IsActual f s j (Element ty a es) i = RestOf (sequence f a) i
IsActual f s j _ i = i ≡ fresh f s j

abbrev pub AreActuals : Frame → (site position : ℕ) → Terms → List Interval → Type 0
AreActuals f s j End [] = Unit {0}
AreActuals f s j (e and es) (i ∷ is) = IsActual f s j e i × AreActuals f s (suc j) es is
AreActuals f s j End (i ∷ is) = ⊥
AreActuals f s j (e and es) [] = ⊥

-- an answer of a site: a value of its type
abbrev pub Answers : Option Ty → Answer → Type 0
Answers None r = Unit {0}
Answers (Some ty) (Some c) = has_type ty (seen c) ≡ true
Answers (Some ty) None = ⊥

abbrev pub type_of_result : Option (Ty × Base) → Option Ty
type_of_result None = None
type_of_result (Some r) = Some r.0

-- a program: each unit is as its effects say, each site's callee has a lower rank and gives what the site takes
pub record SiteOk (units : Program) (effects : Name → Effects) (rank : Name → ℕ) (q : Name) (s : ℕ) : Type 0 where
  pub below : rank (callee (units q) s) < rank q
  pub typed : ((effects q).type_of s ≡ None) ⊎ (type_of_result (units (callee (units q) s)).result ≡ (effects q).type_of s)

pub record ProgramOk (units : Program) (effects : Name → Effects) (rank : Name → ℕ) : Type 0 where
  pub each : (q : Name) → UnitOk (units q) (effects q)
  pub sites : (q : Name) (s : ℕ) → HasSite (effects q) s → SiteOk units effects rank q s
