-- What expressions do (ANSI X3.9-1978, sections 5, 6 and 15): association, elements, values and actual arguments.
use Rattle.std.specs.Prelude.{ℕ, suc, ◌+◌, ◌-◌, ◌*◌, List, [], ◌∷◌, Option, Some, None, ℤ, pos, negsuc, ◌-ℤ◌, get_or, if◌then◌else◌, nat_lt}
use Rattle.run_model.specs.Storage.{Block, Local, Fresh, Loc, Interval}
use Rattle.run_model.specs.Acts.{Act, Done, Get, Put, Ask, Fail, Undefined, Stuck, and_then, ◌>>=◌, ◌>>◌, Answer}
use Rattle.f77_tree.specs.declared.unit.Ty.{Ty}
use Rattle.f77_tree.specs.declared.unit.Value.{Value}
use Rattle.f77_tree.specs.declared.unit.Value.TheVariants.{Integer, Logical}
use Rattle.f77_values.specs.Tables.{Name}
use Rattle.f77_values.specs.Arithmetic.{negated, kept, denied}
use Rattle.f77_semantics.specs.Values.{stored, seen, has_type, or_fail, operated, intrinsic}
use Rattle.f77_semantics.specs.Program.{Base, Dummy, Own, Common, Extent, Bounds, Known, AtEntry, Array, Term, Literal, Text, Variable, Element, Whole, Reference, Apply, Paren, Negative, Plus, Not, Binary, NoTerm, Terms, End, ◌and◌}

-- an activation: its unit, its actuals and the bounds of its dummy arrays
pub record Frame : Type 0 where
  pub unit : Name
  pub actuals : List Interval
  pub shapes : ℕ → List Extent

-- where a dummy has no actual, which no accepted program has
abbrev pub nothing : Name → Interval
nothing u = record { area = Fresh u 0 0; from = 0; length = 1 }

-- the interval of a name of this length; a dummy's is its actual's
abbrev pub interval : Frame → Base → ℕ → Interval
interval f (Dummy k) n = get_or f.actuals k (nothing f.unit)
interval f (Own from) n = record { area = Local f.unit; from = from; length = n }
interval f (Common b from) n = record { area = Block b; from = from; length = n }

abbrev pub at : Interval → ℕ → Loc
at i k = record { area = i.area; offset = i.from + k }

abbrev pub rest : Interval → ℕ → Interval
rest i k = record { area = i.area; from = i.from + k; length = i.length - k }

abbrev pub only_first : Interval → Interval
only_first i = record { area = i.area; from = i.from; length = 1 }

-- a cell of the other type is undefined to read
abbrev pub typed : Ty → Value → Act Value
typed ty v = if has_type ty v then Done v else Fail (Undefined 1)

abbrev pub fetch : Ty → Loc → Act Value
fetch ty l = Get l (λ c. typed ty (seen c))

abbrev pub store : Loc → Value → Act (Unit {0})
store l v = Put l (stored v) (Done tt)

-- a scalar
abbrev pub scalar : Frame → Base → Loc
scalar f b = at (interval f b 1) 0

-- the bounds of an array
abbrev pub shape : Frame → Bounds → List Extent
shape f (Known es) = es
shape f (AtEntry k) = f.shapes k

-- how far a subscript lies above the lower bound, where it lies in the bounds
abbrev pub distance : ℤ → ℕ → Option ℕ
distance (negsuc d) n = None
distance (pos d) n = if nat_lt d n then Some d else None

abbrev pub with_others : ℕ → Option ℕ → Option ℕ → Option ℕ
with_others size (Some d) (Some r) = Some (d + size * r)
with_others size _ _ = None

-- the number of an element in an array's sequence: the first subscript varies fastest
abbrev pub numbered : List Extent → List ℤ → Option ℕ
numbered [] [] = Some 0
numbered (e ∷ es) (i ∷ is) = with_others e.size (distance (i -ℤ e.lower) e.size) (numbered es is)
numbered [] (i ∷ is) = None
numbered (e ∷ es) [] = None

abbrev pub integers : List Value → Act (List ℤ)
integers [] = Done []
integers (Integer x ∷ vs) = and_then (integers vs) (λ xs. Done (x ∷ xs))
integers (Logical b ∷ vs) = Fail Stuck

-- the place in an array's sequence that evaluated subscripts name
abbrev pub element : Frame → Array → List Value → Act ℕ
element f a vs = do
  is ← integers vs
  or_fail (Undefined 2) (numbered (shape f a.bounds) is)

abbrev pub sequence : Frame → Array → Interval
sequence f a = interval f a.base a.length

abbrev pub resulting : Answer → Act Value
resulting (Some c) = Done (seen c)
resulting None = Fail Stuck

abbrev pub fresh : Frame → ℕ → ℕ → Interval
fresh f site position = record { area = Fresh f.unit site position; from = 0; length = 1 }

abbrev mutual
  pub value : Frame → Term → Act Value
  value f (Literal v) = Done v
  value f (Text bs) = Fail Stuck
  value f (Variable ty b) = fetch ty (scalar f b)
  value f (Element ty a subscripts) = do
    is ← values f subscripts
    k ← element f a is
    fetch ty (at (sequence f a) k)
  value f (Whole a) = Fail Stuck
  value f (Reference site es) = do
    ds ← actuals f site 0 es
    r ← Ask site ds (λ r. Done r)
    resulting r
  value f (Apply i es) = do
    vs ← values f es
    xs ← integers vs
    x ← intrinsic i xs
    Done (Integer x)
  value f (Paren e) = value f e
  value f (Plus e) = do
    x ← value f e
    or_fail Stuck (kept x)
  value f (Negative e) = do
    x ← value f e
    or_fail Stuck (negated x)
  value f (Not e) = do
    x ← value f e
    or_fail Stuck (denied x)
  value f (Binary op a b) = do
    x ← value f a
    y ← value f b
    operated op x y
  value f NoTerm = Fail Stuck

  pub values : Frame → Terms → Act (List Value)
  values f End = Done []
  values f (e and es) = do
    x ← value f e
    xs ← values f es
    Done (x ∷ xs)

  -- from the left: a variable, an array and an element stand for themselves, everything else is evaluated into a fresh cell
  pub actuals : Frame → (site position : ℕ) → Terms → Act (List Interval)
  actuals f s j End = Done []
  actuals f s j (Variable ty b and es) = do
    ds ← actuals f s (suc j) es
    Done (interval f b 1 ∷ ds)
  actuals f s j (Whole a and es) = do
    ds ← actuals f s (suc j) es
    Done (sequence f a ∷ ds)
  actuals f s j (Element ty a subscripts and es) = do
    is ← values f subscripts
    k ← element f a is
    ds ← actuals f s (suc j) es
    Done (rest (sequence f a) k ∷ ds)
  actuals f s j (e and es) = do
    x ← value f e
    store (at (fresh f s j) 0) x
    ds ← actuals f s (suc j) es
    Done (fresh f s j ∷ ds)
