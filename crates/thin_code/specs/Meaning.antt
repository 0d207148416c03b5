-- What a thin program does: its statements one after another, each of which is a step.
use Rattle.std.specs.Prelude.{ℕ, suc, List, [], ◌∷◌, ◌++◌, Option, Some, None, ℤ, ◌+ℤ◌, ◌-ℤ◌, slice_get}
use Rattle.std.specs.Int.{w64, int_wrap}
use Rattle.std.specs.Fmt.{signed_decimal}
use Rattle.run_model.specs.Storage.{Name, Value as Stored, Integer as Number, Logical, Loc}
use Rattle.run_model.specs.Acts.{World, Ended, Undefined, Stuck, Act, Done, Get, Put, Say, Fail, ◌>>=◌, ◌>>◌, no_calls}
use Rattle.run_model.specs.Turns.{After, Again, run_from}
use Rattle.run_model.specs.Runs.{Run, answer}
use Rattle.thin_form.specs.declared.statement.Term.{Term}
use Rattle.thin_form.specs.declared.statement.Term.TheVariants.{Variable, Integer}
use Rattle.thin_form.specs.declared.statement.Sign.{Sign}
use Rattle.thin_form.specs.declared.statement.Sign.TheVariants.{Plus, Minus}
use Rattle.thin_form.specs.declared.statement.Addend.{Addend}
use Rattle.thin_form.specs.declared.statement.Item.{Item}
use Rattle.thin_form.specs.declared.statement.Item.TheVariants.{Value, Text}
use Rattle.thin_form.specs.declared.statement.Statement.{Statement}
use Rattle.thin_form.specs.declared.statement.Statement.TheVariants.{Assign, Print, End}
use Rattle.thin_code.specs.Layout.{names_of, location_of}

-- A cell that holds no INTEGER is undefined to a name of type INTEGER.
abbrev pub as_integer : Stored → Act ℤ
as_integer (Number x) = Done x
as_integer (Logical b) = Fail (Undefined 1)

abbrev pub fetch : Loc → Act ℤ
fetch l = Get l as_integer

abbrev pub store : Loc → ℤ → Act (Unit {0})
store l x = Put l (Number x) (Done tt)

abbrev pub value : List Name → Term → Act ℤ
value names (Variable name) = fetch (location_of names name)
value names (Integer x) = Done x

-- arithmetic is that of 64 bits, and wraps
abbrev pub joined : Sign → ℤ → ℤ → ℤ
joined Plus x y = int_wrap w64 (x +ℤ y)
joined Minus x y = int_wrap w64 (x -ℤ y)

-- a sum from left to right
abbrev pub sum_from : List Name → ℤ → List Addend → Act ℤ
sum_from names x [] = Done x
sum_from names x (a ∷ more) = do
  y ← value names a.term
  sum_from names (joined a.sign x y) more

-- what is printed of an item: a blank and its text
abbrev pub printed : List Name → Item → Act (List ℕ)
printed names (Text bytes) = Done (32 ∷ bytes)
printed names (Value term) = do
  x ← value names term
  Done (32 ∷ signed_decimal x)

-- All items of a record are evaluated before any is printed.
abbrev pub all_printed : List Name → List Item → Act (List ℕ)
all_printed names [] = Done []
all_printed names (i ∷ items) = do
  first ← printed names i
  others ← all_printed names items
  Done (first ++ others)

-- a record without items is one blank
abbrev pub record_of : List Name → List Item → Act (List ℕ)
record_of names [] = Done (32 ∷ [])
record_of names (i ∷ items) = all_printed names (i ∷ items)

-- what statement number k does, and the number of the next one
abbrev pub perform : List Name → ℕ → Statement → Act (After ℕ)
perform names k (Assign target first more) = do
  x ← value names first
  y ← sum_from names x more
  store (location_of names target) y
  Done (Again (suc k))
perform names k (Print items) = do
  text ← record_of names items
  Say (text ++ 10 ∷ []) (Done (Again (suc k)))
perform names k End = Fail (Ended 0)

abbrev pub perform_at : List Name → ℕ → Option Statement → Act (After ℕ)
perform_at names k None = Fail Stuck
perform_at names k (Some s) = perform names k s

abbrev pub turn : List Statement → ℕ → Act (After ℕ)
turn body k = perform_at (names_of body) k (slice_get body k)

-- all cells are undefined, and nothing is printed
abbrev pub fresh : List ℤ → ℕ → World
fresh input n = record { cells = λ l. None; out = []; input = input; left = n }

-- The program's run, stopped just before step n + 1 would begin.
abbrev pub Source : List Statement → List ℤ → ℕ → Run
Source body input n = answer n (run_from no_calls (turn body) 0 (fresh input n))
