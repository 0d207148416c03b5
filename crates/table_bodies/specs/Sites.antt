-- What the sites of a table's bodies call.
use Rattle.std.specs.Prelude.{ℕ, List, [], ◌∷◌, Some, None, pos, nat_eq, length, if◌then◌else◌}
use Rattle.run_model.specs.Storage.{Integer, Logical, Loc, Interval}
use Rattle.run_model.specs.Acts.{Act, Done, Get, Put, Fail, Ended, Stuck, ◌>>=◌, Answer, Handler, play, no_calls}

abbrev pub first : List Interval → Act Loc
first [] = Fail Stuck
first (i ∷ is) = Done (record { area = i.area; offset = i.from })

-- the value of the first
abbrev pub seen : List Interval → Act Answer
seen ds = do
  l ← first ds
  Get l (λ x. Done (Some x))

-- the first is made 9
abbrev pub changed : List Interval → Act Answer
changed ds = do
  l ← first ds
  Put l (Integer (pos 9)) (Done None)

abbrev pub called : ℕ → List Interval → Act Answer
called site ds = if nat_eq site 1 then Done (Some (Logical (nat_eq (length ds) 2))) else if nat_eq site 2 then seen ds else if nat_eq site 3 then changed ds else Fail (Ended 5)

abbrev pub handler : Handler
handler site ds w = play no_calls (called site ds) w
