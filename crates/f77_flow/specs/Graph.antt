-- Where control goes from each place of a unit (ANSI X3.9-1978, 11).
use Rattle.std.specs.Prelude.{ℕ, zero, suc, List, [], ◌∷◌, ◌++◌, None, Some, map, slice_get, length, nat_lt, Bool, if◌then◌else◌, ◌==◌, ◌&&◌}
use Rattle.f77_tree.specs.declared.form.Form.{Form, out-Form}
use Rattle.f77_tree.specs.declared.form.Form.TheOpen.{Form-F}
use Rattle.f77_tree.specs.declared.unit.Stmt.{Stmt}
use Rattle.f77_flow.specs.Labels.{target, last_of, has_range}
use Rattle.f77_flow.specs.Blocks.{below, otherwise}

-- places at which a step of a run begins
pub data Point : Type 0 where
  At : (k : ℕ) → Point  -- statement k
  Inside : (k : ℕ) → Point  -- the statement of the logical IF at k, which is true
  Test : (d : ℕ) → Point  -- the first test of the DO at d
  Advance : (d : ℕ) → Point  -- the advance of the DO at d, and its test

-- k is the last statement of the DO at d
abbrev pub ends_at : List Stmt → ℕ → ℕ → Bool
ends_at u k d = last_of u d == k && nat_lt k (length u)

-- of the first m statements the DOs that end at k, the innermost first
abbrev pub ending_in : List Stmt → ℕ → ℕ → List ℕ
ending_in u k zero = []
ending_in u k (suc d) = if ends_at u k d then d ∷ ending_in u k d else ending_in u k d

-- the DOs that end at k
abbrev pub ending : List Stmt → ℕ → List ℕ
ending u k = ending_in u k (length u)

-- the DOs around the one at d that end where it does
abbrev pub around : List Stmt → ℕ → List ℕ
around u d = ending_in u (last_of u d) d

-- the advance of the first of these DOs, or what stands below statement k
abbrev pub advance_or : List Stmt → List ℕ → ℕ → Point
advance_or u [] k = At (below u k)
advance_or u (d ∷ ds) k = Advance d

-- what follows statement k where it doesn't jump
abbrev pub after : List Stmt → ℕ → Point
after u k = advance_or u (ending u k) k

-- what follows where the DO at d is left
abbrev pub leaving : List Stmt → ℕ → Point
leaving u d = advance_or u (around u d) (last_of u d)

-- a test goes into the range or leaves the DO
abbrev pub tested : List Stmt → ℕ → List Point
tested u d = if has_range u d then At (below u d) ∷ leaving u d ∷ [] else []

-- what may follow a statement that may stand in a logical IF
abbrev pub simple_ways : List Stmt → ℕ → Form-F Form → List Point
simple_ways u k (Form-F.Assign to value) = after u k ∷ []
simple_ways u k (Form-F.ArithmeticIf value minus null plus) = At (target u minus) ∷ At (target u null) ∷ At (target u plus) ∷ []
simple_ways u k (Form-F.GoTo label) = At (target u label) ∷ []
simple_ways u k (Form-F.ComputedGoTo labels index) = map (λ label. At (target u label)) labels ++ after u k ∷ []
simple_ways u k Form-F.Continue = after u k ∷ []
simple_ways u k (Form-F.Call name actuals) = after u k ∷ []
simple_ways u k (Form-F.Print items) = after u k ∷ []
simple_ways u k (Form-F.Read targets) = after u k ∷ []
simple_ways u k _ = []

-- what may follow statement k. Nothing follows RETURN, STOP and END. ELSE and what isn't executable are no places of a run.
abbrev pub ways : List Stmt → ℕ → Form-F Form → List Point
ways u k (Form-F.BlockIf test) = At (below u k) ∷ At (otherwise u k) ∷ []
ways u k (Form-F.ElseIf test) = At (below u k) ∷ At (otherwise u k) ∷ []
ways u k Form-F.EndIf = after u k ∷ []
ways u k (Form-F.LogicalIf test inner) = Inside k ∷ after u k ∷ []
ways u k (Form-F.Do label name from to step) = Test k ∷ []
ways u k form = simple_ways u k form

abbrev pub inner_ways : List Stmt → ℕ → Form-F Form → List Point
inner_ways u k (Form-F.LogicalIf test inner) = simple_ways u k (out-Form inner)
inner_ways u k _ = []

-- the points that may follow a point
abbrev pub follow : List Stmt → Point → List Point
follow u (At k) = elim (slice_get u k) [ None ↦ [] | Some s ↦ ways u k (out-Form s.form) ]
follow u (Inside k) = elim (slice_get u k) [ None ↦ [] | Some s ↦ inner_ways u k (out-Form s.form) ]
follow u (Test d) = tested u d
follow u (Advance d) = tested u d
