-- The search for the first cycle as functions of lists.
use Rattle.std.specs.Prelude.{ℕ, zero, suc, ◌≤◌, nat_lt, List, [], ◌∷◌, ◌++◌, Option, Some, None, Bool, true, false, ◌==◌, length, map, flat_map, fold, unwrap_or, slice_index_or, slice_set, if◌then◌else◌}
use Rattle.std.specs.List.{slice_get, list_any}
use Rattle.call_cycles.specs.declared.cycles.Edge.{Edge}
use Rattle.call_cycles.specs.declared.marks.ProgramMark.{ProgramMark}
use Rattle.prog_texts.specs.declared.mentions.Mention.{Mention}
use Rattle.call_cycles.specs.Cycles.{Rows, Calls, edge}
use Rattle.prog_texts.specs.Mentions.{site_of}
use Rattle.call_cycles.specs.Marks.{mark_at}
use Rattle.prog_texts.specs.Signatures.{Signatures}

-- ---- the sites of a text by their lines and where they lead

abbrev pub edges_of : Signatures → Mention → List Edge
edges_of all m = map (edge all) (site_of m)

abbrev pub row_of : Signatures → List Mention → List Edge
row_of all text = flat_map (edges_of all) text

-- ---- what a unit leads to: the units that were found, in their order, and a flag for each unit

pub record Search : Type 0 where
  pub seen : List Bool
  pub queue : List ℕ

abbrev pub search : List Bool → List ℕ → Search
search seen queue = record { seen = seen; queue = queue }

abbrev pub mark : Search → ℕ → Search
mark s x =
    if nat_lt x (length s.seen) then (if slice_index_or s.seen x true then s else record { seen = slice_set s.seen x true; queue = s.queue ++ x ∷ [] })
    else s

abbrev pub mark_target : Search → Option ℕ → Search
mark_target s None = s
mark_target s (Some x) = mark s x

abbrev pub visit : Search → Edge → Search
visit s e = mark_target s e.target

abbrev pub row_at : Rows → ℕ → List Edge
row_at all x = unwrap_or (slice_get all x) []

-- The next that was found is gone through, where there is one.
abbrev pub step : Rows → Search → Option ℕ → Search
step all s None = s
step all s (Some x) = fold visit s (row_at all x)

abbrev pub explore : Rows → ℕ → ℕ → Search → Search
explore all zero i s = s
explore all (suc turns) i s = explore all turns (suc i) (step all s (slice_get s.queue i))

-- no unit is found yet
abbrev pub blank : Rows → Search
blank all = record { seen = map (λ _. false) all; queue = [] }

abbrev pub led_to : Rows → ℕ → Search
led_to all start = explore all (length all) 0 (mark (blank all) start)

-- ---- edges turned around

-- The edge is put behind those of the unit, where there is one.
abbrev pub put_caller : Rows → Edge → Option ℕ → Rows
put_caller back e None = back
put_caller back e (Some to) = if nat_lt to (length back) then slice_set back to (slice_index_or back to [] ++ e ∷ []) else back

-- a site by its line and the place of the unit that it stands in
abbrev pub caller : ℕ → Edge → Edge
caller place e = record { line = e.line; target = Some place }

abbrev pub turn : ℕ → Rows → Edge → Rows
turn place back e = put_caller back (caller place e) e.target

abbrev pub turn_from : ℕ → Rows → Rows → Rows
turn_from place back [] = back
turn_from place back (row ∷ rows) = turn_from (suc place) (fold (turn place) back row) rows

-- for each unit the sites that call it
abbrev pub callers : Rows → Rows
callers all = turn_from 0 (map (λ _. []) all) all

-- ---- ranks

abbrev pub rank_at : List ℕ → ℕ → ℕ
rank_at ranks x = slice_index_or ranks x 0

abbrev pub is_above : List ℕ → ℕ → Option ℕ → Bool
is_above ranks rank None = false
is_above ranks rank (Some to) = nat_lt rank (rank_at ranks to)

abbrev pub leads_up : List ℕ → ℕ → Edge → Bool
leads_up ranks rank e = is_above ranks rank e.target

abbrev pub some_lead_up : List ℕ → ℕ → Rows → Bool
some_lead_up ranks place [] = false
some_lead_up ranks place (row ∷ rows) = if list_any (leads_up ranks (rank_at ranks place)) row then true else some_lead_up ranks (suc place) rows

abbrev pub is_level : List ℕ → ℕ → Option ℕ → Bool
is_level ranks rank None = false
is_level ranks rank (Some to) = rank_at ranks to == rank

abbrev pub stays_level : List ℕ → ℕ → Edge → Bool
stays_level ranks rank e = is_level ranks rank e.target

-- One of the sites leads to the unit's own rank.
abbrev pub may_cycle : List ℕ → ℕ → List Edge → Bool
may_cycle ranks place row = list_any (stays_level ranks (rank_at ranks place)) row

-- No site leads to a greater rank than its unit's.
pub record NoneLeadUp (all : Rows) (ranks : List ℕ) : Type 0 where
  pub falls : (from to : ℕ) → Calls all from to → rank_at ranks to ≤ rank_at ranks from

-- ---- the first cycle

abbrev pub is_seen : List Bool → Option ℕ → Bool
is_seen seen None = false
is_seen seen (Some x) = slice_index_or seen x false

-- the line of the first site that leads to a unit that was seen
abbrev pub first_line : List Bool → List Edge → Option ℕ
first_line seen [] = None
first_line seen (e ∷ row) = if is_seen seen e.target then Some e.line else first_line seen row

abbrev pub cycle_line : Rows → List ℕ → ℕ → List Edge → Option ℕ
cycle_line back ranks place row = if may_cycle ranks place row then first_line (led_to back place).seen row else None

abbrev pub cycle_or : ℕ → Option ℕ → Option ProgramMark → Option ProgramMark
cycle_or place None later = later
cycle_or place (Some line) later = Some (mark_at 34 0 (Some place) line)

-- the first unit that leads back to itself
abbrev pub first_cycle : Rows → List ℕ → ℕ → Rows → Option ProgramMark
first_cycle back ranks place [] = None
first_cycle back ranks place (row ∷ rows) = cycle_or place (cycle_line back ranks place row) (first_cycle back ranks (suc place) rows)
