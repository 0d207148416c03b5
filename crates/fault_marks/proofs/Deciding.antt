-- Conditions on statements, told by flags.
use Rattle.std.proofs.Common.{◌≡◌, ℕ, Bool, true, false, List, Some, slice_get, refl, subst}
use Rattle.std.specs.Bool.{MatchBool}
use Rattle.std.specs.declared.option.Option.{Option}
use Rattle.f77_tree.specs.declared.unit.Stmt.{Stmt}
use Rattle.fault_marks.specs.declared.marks.Mark.{Mark}
use Rattle.fault_marks.specs.Earliest.{Earliest}
use Rattle.fault_marks.specs.Places.{ShowsAt, Flagged, Decides}
use Rattle.fault_marks.proofs.Firsts.{mapped}

-- Two conditions that hold at the same statements show the same faults.
pub shows_same : (statements : List Stmt) (P Q : ℕ → Type 0) (number limit : ℕ) → ((k : ℕ) (s : Stmt) → slice_get statements k ≡ Some s → P k → Q k) → (m : Mark) → ShowsAt statements P number limit m → ShowsAt statements Q number limit m
shows_same statements P Q number limit to m h = record { place = h.place; statement = h.statement; stands = h.stands; holds = to h.place h.statement h.stands h.holds; line_is = h.line_is; number_is = h.number_is; limit_is = h.limit_is }

set : (H : Type 0) (b : Bool) → MatchBool b H (H → ⊥) → b ≡ true → H
set H true h e = h
set H false h e = cc

unset : (H : Type 0) (b : Bool) → MatchBool b H (H → ⊥) → H → b ≡ true
unset H true h x = refl
unset H false h x = absurd (h x)

some_same : (a b : Bool) (x : Option Bool) → x ≡ Some a → x ≡ Some b → a ≡ b
some_same a b x e f = cc

-- What flags decide has its first fault at the first flagged statement.
pub decided : (statements : List Stmt) (Holds : ℕ → Type 0) (flags : List Bool) (number limit : ℕ) (a : Option Mark) → Decides statements Holds flags → Earliest (Flagged statements flags number limit) a → Earliest (ShowsAt statements Holds number limit) a
decided statements Holds flags number limit a h = mapped (Flagged statements flags number limit) (ShowsAt statements Holds number limit) a
    (shows_same statements _ _ number limit to) (shows_same statements _ _ number limit from)
  where
    to : (k : ℕ) (s : Stmt) → slice_get statements k ≡ Some s → slice_get flags k ≡ Some true → Holds k
    to k s stands flag = let d = h k s stands in set (Holds k) d.0 d.2 (some_same d.0 true (slice_get flags k) d.1 flag)

    from : (k : ℕ) (s : Stmt) → slice_get statements k ≡ Some s → Holds k → slice_get flags k ≡ Some true
    from k s stands holds = let d = h k s stands in subst (λ b. slice_get flags k ≡ Some b) (unset (Holds k) d.0 d.2 holds) d.1
