-- The flags of statements, gone through from the first on.
use Rattle.std.proofs.Common.{◌≡◌, ℕ, ◌+◌, ◌<◌, ◌≤◌, Bool, true, false, List, length, Some, None, slice_get, refl, sym, ◌∙◌, ap, ◌⊎◌, inl, inr, arith}
use Rattle.std.proofs.lemmas.Option.{slice_get_within}
use Rattle.std.specs.Bool.{MatchBool}
use Rattle.std.specs.declared.option.Option.{Option}
use Rattle.f77_tree.specs.declared.unit.Stmt.{Stmt}
use Rattle.fault_marks.specs.declared.marks.Mark.{Mark}
use Rattle.fault_marks.specs.Earliest.{first_of, mark_if, Earliest}
use Rattle.fault_marks.specs.Places.{Flagged, FlaggedBefore, Marks, flag_of}
use Rattle.fault_marks.proofs.Firsts.{mapped, either, marked}
use Rattle.fault_marks.proofs.Deciding.{shows_same}

pub none_before : (statements : List Stmt) (flags : List Bool) (number limit : ℕ) → Earliest (FlaggedBefore statements flags number limit 0) None
none_before statements flags number limit m h = absurd (omega (arith, h.holds.0))

flag_is : (x : Option Bool) → MatchBool (flag_of x) (x ≡ Some true) (x ≡ Some true → ⊥)
flag_is None = λ e. cc
flag_is (Some true) = refl
flag_is (Some false) = λ e. cc

split : (k n : ℕ) → k < n + 1 → (k < n) ⊎ (k ≡ n)
split k n l = grind arith

pub one_more : (statements : List Stmt) (flags : List Bool) (number limit n : ℕ) (s : Stmt) (found : Option Mark) → slice_get statements n ≡ Some s → Earliest (FlaggedBefore statements flags number limit n) found
    → Earliest (FlaggedBefore statements flags number limit (n + 1)) (first_of found (mark_if (flag_of (slice_get flags n)) s.line number limit))
one_more statements flags number limit n s found stands h =
    mapped _ (FlaggedBefore statements flags number limit (n + 1)) _ to from
    (either (FlaggedBefore statements flags number limit n) (Marks (slice_get flags n ≡ Some true) s.line number limit) found _ h
    (marked (slice_get flags n ≡ Some true) (flag_of (slice_get flags n)) s.line number limit (flag_is (slice_get flags n))))
  where
    to : (m : Mark) → FlaggedBefore statements flags number limit n m ⊎ Marks (slice_get flags n ≡ Some true) s.line number limit m → FlaggedBefore statements flags number limit (n + 1) m
    to m (inl a) = shows_same statements _ _ number limit (λ k t is b. (omega (arith, b.0), b.1)) m a
    to m (inr b) = record { place = n; statement = s; stands = stands; holds = (omega arith, b.holds); line_is = b.line_is; number_is = b.number_is; limit_is = b.limit_is }

    at : (m : Mark) (a : FlaggedBefore statements flags number limit (n + 1) m) → (a.place < n) ⊎ (a.place ≡ n) → FlaggedBefore statements flags number limit n m ⊎ Marks (slice_get flags n ≡ Some true) s.line number limit m
    at m a (inl l) = inl (record { place = a.place; statement = a.statement; stands = a.stands; holds = (l, a.holds.1); line_is = a.line_is; number_is = a.number_is; limit_is = a.limit_is })
    at m a (inr e) =
        let same : Some a.statement ≡ Some s = sym a.stands ∙ (ap (slice_get statements) e ∙ stands) in
        inr (record { holds = ap (slice_get flags) (sym e) ∙ a.holds.1; line_is = a.line_is ∙ line a.statement s same; number_is = a.number_is; limit_is = a.limit_is })
      where
        line : (x y : Stmt) → Some x ≡ Some y → x.line ≡ y.line
        line x y e = cc

    from : (m : Mark) → FlaggedBefore statements flags number limit (n + 1) m → FlaggedBefore statements flags number limit n m ⊎ Marks (slice_get flags n ≡ Some true) s.line number limit m
    from m a = at m a (split a.place n a.holds.0)

pub all_before : (statements : List Stmt) (flags : List Bool) (number limit n : ℕ) (found : Option Mark) → length statements ≤ n → Earliest (FlaggedBefore statements flags number limit n) found → Earliest (Flagged statements flags number limit) found
all_before statements flags number limit n found l h =
    mapped (FlaggedBefore statements flags number limit n) (Flagged statements flags number limit) found
    (shows_same statements _ _ number limit (λ k s is b. b.1))
    (shows_same statements _ _ number limit (λ k s is b. (omega (arith, l, slice_get_within statements k s is), b)))
    h
