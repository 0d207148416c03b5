-- Passes over the statements of a unit that put down a flag for each.
use Rattle.std.proofs.Common.{◌≡◌, ℕ, ◌+◌, ◌<◌, Bool, true, false, List, ◌∷◌, ◌++◌, [], Option, Some, length, map, refl, sym, ap, subst, ◌∙◌, slice_get, get_or, arith}
use Rattle.std.specs.Bool.{MatchBool}
use Rattle.std.specs.List.{range_with_len}
use Rattle.std.specs.Option.{option_map}
use Rattle.std.proofs.lemmas.List.FromFn.{map-range_with_len_more, get_or-range_with_len, length-range_with_len}
use Rattle.std.proofs.lemmas.Option.{slice_get-map, slice_get-get_or, slice_get_within, slice_get_read}
use Rattle.f77_tree.specs.declared.unit.Stmt.{Stmt}
use Rattle.fault_marks.specs.declared.marks.Mark.{Mark}
use Rattle.fault_marks.specs.Earliest.{Earliest}
use Rattle.fault_marks.specs.Places.{ShowsAt, Flagged, Decides}
use Rattle.fault_marks.proofs.Deciding.{decided}
use Rattle.check_names.specs.Places.{where_stands}

pub pushed : (f : ℕ → Bool) (old new : List Bool) (b : Bool) (k : ℕ) → old ≡ map f (range_with_len 0 k) → b ≡ f k → new ≡ old ++ b ∷ [] → new ≡ map f (range_with_len 0 (k + 1))
pushed f old new b k o e h =
    h ∙ (ap (λ xs. xs ++ b ∷ []) o ∙ (ap (λ x. map f (range_with_len 0 k) ++ x ∷ []) e ∙ sym (map-range_with_len_more f 0 k k (omega arith))))

pub read : (all items : List Stmt) (k : ℕ) (s : Stmt) → items ≡ all → k < length items → s ≡ get_or items k s → slice_get all k ≡ Some s
read all items k s e l is = ap (λ xs. slice_get xs k) (sym e) ∙ slice_get_read items _ k s refl l is

tells : (b : Bool) → MatchBool b (b ≡ true) (b ≡ true → ⊥)
tells true = refl
tells false = λ e. cc

flag : (f : ℕ → Bool) (n k : ℕ) → k < n → slice_get (map f (range_with_len 0 n)) k ≡ Some (f k)
flag f n k l =
    slice_get-map f (range_with_len 0 n) k
    ∙ ap (option_map f) (slice_get-get_or (range_with_len 0 n) k 0 (omega (arith, length-range_with_len 0 n)) ∙ ap Some (get_or-range_with_len 0 n k 0 l ∙ omega arith))

-- A flag for each statement that is what a test says at its place decides where the test holds.
pub by_test : (statements slice : List Stmt) (f : ℕ → Bool) (flags bits : List Bool) (number limit : ℕ) (a : Option Mark) → slice ≡ statements → bits ≡ flags → flags ≡ map f (range_with_len 0 (length statements)) → Earliest (Flagged slice bits number limit) a → Earliest (ShowsAt statements (λ k. f k ≡ true) number limit) a
by_test statements slice f flags bits number limit a same equal e h =
    decided statements (λ k. f k ≡ true) flags number limit a decides
    (subst (λ xs. Earliest (Flagged xs flags number limit) a) same (subst (λ bs. Earliest (Flagged slice bs number limit) a) equal h))
  where
    decides : Decides statements (λ k. f k ≡ true) flags
    decides k s stands = (f k, ap (λ xs. slice_get xs k) e ∙ flag f (length statements) k (slice_get_within statements k s stands), tells (f k))

-- what a test says of the statement that stands there
pub here : (f : Stmt → Bool) (statements : List Stmt) (k : ℕ) (s : Stmt) (b : Bool) → slice_get statements k ≡ Some s → b ≡ f s → b ≡ where_stands false f (slice_get statements k)
here f statements k s b stands e = e ∙ ap (where_stands false f) (sym stands)
