-- Entries: what is associated, what is made undefined, and the bounds of dummy arrays.
use Rattle.std.proofs.Common.{◌≡◌, ℕ, suc, List, [], ◌∷◌, Bool, if◌then◌else◌, map, refl, sym, ap, ◌∙◌}
use Rattle.run_model.specs.Storage.{Interval}
use Rattle.run_model.specs.Acts.{World, then_do, Act, Done, and_then, Handler, play}
use Rattle.run_model.specs.Turns.{run_from}
use Rattle.interp_cells.specs.Rows.{is_marked}
use Rattle.f77_semantics.specs.Program.{DummyArray, Routine}
use Rattle.f77_semantics.specs.declared.storage.Extent.{Extent}
use Rattle.f77_semantics.specs.Expressions.{Frame, only_first}
use Rattle.f77_semantics.specs.Statements.{turn}
use Rattle.f77_semantics.specs.Units.{with_shape, entry, is_array, associated, entered, beginning, cleared, run_unit}
use Rattle.interp_code.specs.Entries.{bounds_code, shaped}
use Rattle.interp_code.specs.Steps.{steps}
use Rattle.interp_code.proofs.Acts.{assoc, later}
use Rattle.interp_code.proofs.Entries.{dimensions_do}
use Rattle.interp_lower.specs.Routines.{dummy_as}
use Rattle.interp_calls.specs.Behind.{behind}
use Rattle.interp_calls.specs.Entries.{long, fixed, entry_by, associated_by}

pub entry_is : (f : Frame) (as_ : List DummyArray) → entry f as_ ≡ entry_by f (map dummy_as as_)
entry_is f [] = refl
entry_is f (a ∷ as_) =
    let n = long f a.dummy in
    ap (λ (act : Act (List Extent)). and_then act (λ es. entry (with_shape a.dummy es f) as_)) (dimensions_do f n a.bounds)
    ∙ (assoc (steps f (bounds_code a.bounds) []) (shaped n) (λ es. entry (with_shape a.dummy es f) as_)
    ∙ later (steps f (bounds_code a.bounds) []) (λ s. and_then (shaped n s) (λ es. entry (with_shape a.dummy es f) as_)) (λ s. and_then (fixed f a.dummy s) (λ g. entry_by g (map dummy_as as_)))
    (λ s. later (shaped n s) (λ es. entry (with_shape a.dummy es f) as_) (λ es. entry_by (with_shape a.dummy es f) (map dummy_as as_)) (λ es. entry_is (with_shape a.dummy es f) as_)
    ∙ sym (assoc (shaped n s) (λ es. Done (with_shape a.dummy es f)) (λ g. entry_by g (map dummy_as as_)))))

pub associated_is : (as_ : List DummyArray) (marks : List Bool) → ((j : ℕ) → is_marked marks j ≡ is_array as_ j) → (j : ℕ) (is : List Interval) → associated_by marks j is ≡ associated as_ j is
associated_is as_ marks e j [] = refl
associated_is as_ marks e j (i ∷ is) = λ t. (if e j t then i else only_first i) ∷ associated_is as_ marks e (suc j) is t

-- a unit's run from its entry on
pub enters : (h : Handler) (u : Routine) (ds : List Interval) (w w1 : World) (f : Frame) → f ≡ entered u ds → w1 ≡ cleared u w → (sent : List ℕ) → run_unit h u ds (behind sent w) ≡ then_do (play h (entry f u.dummy_arrays) (behind sent w1)) (λ f v. run_from h (turn u f) (beginning u) v)
enters h u ds w w1 f start clean sent = λ i. then_do (play h (entry (sym start i) u.dummy_arrays) (behind sent (sym clean i))) (λ f v. run_from h (turn u f) (beginning u) v)
