-- Units and programs run alike.
use Rattle.std.proofs.Common.{◌≡◌, ℕ, zero, suc, List, [], ◌∷◌, None, Bool, true, false, cond, not, ◌||◌, refl, sym, ap, ◌∙◌, subst}
use Rattle.run_model.specs.Storage.{Loc, Interval, area_eq}
use Rattle.run_model.specs.Acts.{World, Outcome, Fine, Stop, then_do, Handler, play}
use Rattle.run_model.specs.Turns.{run_from}
use Rattle.f77_semantics.specs.Program.{DummyArray, Routine}
use Rattle.f77_semantics.specs.Expressions.{Frame, only_first}
use Rattle.f77_semantics.specs.Statements.{Here, turn}
use Rattle.f77_semantics.specs.Units.{entry, is_cleared, cleared, is_array, associated, entered, beginning, run_unit, at_sites, meaning, callee}
use Rattle.fresh_laws.specs.Fresh.{is_fresh, is_passed, matters, Locations, Within, Agree, Alike, FreshCellsAreFresh, FreshWithin}
use Rattle.fresh_laws.proofs.Sees.{With, forget, play_alike, from_alike}
use Rattle.fresh_laws.proofs.Terms.{Knows, firm}
use Rattle.fresh_laws.proofs.Turns.{HasActuals, turn_sees, entry_sees}

-- what was passed stays in its areas at an entry
associated_same : (as_ : List DummyArray) (j : ℕ) (ds : List Interval) (l : Loc) → is_passed (associated as_ j ds) l ≡ is_passed ds l
associated_same as_ j [] l = refl
associated_same as_ j (d ∷ ds) l = go (is_array as_ j) ∙ ap (λ b. area_eq d.area l.area || b) (associated_same as_ (suc j) ds l)
  where
    go : (b : Bool) → (area_eq ((cond b d (only_first d)).area) l.area || is_passed (associated as_ (suc j) ds) l) ≡ (area_eq d.area l.area || is_passed (associated as_ (suc j) ds) l)
    go true = refl
    go false = refl

entered_knows : (u : Routine) (ds : List Interval) (P : Locations) → Within (matters ds) P → Knows (entered u ds) P
entered_knows u ds P sub l e = sub l (sym (ap (λ b. not (is_fresh l) || b) (associated_same u.dummy_arrays 0 ds l)) ∙ e)

cleared_agree : (u : Routine) (P : Locations) (v w : World) → Agree P v w → Agree P (cleared u v) (cleared u w)
cleared_agree u P v w a = record { cells = λ l e. go l e (is_cleared u l.area l.offset); out = a.out; input = a.input; left = a.left }
  where
    go : (l : Loc) → P l ≡ true → (b : Bool) → cond b None (v.cells l) ≡ cond b None (w.cells l)
    go l e true = refl
    go l e false = a.cells l e

module _ (h : Handler) (hs : (s : ℕ) (ds : List Interval) (P : Locations) → Within (matters ds) P → (v w : World) → Agree P v w → Alike P (h s ds v) (h s ds w)) where
  turns_so : (u : Routine) (f : Frame) (s : Here) (P : Locations) → Knows f P → (v w : World) → Agree P v w → Alike P (run_from h (turn u f) s v) (run_from h (turn u f) s w)
  turns_so u f s P own v w a = forget (λ r. Unit {0}) P (run_from h (turn u f) s v) (run_from h (turn u f) s w) (from_alike h hs P (firm f P own) (turn u f) (turn_sees f u P own) s v w a)

  unit_alike : (u : Routine) (ds : List Interval) (P : Locations) → Within (matters ds) P → (v w : World) → Agree P v w → Alike P (run_unit h u ds v) (run_unit h u ds w)
  unit_alike u ds P sub v w a = go (play h (entry (entered u ds) u.dummy_arrays) (cleared u v)) (play h (entry (entered u ds) u.dummy_arrays) (cleared u w))
      (play_alike h hs (λ g. g.actuals ≡ (entered u ds).actuals) (HasActuals (entered u ds).actuals) P P (λ l e. e) (firm (entered u ds) P (entered_knows u ds P sub)) (λ P' g q. q) (entry (entered u ds) u.dummy_arrays) (entry_sees u.dummy_arrays (entered u ds) P (entered_knows u ds P sub)) (cleared u v) (cleared u w) (cleared_agree u P v w a))
    where
      go : (o o' : Outcome Frame) → With (λ g. g.actuals ≡ (entered u ds).actuals) P o o' → Alike P (then_do o (λ f w1. run_from h (turn u f) (beginning u) w1)) (then_do o' (λ f w1. run_from h (turn u f) (beginning u) w1))
      go (Fine f v) (Fine g w) b = subst (λ g. Alike P (run_from h (turn u f) (beginning u) v) (run_from h (turn u g) (beginning u) w)) b.0 (turns_so u f (beginning u) P (λ l e. entered_knows u ds P sub l (sym (ap (λ is. not (is_fresh l) || is_passed is l) b.2) ∙ e)) v w b.1)
      go (Stop r v) (Stop s w) b = b
      go (Fine f v) (Stop s w) b = absurd b
      go (Stop r v) (Fine g w) b = absurd b

pub are_fresh : FreshCellsAreFresh
are_fresh units zero q ds P sub v w a = (refl, a)
are_fresh units (suc d) q ds P sub v w a = unit_alike (at_sites (units q) (meaning units d)) (λ s ds P sub v w a. are_fresh units d (callee (units q) s) ds P sub v w a) (units q) ds P sub v w a

pub fresh_within : FreshWithin
fresh_within units d q f s P sub v w a = turns_so (at_sites (units q) (meaning units d)) (λ s ds P sub v w a. are_fresh units d (callee (units q) s) ds P sub v w a) (units q) f s P sub v w a
