-- Runs of an accepted program stay in its areas.
use Rattle.std.proofs.Common.{◌≡◌, ℕ, zero, suc, Bool, true, false, cond, Option, Some, None, List, [], ◌∷◌, map, length, slice_get, refl, sym, ap, ◌∙◌, subst}
use Rattle.run_model.specs.Storage.{Interval}
use Rattle.run_model.specs.Acts.{World, Act, Handler, play}
use Rattle.f77_semantics.specs.Expressions.{Frame}
use Rattle.f77_tree.specs.declared.unit.Unit.{Unit as SourceUnit}
use Rattle.f77_values.proofs.SameNames.{same_name}
use Rattle.f77_values.specs.Tables.{Name, name_eq}
use Rattle.f77_semantics.specs.Statements.{turn}
use Rattle.f77_semantics.specs.Units.{Program, entry, cleared, entered, beginning, at_sites, meaning, callee, named, fresh_world}
use Rattle.f77_semantics.specs.Effects.{UnitOk}
use Rattle.f77_semantics.specs.Source.{routine}
use Rattle.sound_units.specs.Units.{effects}
use Rattle.sound_units.proofs.Naming.{Spot, spot}
use Rattle.sound_units.proofs.Programs.{sound_unit}
use Rattle.store_laws.proofs.Told.{name_self}
use Rattle.area_laws.specs.Areas.{unit_named, InArea, Inside}
use Rattle.area_laws.specs.Touches.{Every, UnitTouches, RunTouches, TurnsTouch}
use Rattle.area_laws.specs.Laws.{IsProgram, RunsStayInAreas}
use Rattle.area_laws.proofs.Stays.{Stays, plays, results, turns_stay, behind_weaker}
use Rattle.area_laws.proofs.Bases.{RoutineIn}
use Rattle.area_laws.proofs.Terms.{FrameIn}
use Rattle.area_laws.proofs.Turns.{turn_stays, entry_stays, entered_in}
use Rattle.area_laws.proofs.Limits.{local_counted, block_counted}
use Rattle.area_laws.proofs.Slots.{meant_fits}
use Rattle.area_laws.proofs.Texts.{routine_in}

-- The unit of a name is the only one that has it.
only_named : (us : List SourceUnit) (k : ℕ) (u : SourceUnit) → slice_get us k ≡ Some u → ((j : ℕ) (v : SourceUnit) → slice_get us j ≡ Some v → v.name ≡ u.name → j ≡ k) → unit_named us u.name ≡ Some u
only_named [] k u s only = cc
only_named (v ∷ us) zero u s only =
    let same : v.name ≡ u.name = ap (λ (o : Option SourceUnit). elim o [ None ↦ [] | Some x ↦ x.name ]) s in
    ap (λ b. cond b (Some v) (unit_named us u.name)) (ap (λ n. name_eq n u.name) same ∙ name_self u.name) ∙ s
only_named (v ∷ us) (suc k) u s only = go (name_eq v.name u.name) refl (only_named us k u s (λ j w t e. down (only (suc j) w t e)))
  where
    down : {j k : ℕ} → suc j ≡ suc k → j ≡ k
    down e = cc

    clash : {A : Type 0} {k : ℕ} → 0 ≡ suc k → A
    clash e = cc

    go : (b : Bool) → name_eq v.name u.name ≡ b → unit_named us u.name ≡ Some u → cond b (Some v) (unit_named us u.name) ≡ Some u
    go true t rest = clash (only 0 v refl (same_name v.name u.name t))
    go false t rest = rest

module _ (units : List SourceUnit) (main : SourceUnit) (x : IsProgram units main) where
  abbrev program : Program
  program = named (map routine units) (routine main)

  module _ (k : ℕ) (u : SourceUnit) (stands : slice_get units k ≡ Some u) where
    pub known : unit_named units u.name ≡ Some u
    known = only_named units k u stands (λ j v s e. x.differ j k v u s stands e)

    unit_ok : UnitOk (routine u) (effects u)
    unit_ok = sound_unit units x.good x.differ x.accepted k u stands

    text_in : RoutineIn units u (routine u)
    text_in = routine_in units u (meant_fits units k u stands (x.good k u stands).sound (x.good k u stands).text (local_counted units x.accepted k u stands) (block_counted units x.accepted))

    unit_touches : (h : Handler) (C : ℕ → List Interval → World → Type 0) → ((s : ℕ) (ds : List Interval) (w : World) → Every (Inside units) ds → C s ds w) → (ds : List Interval) → Every (Inside units) ds → (w : World) → UnitTouches (InArea units) (Inside units) h C (routine u) ds w
    unit_touches h C calls ds i w = (
      plays (InArea units) (Inside units) h C calls (FrameIn units u known) enter enter_stays (cleared (routine u) w),
      behind_weaker (InArea units) (Inside units) (λ f v. FrameIn units u known f) (λ f w1. TurnsTouch (InArea units) (Inside units) h C (turn (routine u) f) (suc w1.left) (beginning (routine u)) w1) (play h enter (cleared (routine u) w))
          (results (InArea units) (Inside units) h (FrameIn units u known) enter enter_stays (cleared (routine u) w))
          (λ f v fi. turns_stay (InArea units) (Inside units) h C calls (turn (routine u) f) (λ s. turn_stays units u known f fi (routine u) text_in unit_ok s) (suc v.left) (beginning (routine u)) v),
    )
      where
        enter : Act Frame
        enter = entry (entered (routine u) ds) (routine u).dummy_arrays

        enter_stays : Stays (InArea units) (Inside units) (FrameIn units u known) enter
        enter_stays = entry_stays units u known (routine u).dummy_arrays (entered (routine u) ds) (entered_in units u known ds i) unit_ok.entry text_in.arrays

  run_touches : (d : ℕ) (q : Name) (ds : List Interval) → Every (Inside units) ds → (w : World) → RunTouches (InArea units) (Inside units) program d q ds w
  run_touches zero q ds i w = tt
  run_touches (suc d) q ds i w =
      let y : Spot units main q = spot units main x.is_main x.differ q in
      subst (λ R. UnitTouches (InArea units) (Inside units) (at_sites (program q) (meaning program d)) (λ s es v. RunTouches (InArea units) (Inside units) program d (callee (program q) s) es v) R ds w) (sym y.named_is)
      (unit_touches y.place y.unit y.stands (at_sites (program q) (meaning program d)) (λ s es v. RunTouches (InArea units) (Inside units) program d (callee (program q) s) es v) (λ s es v j. run_touches d (callee (program q) s) es j v) ds i w)

pub runs_stay : RunsStayInAreas
runs_stay units main x input n = run_touches units main x (length (map routine units)) main.name [] tt (fresh_world (map routine units) input n)
