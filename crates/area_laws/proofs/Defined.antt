-- What DATA gives lies in the areas of the program, and so does all that has a value later.
use Rattle.std.proofs.Common.{◌≡◌, ℕ, zero, suc, ◌+◌, ◌<◌, ◌≤◌, Bool, true, false, cond, Option, Some, None, List, [], ◌∷◌, ℤ, map, flat_map, zip, length, slice_get, refl, subst, arith}
use Rattle.std.specs.List.{range_with_len}
use Rattle.run_model.specs.Storage.{Value as Cell, Loc, loc_eq}
use Rattle.f77_tree.specs.declared.expr.Expr.{Expr, out-Expr}
use Rattle.f77_tree.specs.declared.expr.Expr.TheOpen.{Expr-F}
use Rattle.f77_tree.specs.declared.form.DataConst.{DataConst}
use Rattle.f77_tree.specs.declared.form.Form.{Form, out-Form}
use Rattle.f77_tree.specs.declared.form.Form.TheOpen.{Form-F}
use Rattle.f77_tree.specs.declared.unit.Stmt.{Stmt}
use Rattle.f77_tree.specs.declared.unit.Unit.{Unit as SourceUnit}
use Rattle.f77_tree.specs.declared.unit.Value.{Value}
use Rattle.f77_values.specs.Tables.{Name, Told}
use Rattle.f77_names.specs.Roles.{facts}
use Rattle.f77_semantics.specs.Values.{stored}
use Rattle.f77_semantics.specs.declared.storage.Base.{Base}
use Rattle.f77_semantics.specs.declared.storage.Base.TheVariants.{Dummy, Own, Common}
use Rattle.f77_semantics.specs.declared.storage.Extent.{Extent}
use Rattle.f77_semantics.specs.declared.storage.Bounds.{Bounds}
use Rattle.f77_semantics.specs.declared.storage.Bounds.TheVariants.{Known, AtEntry}
use Rattle.f77_semantics.specs.Expressions.{Frame, scalar, numbered}
use Rattle.f77_semantics.specs.Units.{total, entered, given_in, given}
use Rattle.f77_semantics.specs.Terms.{Meant, Constant, Variable, AnArray, Function, AnIntrinsic, Unknown}
use Rattle.f77_semantics.specs.Data.{beyond, number_of, bare_units, unit_at, element_in, element_units, item_units, constants_of, given_by, form_gives, initial}
use Rattle.f77_semantics.specs.Source.{routine}
use Rattle.sound_units.specs.Units.{meant_of}
use Rattle.area_laws.specs.Areas.{unit_named, InArea, Inside, OneOf}
use Rattle.area_laws.specs.Laws.{IsProgram, ValuesLieInAreas, program_of, start}
use Rattle.area_laws.proofs.Bases.{BaseIn}
use Rattle.area_laws.proofs.Terms as terms
use Rattle.area_laws.proofs.Terms.{FrameIn}
use Rattle.area_laws.proofs.Turns.{entered_in}
use Rattle.area_laws.proofs.Limits.{local_counted, block_counted}
use Rattle.area_laws.proofs.Texts.{MeantIn}
use Rattle.area_laws.proofs.Slots.{meant_fits, SizedIn, Sized, meant_sized}
use Rattle.area_laws.proofs.Programs.{known, runs_stay}
use Rattle.area_laws.proofs.Keeping.{loc_same, CellsIn, run_keeps}
use Rattle.store_laws.proofs.Lists.{Each, each_flat}

module _ (units : List SourceUnit) (u : SourceUnit) (is : unit_named units u.name ≡ Some u) (fits : (name : Name) → MeantIn units u (meant_of u name)) (sizes : (name : Name) → SizedIn (meant_of u name)) where
  abbrev idle : Frame
  idle = entered (routine u) []

  idle_in : FrameIn units u is idle
  idle_in = entered_in units u is [] tt

  abbrev IsUnit : Base → Type 0
  IsUnit b = BaseIn units u b 1

  beyond_in : (b : Base) (n k : ℕ) → BaseIn units u b n → k < n → IsUnit (beyond b k)
  beyond_in (Dummy j) n k h lt = tt
  beyond_in (Own from) n k h lt = let w = h.1 in (omega arith, omega (arith, w, lt))
  beyond_in (Common b from) n k h lt = let w = h.1 in (omega arith, omega (arith, w, lt))

  all_units : (b : Base) (n : ℕ) → BaseIn units u b n → (a m : ℕ) → a + m ≤ n → Each IsUnit (map (beyond b) (range_with_len a m))
  all_units b n h a zero le = tt
  all_units b n h a (suc m) le = (beyond_in b n a h (omega (arith, le)), all_units b n h (a + 1) m (omega (arith, le)))

  -- constant subscripts in their bounds name a unit of the array
  below : (es : List Extent) (ns : List ℤ) (k : ℕ) → numbered es ns ≡ Some k → k < total es
  below es ns k e = terms.number_below units u is idle idle_in (record { base = Own 0; length = total es; bounds = Known es }) (record { extents = es; are = refl; fits = omega arith }) ns k e

  bare_in : (m : Meant) → MeantIn units u m → Each IsUnit (bare_units m)
  bare_in (Constant v) h = tt
  bare_in (Variable ty b) h = (h, tt)
  bare_in (AnArray ty a) h = all_units a.base a.length h 0 a.length (omega arith)
  bare_in Function h = tt
  bare_in (AnIntrinsic i) h = tt
  bare_in Unknown h = tt

  element_is_in : (b : Base) (n : ℕ) (bounds : Bounds) (ns : List ℤ) → BaseIn units u b n → Sized bounds n → Each IsUnit (element_in b bounds ns)
  element_is_in b n (Known es) ns h s = go (numbered es ns) refl
    where
      go : (o : Option ℕ) → numbered es ns ≡ o → Each IsUnit (unit_at b o)
      go None e = tt
      go (Some k) e = let l = below es ns k e in (beyond_in b n k h (omega (arith, l, s)), tt)
  element_is_in b n (AtEntry k) ns h s = tt

  element_units_in : (m : Meant) → MeantIn units u m → SizedIn m → (ns : List ℤ) → Each IsUnit (element_units m ns)
  element_units_in (Constant v) h s ns = tt
  element_units_in (Variable ty b) h s ns = tt
  element_units_in (AnArray ty a) h s ns = element_is_in a.base a.length a.bounds ns h s
  element_units_in Function h s ns = tt
  element_units_in (AnIntrinsic i) h s ns = tt
  element_units_in Unknown h s ns = tt

  module _ (named : Told Value) where
    item_in : (F : Expr-F Expr) → Each IsUnit (item_units named (meant_of u) F)
    item_in (Expr-F.Scalar name) = bare_in (meant_of u name) (fits name)
    item_in (Expr-F.Apply name list) = element_units_in (meant_of u name) (fits name) (sizes name) (map (number_of named) list)
    item_in F = tt

    abbrev IsGiven : Base × Value → Type 0
    IsGiven c = IsUnit c.0

    zipped : (bs : List Base) (vs : List Value) → Each IsUnit bs → Each IsGiven (zip bs vs)
    zipped [] vs h = tt
    zipped (b ∷ bs) [] h = tt
    zipped (b ∷ bs) (v ∷ vs) h = (h.0, zipped bs vs h.1)

    run_in : (run : List Expr × List DataConst) → Each IsGiven (given_by named (meant_of u) run)
    run_in run = zipped (flat_map (λ e. item_units named (meant_of u) (out-Expr e)) run.0) (flat_map (constants_of named (meant_of u)) run.1) (each_flat IsUnit (λ e. item_units named (meant_of u) (out-Expr e)) (λ e. item_in (out-Expr e)) run.0)

    form_in : (F : Form-F Form) → Each IsGiven (form_gives named (meant_of u) F)
    form_in (Form-F.DataRuns runs) = each_flat IsGiven (given_by named (meant_of u)) run_in runs
    form_in F = tt

    initial_in : (ss : List Stmt) → Each IsGiven (initial named (meant_of u) ss)
    initial_in ss = each_flat IsGiven (λ (s : Stmt). form_gives named (meant_of u) (out-Form s.form)) (λ s. form_in (out-Form s.form)) ss

  given_lies : (l : Loc) (v : Value) (cs : List (Base × Value)) → Each (λ (c : Base × Value). IsUnit c.0) cs → given_in (routine u) l cs ≡ Some v → InArea units l
  given_lies l v [] h e = cc
  given_lies l v (c ∷ cs) h e = go (loc_eq (scalar idle c.0) l) refl e (given_lies l v cs h.1)
    where
      go : (b : Bool) → loc_eq (scalar idle c.0) l ≡ b → cond b (Some c.1) (given_in (routine u) l cs) ≡ Some v → (given_in (routine u) l cs ≡ Some v → InArea units l) → InArea units l
      go true t e rest = subst (InArea units) (loc_same (scalar idle c.0) l t) (terms.scalar_in units u is idle idle_in c.0 h.0)
      go false t e rest = rest e

  pub unit_gives : (l : Loc) (v : Value) → given_in (routine u) l (routine u).initial ≡ Some v → InArea units l
  unit_gives l v e = given_lies l v (routine u).initial (initial_in (facts u).constants u.statements) e

module _ (units : List SourceUnit) (main : SourceUnit) (x : IsProgram units main) where
  one_gives : (k : ℕ) (u : SourceUnit) → slice_get units k ≡ Some u → (l : Loc) (v : Value) → given_in (routine u) l (routine u).initial ≡ Some v → InArea units l
  one_gives k u s l v e =
      let good = x.good k u s in
      unit_gives units u (known units main x k u s) (meant_fits units k u s good.sound good.text (local_counted units x.accepted k u s) (block_counted units x.accepted))
      (meant_sized units k u s good.sound good.text (local_counted units x.accepted k u s) (block_counted units x.accepted)) l v e

  all_give : (us : List SourceUnit) → ((j : ℕ) (u : SourceUnit) → slice_get us j ≡ Some u → OneOf units u) → (l : Loc) (c : Cell) → given (map routine us) l ≡ Some c → InArea units l
  all_give [] among l c e = cc
  all_give (u ∷ us) among l c e = go (given_in (routine u) l (routine u).initial) refl e (all_give us (λ j v s. among (suc j) v s) l c)
    where
      go : (o : Option Value) → given_in (routine u) l (routine u).initial ≡ o → elim o [ None ↦ given (map routine us) l | Some v ↦ Some (stored v) ] ≡ Some c → (given (map routine us) l ≡ Some c → InArea units l) → InArea units l
      go None t e rest = rest e
      go (Some v) t e rest = let p = among 0 u refl in one_gives p.at u p.is l v t

  begins_in : CellsIn (InArea units) (Inside units) (given (map routine units))
  begins_in = all_give units (λ j u s. record { at = j; is = s })

pub values_lie : ValuesLieInAreas
values_lie units main x input n = run_keeps (InArea units) (Inside units) (program_of units main) (length (map routine units)) main.name [] (start units input n) (runs_stay units main x input n) (begins_in units main x)
