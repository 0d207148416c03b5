-- What DATA gives, one behind the other.
use Rattle.std.proofs.Common.{◌≡◌, ℕ, ◌+◌, ◌-◌, ◌<◌, List, [], ◌∷◌, ◌++◌, None, Some, Bool, true, false, cond, flat_map, take, length, get_or, append-nil, refl, sym, ap, ◌∙◌, arith}
use Rattle.std.proofs.lemmas.List.{take_all, take_more}
use Rattle.std.proofs.lemmas.List.Concat.{flat_map-append}
use Rattle.std.proofs.lemmas.List.FromFn.{map-range_with_len_more}
use Rattle.run_model.specs.Storage.{Loc, loc_eq, Cells}
use Rattle.f77_tree.specs.declared.unit.Value.{Value}
use Rattle.f77_values.specs.Tables.{Name}
use Rattle.f77_semantics.specs.Values.{stored}
use Rattle.f77_semantics.specs.Program.{Routine}
use Rattle.f77_semantics.specs.declared.storage.Base.{Base}
use Rattle.f77_semantics.specs.Expressions.{scalar}
use Rattle.f77_semantics.specs.Data.{beyond}
use Rattle.f77_semantics.specs.Units.{given_in, given}
use Rattle.interp_data.specs.declared.spans.Span.{Span}
use Rattle.interp_data.specs.Spans.{given_from, units_of}
use Rattle.interp_calls.specs.declared.procedure.Procedure.{Procedure}
use Rattle.interp_calls.specs.Procedures.{AreUnits}
use Rattle.f77_meaning.specs.Given.{idle, given_over, given_by}

pub given_both : (name : Name) (cs ds : List (Base × Value)) (cells : Cells) → given_over name (cs ++ ds) cells ≡ given_over name cs (given_over name ds cells)
given_both name [] ds cells = refl
given_both name (c ∷ cs) ds cells = λ i l. cond (loc_eq (scalar (idle name) c.0) l) (Some (stored c.1)) (given_both name cs ds cells i l)

over_given : (u : Routine) (cs : List (Base × Value)) (cells : Cells) (l : Loc) → given_over u.name cs cells l ≡ elim (given_in u l cs) [ None ↦ cells l | Some v ↦ Some (stored v) ]
over_given u [] cells l = refl
over_given u (c ∷ cs) cells l = by_loc (over_given u cs cells l) (loc_eq (scalar (idle u.name) c.0) l)
  where
    by_loc : given_over u.name cs cells l ≡ elim (given_in u l cs) [ None ↦ cells l | Some v ↦ Some (stored v) ] → (b : Bool) → cond b (Some (stored c.1)) (given_over u.name cs cells l) ≡ elim (cond b (Some c.1) (given_in u l cs)) [ None ↦ cells l | Some v ↦ Some (stored v) ]
    by_loc rest true = refl
    by_loc rest false = rest

-- the cells of a program at its start
pub given_is : (find : Name → ℕ) (ps : List Procedure) (us : List Routine) → AreUnits find ps us → given_by ps (λ l. None) ≡ given us
given_is find [] [] are = refl
given_is find [] (u ∷ us) are = elim are [ ]
given_is find (p ∷ ps) [] are = elim are [ ]
given_is find (p ∷ ps) (u ∷ us) are =
    let stands = are.0.stands in
    (λ i. given_over (stands.name i) (stands.initial i) (given_is find ps us are.1 i))
    ∙ (λ i l. over_given u u.initial (given us) l i)

pub by_both : (ps qs : List Procedure) (cells : Cells) → given_by (ps ++ qs) cells ≡ given_by ps (given_by qs cells)
by_both [] qs cells = refl
by_both (p ∷ ps) qs cells = ap (given_over p.routine.name (flat_map units_of p.routine.cells.initial)) (by_both ps qs cells)

-- ---- from the last to the first

abbrev unit_at : Base → Value → ℕ → Base × Value
unit_at b v k = (beyond b k, v)

pub one_unit : (name : Name) (b : Base) (skip k : ℕ) (v : Value) (old new all : Cells) → 0 < k → new ≡ given_over name ((beyond b (skip + (k - 1)), v) ∷ []) old → given_over name (given_from b skip k v) old ≡ all → given_over name (given_from b skip (k - 1) v) new ≡ all
one_unit name b skip k v old new all p e given =
    let less : (k - 1) + 1 ≡ k = omega arith in
    ap (given_over name (given_from b skip (k - 1) v)) e
    ∙ (sym (given_both name (given_from b skip (k - 1) v) ((beyond b (skip + (k - 1)), v) ∷ []) old)
    ∙ (ap (λ (cs : List (Base × Value)). given_over name cs old) (sym (map-range_with_len_more (unit_at b v) skip (k - 1) (skip + (k - 1)) refl))
    ∙ (ap (λ (n : ℕ). given_over name (given_from b skip n v) old) less ∙ given)))

pub no_unit_left : (name : Name) (b : Base) (skip k : ℕ) (v : Value) (old all : Cells) → k ≡ 0 → given_over name (given_from b skip k v) old ≡ all → old ≡ all
no_unit_left name b skip k v old all e given = ap (λ (n : ℕ). given_over name (given_from b skip n v) old) (sym e) ∙ given

last_span : (spans : List Span) (k : ℕ) (r : Span) → 0 < k → k - 1 < length spans → r ≡ get_or spans (k - 1) r → flat_map units_of (take k spans) ≡ flat_map units_of (take (k - 1) spans) ++ units_of r
last_span spans k r p l e =
    let less : k ≡ (k - 1) + 1 = omega arith in
    let last : Span = get_or spans (k - 1) r in
    let front : List (Base × Value) = flat_map units_of (take (k - 1) spans) in
    ap (λ (n : ℕ). flat_map units_of (take n spans)) less
    ∙ (ap (λ (rs : List Span). flat_map units_of rs) (take_more spans (k - 1) r l)
    ∙ (flat_map-append units_of (take (k - 1) spans) (last ∷ [])
    ∙ (ap (λ (cs : List (Base × Value)). front ++ cs) (append-nil (units_of last)) ∙ ap (λ (s : Span). front ++ units_of s) (sym e))))

pub one_span : (name : Name) (spans : List Span) (k : ℕ) (r : Span) (old new all : Cells) → 0 < k → k - 1 < length spans → r ≡ get_or spans (k - 1) r → new ≡ given_over name (units_of r) old → given_over name (flat_map units_of (take k spans)) old ≡ all → given_over name (flat_map units_of (take (k - 1) spans)) new ≡ all
one_span name spans k r old new all p l e new_is given =
    ap (given_over name (flat_map units_of (take (k - 1) spans))) new_is
    ∙ (sym (given_both name (flat_map units_of (take (k - 1) spans)) (units_of r) old)
    ∙ (ap (λ (cs : List (Base × Value)). given_over name cs old) (sym (last_span spans k r p l e)) ∙ given))

pub no_span_left : (name : Name) (spans : List Span) (k : ℕ) (old all : Cells) → k ≡ 0 → given_over name (flat_map units_of (take k spans)) old ≡ all → old ≡ all
no_span_left name spans k old all e given = ap (λ (n : ℕ). given_over name (flat_map units_of (take n spans)) old) (sym e) ∙ given

pub none_given : (ps : List Procedure) (old : Cells) → ((l : Loc) → old l ≡ None) → given_by (take (length ps) ps) old ≡ given_by ps (λ l. None)
none_given ps old e =
    let whole : take (length ps) ps ≡ ps = take_all (length ps) ps (omega arith) in
    λ i. given_by (whole i) (λ l. e l i)

pub one_procedure : (ps : List Procedure) (k : ℕ) (d p : Procedure) (old new all : Cells) → 0 < k → k - 1 < length ps → p ≡ get_or ps (k - 1) d → new ≡ given_over p.routine.name (flat_map units_of p.routine.cells.initial) old → given_by (take k ps) old ≡ all → given_by (take (k - 1) ps) new ≡ all
one_procedure ps k d p old new all h l e new_is given =
    let less : k ≡ (k - 1) + 1 = omega arith in
    let last : take k ps ≡ take (k - 1) ps ++ p ∷ [] =
    ap (λ (n : ℕ). take n ps) less ∙ (take_more ps (k - 1) d l ∙ ap (λ (q : Procedure). take (k - 1) ps ++ q ∷ []) (sym e)) in
    ap (given_by (take (k - 1) ps)) new_is
    ∙ (sym (by_both (take (k - 1) ps) (p ∷ []) old)
    ∙ (ap (λ (qs : List Procedure). given_by qs old) (sym last) ∙ given))
