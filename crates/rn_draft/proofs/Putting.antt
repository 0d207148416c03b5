-- What holds of each unit of a text holds of each of its draft.
use Rattle.std.proofs.Common.{◌≡◌, suc, Bool, true, false, cond, Ok, Err, List, [], ◌∷◌, fold, map, reverse, refl, sym, ap, ◌∙◌, subst, arith}
use Rattle.std.specs.List.{All}
use Rattle.std.proofs.lemmas.List.Elements.{All-nil, All-cons}
use Rattle.std.specs.Prelude.{IfOk}
use Rattle.std.specs.declared.result.Result.{Result}
use Rattle.indexmap.specs.IndexMap.{insert_entry}
use Rattle.fixed_form.specs.declared.reader.UnitText.{UnitText}
use Rattle.f77_values.specs.Tables.{Name, name_eq, with_pair, told}
use Rattle.f77_parse.specs.Statements.{EndsUnit}
use Rattle.rn_draft.specs.Drafts.{named, drafted}

all_head : {X : Type 0} (P : X → Type 0) (x : X) (xs : List X) → All P (x ∷ xs) → P x
all_head P x xs h = h 0 x (omega arith)

all_rest : {X : Type 0} (P : X → Type 0) (x : X) (xs : List X) → All P (x ∷ xs) → All P xs
all_rest P x xs h = λ k d l. h (suc k) d (omega arith)

put_at : (P : UnitText → Type 0) (e : Name × UnitText) (es : List (Name × UnitText)) (name : Name) (u : UnitText) (same : Bool) → All (λ e. P e.1) (e ∷ es) → P u → All (λ e. P e.1) (insert_entry name_eq es name u) →
    All (λ e. P e.1) (cond same ((e.0, u) ∷ es) (e ∷ insert_entry name_eq es name u))
put_at P e es name u true h p rest = All-cons (λ e. P e.1) (e.0, u) es p (all_rest (λ e. P e.1) e es h)
put_at P e es name u false h p rest = All-cons (λ e. P e.1) e (insert_entry name_eq es name u) (all_head (λ e. P e.1) e es h) rest

-- one more unit
put : (P : UnitText → Type 0) (es : List (Name × UnitText)) (name : Name) (u : UnitText) → All (λ e. P e.1) es → P u → All (λ e. P e.1) (insert_entry name_eq es name u)
put P [] name u h p = All-cons (λ e. P e.1) (name, u) [] p (All-nil (λ e. P e.1))
put P (e ∷ es) name u h p = put_at P e es name u (name_eq name e.0) h p (put P es name u (all_rest (λ e. P e.1) e es h) p)

put_all : (P : UnitText → Type 0) (units : List UnitText) (es : List (Name × UnitText)) → All (λ e. P e.1) es → All P units → All (λ e. P e.1) (fold with_pair es (map named units))
put_all P [] es h p = h
put_all P (u ∷ units) es h p = put_all P units (with_pair es (named u)) (put P es u.name u h (all_head P u units p)) (all_rest P u units p)

values : (P : UnitText → Type 0) (es : List (Name × UnitText)) → All (λ e. P e.1) es → All P (map (λ e. e.1) es)
values P [] h = All-nil P
values P (e ∷ es) h = All-cons P e.1 (map (λ e. e.1) es) (all_head (λ e. P e.1) e es h) (values P es (all_rest (λ e. P e.1) e es h))

drafted_all : (P : UnitText → Type 0) (units : List UnitText) → All P units → All P (drafted units)
drafted_all P units h = values P (fold with_pair [] (map named units)) (put_all P units [] (All-nil (λ e. P e.1)) h)

pub drafted_one : (u : UnitText) → drafted (u ∷ []) ≡ u ∷ []
drafted_one u = refl

-- the units of a draft end where those of the text do
pub ended : {E : Type 0} (units back : List UnitText) (entries : List (Name × UnitText)) (found : Result (List UnitText) E) → reverse back ≡ units → entries ≡ told (map named (reverse back)) →
    IfOk found (λ all. all ≡ map (λ e. e.1) entries) → All EndsUnit units → IfOk found (All EndsUnit)
ended units back entries (Ok all) e f g h = subst (All EndsUnit) (sym (g ∙ ap (λ (es : List (Name × UnitText)). map (λ e. e.1) es) (f ∙ ap (λ us. told (map named us)) e))) (drafted_all EndsUnit units h)
ended units back entries (Err x) e f g h = tt
