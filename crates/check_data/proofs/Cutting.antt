-- Counts that stand still at a number which no list of constants reaches.
use Rattle.std.proofs.Common.{◌≡◌, ℕ, zero, suc, ◌+◌, ◌*◌, ◌<◌, ◌≤◌, ◌⊎◌, inl, inr, Bool, ◌||◌, ◌&&◌, not, Option, Some, None, option_map, List, [], ◌∷◌, ◌++◌, length, map, replicate, refl, ap, sym, ◌∙◌, arith}
use Rattle.std.proofs.Math.Dec.{eqb-suc-suc, eqb-suc-zero}
use Rattle.std.proofs.Math.Bool.{or_assoc}
use Rattle.std.proofs.lemmas.Bool.{cases_lt}
use Rattle.std.specs.Prelude.{◌==◌}
use Rattle.std.specs.List.{list_any, zip}
use Rattle.f77_tree.specs.declared.expr.Expr.{Expr, out-Expr}
use Rattle.f77_tree.specs.declared.unit.Ty.{Ty}
use Rattle.f77_names.specs.declared.facts.Facts.{Facts}
use Rattle.f77_values.specs.Tables.{Told}
use Rattle.check_data.specs.declared.measures.Measured.{Measured}
use Rattle.check_data.specs.declared.runs.Run.{Run}
use Rattle.check_data.specs.declared.runs.Runs.{Runs}
use Rattle.check_data.specs.DataRuns.{types, clash, unlike, differ, added, item_count, item_type, item_runs}
use Rattle.check_data.specs.Counting.{most_counted, counted, counted_run, counted_runs, counted_items}

-- ---- items against fewer constants

pair_step : (all : Bool) (x y : Option Ty) (xs ys : List (Option Ty)) → unlike all (x ∷ xs) (y ∷ ys) ≡ (clash x y || unlike all xs ys)
pair_step all x y xs ys =
    ap (λ b. (clash x y || list_any (λ pair. clash pair.0 pair.1) (zip xs ys)) || (all && not b)) (eqb-suc-suc (length xs) (length ys))
    ∙ or_assoc (clash x y) (list_any (λ pair. clash pair.0 pair.1) (zip xs ys)) (all && not (length xs == length ys))

more_items : (all : Bool) (x y : Option Ty) (xs zs : List (Option Ty)) → unlike all (x ∷ xs) [] ≡ unlike all (y ∷ zs) []
more_items all x y xs zs = ap (λ b. all && not b) (eqb-suc-zero (length xs) ∙ sym (eqb-suc-zero (length zs)))

same_behind : (all : Bool) (n : ℕ) (x : Option Ty) (xs zs : List (Option Ty)) (b : ℕ) → ((ys : List (Option Ty)) → length ys < b → unlike all xs ys ≡ unlike all zs ys)
    → (ys : List (Option Ty)) → length ys < b → unlike all (replicate n x ++ xs) ys ≡ unlike all (replicate n x ++ zs) ys
same_behind all zero x xs zs b h ys l = h ys l
same_behind all (suc n) x xs zs b h [] l = more_items all x x (replicate n x ++ xs) (replicate n x ++ zs)
same_behind all (suc n) x xs zs b h (y ∷ ys) l =
    pair_step all x y (replicate n x ++ xs) ys
    ∙ (ap (λ q. clash x y || q) (same_behind all n x xs zs b h ys (omega (arith, l)))
    ∙ sym (pair_step all x y (replicate n x ++ zs) ys))

-- Two runs that are both longer than the constants differ from them alike.
longer : (all : Bool) (x : Option Ty) (xs zs : List (Option Ty)) (p q : ℕ) (ys : List (Option Ty)) → length ys < p → length ys < q → unlike all (replicate p x ++ xs) ys ≡ unlike all (replicate q x ++ zs) ys
longer all x xs zs zero q ys l m = absurd (omega (arith, l))
longer all x xs zs (suc p) zero ys l m = absurd (omega (arith, m))
longer all x xs zs (suc p) (suc q) [] l m = more_items all x x (replicate p x ++ xs) (replicate q x ++ zs)
longer all x xs zs (suc p) (suc q) (y ∷ ys) l m =
    pair_step all x y (replicate p x ++ xs) ys
    ∙ (ap (λ b. clash x y || b) (longer all x xs zs p q ys (omega (arith, l)) (omega (arith, m)))
    ∙ sym (pair_step all x y (replicate q x ++ zs) ys))

unlike_counted : (all : Bool) (runs : List Run) (ys : List (Option Ty)) → length ys < most_counted → unlike all (types (map counted_run runs)) ys ≡ unlike all (types runs) ys
unlike_counted all [] ys l = refl
unlike_counted all (r ∷ rs) ys l = go (cases_lt r.count most_counted) (unlike_counted all rs)
  where
    go : (r.count < most_counted) ⊎ (most_counted ≤ r.count) → ((ys : List (Option Ty)) → length ys < most_counted → unlike all (types (map counted_run rs)) ys ≡ unlike all (types rs) ys)
        → unlike all (replicate (counted r.count) r.ty ++ types (map counted_run rs)) ys ≡ unlike all (replicate r.count r.ty ++ types rs) ys
    go (inl h) rest =
        ap (λ n. unlike all (replicate n r.ty ++ types (map counted_run rs)) ys) (let e : counted r.count ≡ r.count = omega (arith, h) in e)
        ∙ same_behind all r.count r.ty (types (map counted_run rs)) (types rs) most_counted rest ys l
    go (inr h) rest = longer all r.ty (types (map counted_run rs)) (types rs) (counted r.count) r.count ys (omega (arith, l, h)) (omega (arith, l, h))

added_counted : (n : Option ℕ) (t : Option Ty) (rest : Runs) → added (option_map counted n) t (counted_runs rest) ≡ counted_runs (added n t rest)
added_counted (Some n) t rest = refl
added_counted None t rest = refl

items_counted : (f : Facts) (measures : Told Measured) (es : List Expr) → counted_items f measures es ≡ counted_runs (item_runs f measures es)
items_counted f measures [] = refl
items_counted f measures (e ∷ es) =
    ap (added (option_map counted (item_count measures (out-Expr e))) (item_type f (out-Expr e))) (items_counted f measures es)
    ∙ added_counted (item_count measures (out-Expr e)) (item_type f (out-Expr e)) (item_runs f measures es)

pub differ_counted : (f : Facts) (measures : Told Measured) (es : List Expr) (constants : Runs) → length (types constants.runs) < most_counted
    → differ (counted_items f measures es) constants ≡ differ (item_runs f measures es) constants
differ_counted f measures es constants l =
    ap (λ items. differ items constants) (items_counted f measures es)
    ∙ unlike_counted ((item_runs f measures es).all && constants.all) (item_runs f measures es).runs (types constants.runs) l

-- ---- constants are few

types_more : (runs : List Run) (r : Run) → length (types (runs ++ r ∷ [])) ≡ length (types runs) + r.count
types_more [] r = let z : r.count ≡ 0 + r.count = omega arith in length_all r.count r.ty ∙ z
  where
    length_all : (n : ℕ) (x : Option Ty) → length (replicate n x ++ []) ≡ n
    length_all zero x = refl
    length_all (suc n) x = ap suc (length_all n x)
types_more (q ∷ rs) r = behind q.count q.ty (types (rs ++ r ∷ [])) (types rs) (types_more rs r)
  where
    behind : (n : ℕ) (x : Option Ty) (xs ys : List (Option Ty)) → length xs ≡ length ys + r.count → length (replicate n x ++ xs) ≡ length (replicate n x ++ ys) + r.count
    behind zero x xs ys e = e
    behind (suc n) x xs ys e =
        let rest = behind n x xs ys e in
        let sum : suc (length (replicate n x ++ xs)) ≡ suc (length (replicate n x ++ ys)) + r.count = omega (arith, rest) in sum

pub short_more : (runs : List Run) (r : Run) (i : ℕ) → length (types runs) ≤ i * 18446744073709551615 → r.count ≤ 18446744073709551615
    → length (types (runs ++ r ∷ [])) ≤ (i + 1) * 18446744073709551615
short_more runs r i h l = let e = types_more runs r in omega (arith, e, h, l)

pub short_end : (n i size : ℕ) → n ≤ i * 18446744073709551615 → i ≤ size → size ≤ 18446744073709551615 → n < most_counted
short_end n i size h l s = omega (arith, h, l, s)

pub ruleset shorts = (short_more, short_end)
