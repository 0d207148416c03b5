-- The steps of each part, put together from those of its parts.
use Rattle.std.proofs.Common.{◌≡◌, ℕ, ℤ, Bool, suc, ◌+◌, List, [], ◌∷◌, ◌++◌, map, refl, sym, ap, ◌∙◌, subst}
use Rattle.f77_tree.specs.declared.expr.Op.{Op}
use Rattle.f77_tree.specs.declared.expr.Expr.{Expr}
use Rattle.f77_tree.specs.declared.expr.Expr.TheVariants.{Int, Truth, Text, Scalar, Apply, Paren, Neg, Plus, Not, Binary}
use Rattle.f77_tree.specs.declared.unit.Ty.{Ty}
use Rattle.f77_tree.specs.declared.unit.Value.{Value}
use Rattle.f77_tree.specs.declared.unit.Value.TheVariants.{Integer, Logical}
use Rattle.f77_names.specs.declared.intrinsics.Intrinsic.{Intrinsic}
use Rattle.f77_values.specs.Tables.{Name}
use Rattle.f77_semantics.specs.Program.{Term, End, ◌and◌}
use Rattle.f77_semantics.specs.declared.storage.Base.{Base}
use Rattle.f77_semantics.specs.declared.storage.Array.{Array}
use Rattle.interp_code.specs.declared.step.Step.TheVariants.{Compute, Deny, Hold, Keep, Negate, Open, Operate, PassRest, Push, Refer, Wrong}
use Rattle.f77_semantics.specs.Terms.{Meant, Constant, Variable, AnArray, Function, AnIntrinsic, Unknown, Resolved, resolved, bare, term_from, terms_of}
use Rattle.interp_code.specs.Code.{code, codes, passes}
use Rattle.interp_lower.specs.Pieces.{bare_step, bare_actual_steps, element_steps, site_count, site_total, applied_sites, value_steps, values_steps, applied_steps, actual_steps, actuals_steps, listed_actual_steps}
use Rattle.interp_data.proofs.Lists.{joined}
use Rattle.interp_lower.proofs.Behind.{code-append, codes-append, passes-append, passes-next}
use Rattle.interp_lower.proofs.Layers.{resolved-Int, resolved-Truth, resolved-Text, resolved-Scalar, resolved-Apply, resolved-Paren, resolved-Neg, resolved-Plus, resolved-Not, resolved-Binary}

module _ (m : Name → Meant) where
  -- ---- sites

  pub sites-Int : (n : ℤ) → site_count m (Int n) ≡ 0
  unfolding site_count
  sites-Int n = ap (λ r. r.sites) (resolved-Int m n)

  pub sites-Truth : (b : Bool) → site_count m (Truth b) ≡ 0
  unfolding site_count
  sites-Truth b = ap (λ r. r.sites) (resolved-Truth m b)

  pub sites-Text : (bytes : List ℕ) → site_count m (Text bytes) ≡ 0
  unfolding site_count
  sites-Text bytes = ap (λ r. r.sites) (resolved-Text m bytes)

  pub sites-Scalar : (name : Name) → site_count m (Scalar name) ≡ 0
  unfolding site_count
  sites-Scalar name = ap (λ r. r.sites) (resolved-Scalar m name)

  pub sites-Apply : (name : Name) (es : List Expr) → site_count m (Apply name es) ≡ applied_sites m (m name) es
  unfolding site_count applied_sites
  sites-Apply name es = ap (λ r. r.sites) (resolved-Apply m name es)

  pub sites-Paren : (e : Expr) → site_count m (Paren e) ≡ site_count m e
  unfolding site_count
  sites-Paren e = ap (λ r. r.sites) (resolved-Paren m e)

  pub sites-Neg : (e : Expr) → site_count m (Neg e) ≡ site_count m e
  unfolding site_count
  sites-Neg e = ap (λ r. r.sites) (resolved-Neg m e)

  pub sites-Plus : (e : Expr) → site_count m (Plus e) ≡ site_count m e
  unfolding site_count
  sites-Plus e = ap (λ r. r.sites) (resolved-Plus m e)

  pub sites-Not : (e : Expr) → site_count m (Not e) ≡ site_count m e
  unfolding site_count
  sites-Not e = ap (λ r. r.sites) (resolved-Not m e)

  pub sites-Binary : (op : Op) (a b : Expr) → site_count m (Binary op a b) ≡ site_count m a + site_count m b
  unfolding site_count
  sites-Binary op a b = ap (λ r. r.sites) (resolved-Binary m op a b)

  pub sites-none : site_total m [] ≡ 0
  unfolding site_total
  sites-none = refl

  pub sites-next : (e : Expr) (es : List Expr) → site_total m (e ∷ es) ≡ site_count m e + site_total m es
  unfolding site_total site_count
  sites-next e es = refl

  pub applied_sites-AnArray : (ty : Ty) (a : Array) (es : List Expr) → applied_sites m (AnArray ty a) es ≡ site_total m es
  unfolding site_total applied_sites
  applied_sites-AnArray ty a es = refl

  pub applied_sites-AnIntrinsic : (i : Intrinsic) (es : List Expr) → applied_sites m (AnIntrinsic i) es ≡ site_total m es
  unfolding site_total applied_sites
  applied_sites-AnIntrinsic i es = refl

  pub applied_sites-Function : (es : List Expr) → applied_sites m Function es ≡ suc (site_total m es)
  unfolding site_total applied_sites
  applied_sites-Function es = refl

  pub applied_sites-Constant : (v : Value) (es : List Expr) → applied_sites m (Constant v) es ≡ site_total m es
  unfolding site_total applied_sites
  applied_sites-Constant v es = refl

  pub applied_sites-Variable : (ty : Ty) (b : Base) (es : List Expr) → applied_sites m (Variable ty b) es ≡ site_total m es
  unfolding site_total applied_sites
  applied_sites-Variable ty b es = refl

  pub applied_sites-Unknown : (es : List Expr) → applied_sites m Unknown es ≡ site_total m es
  unfolding site_total applied_sites
  applied_sites-Unknown es = refl

  -- ---- values

  pub value-Int : (n : ℤ) (s : ℕ) → value_steps m (Int n) s ≡ Push (Integer n) ∷ []
  unfolding value_steps
  value-Int n s = ap (λ r. code (term_from s r) []) (resolved-Int m n)

  pub value-Truth : (b : Bool) (s : ℕ) → value_steps m (Truth b) s ≡ Push (Logical b) ∷ []
  unfolding value_steps
  value-Truth b s = ap (λ r. code (term_from s r) []) (resolved-Truth m b)

  pub value-Text : (bytes : List ℕ) (s : ℕ) → value_steps m (Text bytes) s ≡ Wrong ∷ []
  unfolding value_steps
  value-Text bytes s = ap (λ r. code (term_from s r) []) (resolved-Text m bytes)

  bare-value : (x : Meant) → code (bare x) [] ≡ bare_step x ∷ []
  bare-value (Constant v) = refl
  bare-value (Variable ty b) = refl
  bare-value (AnArray ty a) = refl
  bare-value Function = refl
  bare-value (AnIntrinsic i) = refl
  bare-value Unknown = refl

  pub value-Scalar : (name : Name) (s : ℕ) → value_steps m (Scalar name) s ≡ bare_step (m name) ∷ []
  unfolding value_steps
  value-Scalar name s = ap (λ r. code (term_from s r) []) (resolved-Scalar m name) ∙ bare-value (m name)

  pub value-Apply : (name : Name) (es : List Expr) (s : ℕ) → value_steps m (Apply name es) s ≡ applied_steps m (m name) es s
  unfolding value_steps applied_steps
  value-Apply name es s = ap (λ r. code (term_from s r) []) (resolved-Apply m name es)

  pub value-Paren : (e : Expr) (s : ℕ) → value_steps m (Paren e) s ≡ value_steps m e s
  unfolding value_steps
  value-Paren e s = ap (λ r. code (term_from s r) []) (resolved-Paren m e)

  pub value-Neg : (e : Expr) (s : ℕ) → value_steps m (Neg e) s ≡ value_steps m e s ++ Negate ∷ []
  unfolding value_steps
  value-Neg e s = ap (λ r. code (term_from s r) []) (resolved-Neg m e) ∙ code-append (term_from s (resolved m e)) [] (Negate ∷ [])

  pub value-Plus : (e : Expr) (s : ℕ) → value_steps m (Plus e) s ≡ value_steps m e s ++ Keep ∷ []
  unfolding value_steps
  value-Plus e s = ap (λ r. code (term_from s r) []) (resolved-Plus m e) ∙ code-append (term_from s (resolved m e)) [] (Keep ∷ [])

  pub value-Not : (e : Expr) (s : ℕ) → value_steps m (Not e) s ≡ value_steps m e s ++ Deny ∷ []
  unfolding value_steps
  value-Not e s = ap (λ r. code (term_from s r) []) (resolved-Not m e) ∙ code-append (term_from s (resolved m e)) [] (Deny ∷ [])

  pub value-Binary : (op : Op) (a b : Expr) (s : ℕ) → value_steps m (Binary op a b) s ≡ value_steps m a s ++ (value_steps m b (s + site_count m a) ++ Operate op ∷ [])
  unfolding value_steps site_count
  value-Binary op a b s =
      let left : Term = term_from s (resolved m a) in
      let right : Term = term_from (s + (resolved m a).sites) (resolved m b) in
      ap (λ r. code (term_from s r) []) (resolved-Binary m op a b)
      ∙ (code-append left [] (code right (Operate op ∷ [])) ∙ ap (λ ys. code left [] ++ ys) (code-append right [] (Operate op ∷ [])))

  pub values-none : (s : ℕ) → values_steps m [] s ≡ []
  unfolding values_steps
  values-none s = refl

  pub values-next : (e : Expr) (es : List Expr) (s : ℕ) → values_steps m (e ∷ es) s ≡ value_steps m e s ++ values_steps m es (s + site_count m e)
  unfolding values_steps value_steps site_count
  values-next e es s = code-append (term_from s (resolved m e)) [] (codes (terms_of (map (resolved m) es) (s + (resolved m e).sites)) [])

  -- ---- names with a list

  pub applied-AnArray : (ty : Ty) (a : Array) (es : List Expr) (s : ℕ) → applied_steps m (AnArray ty a) es s ≡ Open ∷ (values_steps m es s ++ element_steps ty a)
  unfolding applied_steps values_steps
  applied-AnArray ty a es s = ap (λ ys. Open ∷ ys) (codes-append (terms_of (map (resolved m) es) s) [] (element_steps ty a))

  pub applied-AnIntrinsic : (i : Intrinsic) (es : List Expr) (s : ℕ) → applied_steps m (AnIntrinsic i) es s ≡ Open ∷ (values_steps m es s ++ Compute i ∷ [])
  unfolding applied_steps values_steps
  applied-AnIntrinsic i es s = ap (λ ys. Open ∷ ys) (codes-append (terms_of (map (resolved m) es) s) [] (Compute i ∷ []))

  pub applied-Function : (es : List Expr) (s : ℕ) → applied_steps m Function es s ≡ Open ∷ (actuals_steps m s 0 es (suc s) ++ Refer s ∷ [])
  unfolding applied_steps actuals_steps
  applied-Function es s = ap (λ ys. Open ∷ ys) (passes-append s 0 (terms_of (map (resolved m) es) (suc s)) [] (Refer s ∷ []))

  pub applied-Constant : (v : Value) (es : List Expr) (s : ℕ) → applied_steps m (Constant v) es s ≡ Wrong ∷ []
  unfolding applied_steps
  applied-Constant v es s = refl

  pub applied-Variable : (ty : Ty) (b : Base) (es : List Expr) (s : ℕ) → applied_steps m (Variable ty b) es s ≡ Wrong ∷ []
  unfolding applied_steps
  applied-Variable ty b es s = refl

  pub applied-Unknown : (es : List Expr) (s : ℕ) → applied_steps m Unknown es s ≡ Wrong ∷ []
  unfolding applied_steps
  applied-Unknown es s = refl

  -- ---- actual arguments

  pub actuals-none : (i j s : ℕ) → actuals_steps m i j [] s ≡ []
  unfolding actuals_steps
  actuals-none i j s = refl

  pub actuals-next : (i j : ℕ) (e : Expr) (es : List Expr) (s : ℕ) → actuals_steps m i j (e ∷ es) s ≡ actual_steps m i j e s ++ actuals_steps m i (suc j) es (s + site_count m e)
  unfolding actuals_steps actual_steps site_count
  actuals-next i j e es s = passes-next i j (term_from s (resolved m e)) (terms_of (map (resolved m) es) (s + (resolved m e).sites)) []

  bare-actual : (i j : ℕ) (x : Meant) → passes i j (bare x and End) [] ≡ bare_actual_steps i j x
  bare-actual i j (Constant v) = refl
  bare-actual i j (Variable ty b) = refl
  bare-actual i j (AnArray ty a) = refl
  bare-actual i j Function = refl
  bare-actual i j (AnIntrinsic x) = refl
  bare-actual i j Unknown = refl

  pub actual-Scalar : (i j : ℕ) (name : Name) (s : ℕ) → actual_steps m i j (Scalar name) s ≡ bare_actual_steps i j (m name)
  unfolding actual_steps
  actual-Scalar i j name s = ap (λ r. passes i j (term_from s r and End) []) (resolved-Scalar m name) ∙ bare-actual i j (m name)

  pub actual-Apply : (i j : ℕ) (name : Name) (es : List Expr) (s : ℕ) → actual_steps m i j (Apply name es) s ≡ listed_actual_steps m i j (m name) es s
  unfolding actual_steps listed_actual_steps
  actual-Apply i j name es s = ap (λ r. passes i j (term_from s r and End) []) (resolved-Apply m name es)

  -- an actual argument that is held as a value
  abbrev IsHeld : (i j s : ℕ) → Resolved → Type 0
  IsHeld i j s r = passes i j (term_from s r and End) [] ≡ code (term_from s r) [] ++ Hold i j ∷ []

  held : (i j s : ℕ) (r known : Resolved) → r ≡ known → IsHeld i j s known → IsHeld i j s r
  held i j s r known e h = subst (IsHeld i j s) (sym e) h

  pub actual-Int : (i j : ℕ) (n : ℤ) (s : ℕ) → actual_steps m i j (Int n) s ≡ value_steps m (Int n) s ++ Hold i j ∷ []
  unfolding actual_steps value_steps
  actual-Int i j n s = held i j s _ _ (resolved-Int m n) refl

  pub actual-Truth : (i j : ℕ) (b : Bool) (s : ℕ) → actual_steps m i j (Truth b) s ≡ value_steps m (Truth b) s ++ Hold i j ∷ []
  unfolding actual_steps value_steps
  actual-Truth i j b s = held i j s _ _ (resolved-Truth m b) refl

  pub actual-Text : (i j : ℕ) (bytes : List ℕ) (s : ℕ) → actual_steps m i j (Text bytes) s ≡ value_steps m (Text bytes) s ++ Hold i j ∷ []
  unfolding actual_steps value_steps
  actual-Text i j bytes s = held i j s _ _ (resolved-Text m bytes) refl

  pub actual-Paren : (i j : ℕ) (e : Expr) (s : ℕ) → actual_steps m i j (Paren e) s ≡ value_steps m (Paren e) s ++ Hold i j ∷ []
  unfolding actual_steps value_steps
  actual-Paren i j e s = held i j s _ _ (resolved-Paren m e) (code-append (term_from s (resolved m e)) [] (Hold i j ∷ []))

  pub actual-Neg : (i j : ℕ) (e : Expr) (s : ℕ) → actual_steps m i j (Neg e) s ≡ value_steps m (Neg e) s ++ Hold i j ∷ []
  unfolding actual_steps value_steps
  actual-Neg i j e s = held i j s _ _ (resolved-Neg m e) (code-append (term_from s (resolved m e)) (Negate ∷ []) (Hold i j ∷ []))

  pub actual-Plus : (i j : ℕ) (e : Expr) (s : ℕ) → actual_steps m i j (Plus e) s ≡ value_steps m (Plus e) s ++ Hold i j ∷ []
  unfolding actual_steps value_steps
  actual-Plus i j e s = held i j s _ _ (resolved-Plus m e) (code-append (term_from s (resolved m e)) (Keep ∷ []) (Hold i j ∷ []))

  pub actual-Not : (i j : ℕ) (e : Expr) (s : ℕ) → actual_steps m i j (Not e) s ≡ value_steps m (Not e) s ++ Hold i j ∷ []
  unfolding actual_steps value_steps
  actual-Not i j e s = held i j s _ _ (resolved-Not m e) (code-append (term_from s (resolved m e)) (Deny ∷ []) (Hold i j ∷ []))

  pub actual-Binary : (i j : ℕ) (op : Op) (a b : Expr) (s : ℕ) → actual_steps m i j (Binary op a b) s ≡ value_steps m (Binary op a b) s ++ Hold i j ∷ []
  unfolding actual_steps value_steps
  actual-Binary i j op a b s =
      let left : Term = term_from s (resolved m a) in
      let right : Term = term_from (s + (resolved m a).sites) (resolved m b) in
      held i j s _ _ (resolved-Binary m op a b) (ap (code left) (code-append right (Operate op ∷ []) (Hold i j ∷ [])) ∙ code-append left (code right (Operate op ∷ [])) (Hold i j ∷ []))

  pub listed-AnArray : (i j : ℕ) (ty : Ty) (a : Array) (es : List Expr) (s : ℕ) → listed_actual_steps m i j (AnArray ty a) es s ≡ Open ∷ (values_steps m es s ++ PassRest a ∷ [])
  unfolding listed_actual_steps values_steps
  listed-AnArray i j ty a es s = ap (λ ys. Open ∷ ys) (codes-append (terms_of (map (resolved m) es) s) [] (PassRest a ∷ []))

  pub listed-AnIntrinsic : (i j : ℕ) (x : Intrinsic) (es : List Expr) (s : ℕ) → listed_actual_steps m i j (AnIntrinsic x) es s ≡ applied_steps m (AnIntrinsic x) es s ++ Hold i j ∷ []
  unfolding listed_actual_steps applied_steps
  listed-AnIntrinsic i j x es s = ap (λ ys. Open ∷ ys) (codes-append (terms_of (map (resolved m) es) s) (Compute x ∷ []) (Hold i j ∷ []))

  pub listed-Function : (i j : ℕ) (es : List Expr) (s : ℕ) → listed_actual_steps m i j Function es s ≡ applied_steps m Function es s ++ Hold i j ∷ []
  unfolding listed_actual_steps applied_steps
  listed-Function i j es s = ap (λ ys. Open ∷ ys) (passes-append s 0 (terms_of (map (resolved m) es) (suc s)) (Refer s ∷ []) (Hold i j ∷ []))

  pub listed-Constant : (i j : ℕ) (v : Value) (es : List Expr) (s : ℕ) → listed_actual_steps m i j (Constant v) es s ≡ applied_steps m (Constant v) es s ++ Hold i j ∷ []
  unfolding listed_actual_steps applied_steps
  listed-Constant i j v es s = refl

  pub listed-Variable : (i j : ℕ) (ty : Ty) (b : Base) (es : List Expr) (s : ℕ) → listed_actual_steps m i j (Variable ty b) es s ≡ applied_steps m (Variable ty b) es s ++ Hold i j ∷ []
  unfolding listed_actual_steps applied_steps
  listed-Variable i j ty b es s = refl

  pub listed-Unknown : (i j : ℕ) (es : List Expr) (s : ℕ) → listed_actual_steps m i j Unknown es s ≡ applied_steps m Unknown es s ++ Hold i j ∷ []
  unfolding listed_actual_steps applied_steps
  listed-Unknown i j es s = refl

pub ruleset counts = (sites-Int, sites-Truth, sites-Text, sites-Scalar, sites-Apply, sites-Paren, sites-Neg, sites-Plus, sites-Not, sites-Binary, sites-none, sites-next, applied_sites-AnArray, applied_sites-AnIntrinsic, applied_sites-Function, applied_sites-Constant, applied_sites-Variable, applied_sites-Unknown)

pub ruleset values = (value-Int, value-Truth, value-Text, value-Scalar, value-Apply, value-Paren, value-Neg, value-Plus, value-Not, value-Binary, values-none, values-next, applied-AnArray, applied-AnIntrinsic, applied-Function, applied-Constant, applied-Variable, applied-Unknown)

pub ruleset actuals = (actuals-none, actuals-next, actual-Scalar, actual-Apply, actual-Int, actual-Truth, actual-Text, actual-Paren, actual-Neg, actual-Plus, actual-Not, actual-Binary, listed-AnArray, listed-AnIntrinsic, listed-Function, listed-Constant, listed-Variable, listed-Unknown)

pub ruleset parts = (counts, values, actuals, joined)
