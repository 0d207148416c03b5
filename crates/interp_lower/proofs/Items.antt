-- The steps of targets and of the items of READ and PRINT.
use Rattle.std.proofs.Common.{◌≡◌, ℕ, ℤ, Bool, ◌+◌, List, [], ◌∷◌, ◌++◌, map, refl, sym, ap, ◌∙◌, subst}
use Rattle.f77_tree.specs.declared.expr.Op.{Op}
use Rattle.f77_tree.specs.declared.expr.Expr.{Expr}
use Rattle.f77_tree.specs.declared.expr.Expr.TheVariants.{Int, Truth, Text, Scalar, Apply, Paren, Neg, Plus, Not, Binary}
use Rattle.f77_tree.specs.declared.unit.Ty.{Ty}
use Rattle.f77_tree.specs.declared.unit.Value.{Value}
use Rattle.f77_names.specs.declared.intrinsics.Intrinsic.{Intrinsic}
use Rattle.f77_values.specs.Tables.{Name}
use Rattle.f77_semantics.specs.Program.{End, ◌and◌}
use Rattle.f77_semantics.specs.declared.storage.Base.{Base}
use Rattle.f77_semantics.specs.declared.storage.Array.{Array}
use Rattle.interp_code.specs.declared.step.Step.TheVariants.{Locate, Open, Show, TakeIn, Wrong}
use Rattle.f77_semantics.specs.Terms.{Meant, Constant, Variable, AnArray, Function, AnIntrinsic, Unknown, Resolved, resolved, bare, applied, term_from, terms_of}
use Rattle.interp_code.specs.Code.{code, aim, shows, reads}
use Rattle.interp_lower.specs.Pieces.{aim_step, site_count, value_steps, values_steps, target_steps, listed_target_steps, targets_steps, item_steps, items_steps}
use Rattle.interp_data.proofs.Lists.{joined}
use Rattle.interp_lower.proofs.Behind.{codes-append, aim-append, shows-next}
use Rattle.interp_lower.proofs.Layers.{resolved-Int, resolved-Truth, resolved-Text, resolved-Scalar, resolved-Apply, resolved-Paren, resolved-Neg, resolved-Plus, resolved-Not, resolved-Binary}
use Rattle.interp_lower.proofs.Parts.{counts}

module _ (m : Name → Meant) where
  -- ---- targets

  bare-target : (x : Meant) → aim (bare x) [] ≡ aim_step x ∷ []
  bare-target (Constant v) = refl
  bare-target (Variable ty b) = refl
  bare-target (AnArray ty a) = refl
  bare-target Function = refl
  bare-target (AnIntrinsic i) = refl
  bare-target Unknown = refl

  pub target-Scalar : (name : Name) (s : ℕ) → target_steps m (Scalar name) s ≡ aim_step (m name) ∷ []
  unfolding target_steps
  target-Scalar name s = ap (λ r. aim (term_from s r) []) (resolved-Scalar m name) ∙ bare-target (m name)

  pub target-Apply : (name : Name) (es : List Expr) (s : ℕ) → target_steps m (Apply name es) s ≡ listed_target_steps m (m name) es s
  unfolding target_steps listed_target_steps
  target-Apply name es s = ap (λ r. aim (term_from s r) []) (resolved-Apply m name es)

  pub target-Int : (n : ℤ) (s : ℕ) → target_steps m (Int n) s ≡ Wrong ∷ []
  unfolding target_steps
  target-Int n s = ap (λ r. aim (term_from s r) []) (resolved-Int m n)

  pub target-Truth : (b : Bool) (s : ℕ) → target_steps m (Truth b) s ≡ Wrong ∷ []
  unfolding target_steps
  target-Truth b s = ap (λ r. aim (term_from s r) []) (resolved-Truth m b)

  pub target-Text : (bytes : List ℕ) (s : ℕ) → target_steps m (Text bytes) s ≡ Wrong ∷ []
  unfolding target_steps
  target-Text bytes s = ap (λ r. aim (term_from s r) []) (resolved-Text m bytes)

  pub target-Paren : (e : Expr) (s : ℕ) → target_steps m (Paren e) s ≡ Wrong ∷ []
  unfolding target_steps
  target-Paren e s = ap (λ r. aim (term_from s r) []) (resolved-Paren m e)

  pub target-Neg : (e : Expr) (s : ℕ) → target_steps m (Neg e) s ≡ Wrong ∷ []
  unfolding target_steps
  target-Neg e s = ap (λ r. aim (term_from s r) []) (resolved-Neg m e)

  pub target-Plus : (e : Expr) (s : ℕ) → target_steps m (Plus e) s ≡ Wrong ∷ []
  unfolding target_steps
  target-Plus e s = ap (λ r. aim (term_from s r) []) (resolved-Plus m e)

  pub target-Not : (e : Expr) (s : ℕ) → target_steps m (Not e) s ≡ Wrong ∷ []
  unfolding target_steps
  target-Not e s = ap (λ r. aim (term_from s r) []) (resolved-Not m e)

  pub target-Binary : (op : Op) (a b : Expr) (s : ℕ) → target_steps m (Binary op a b) s ≡ Wrong ∷ []
  unfolding target_steps
  target-Binary op a b s = ap (λ r. aim (term_from s r) []) (resolved-Binary m op a b)

  pub listed_target-AnArray : (ty : Ty) (a : Array) (es : List Expr) (s : ℕ) → listed_target_steps m (AnArray ty a) es s ≡ Open ∷ (values_steps m es s ++ Locate a ∷ [])
  unfolding listed_target_steps values_steps
  listed_target-AnArray ty a es s = ap (λ ys. Open ∷ ys) (codes-append (terms_of (map (resolved m) es) s) [] (Locate a ∷ []))

  pub listed_target-AnIntrinsic : (i : Intrinsic) (es : List Expr) (s : ℕ) → listed_target_steps m (AnIntrinsic i) es s ≡ Wrong ∷ []
  unfolding listed_target_steps
  listed_target-AnIntrinsic i es s = refl

  pub listed_target-Function : (es : List Expr) (s : ℕ) → listed_target_steps m Function es s ≡ Wrong ∷ []
  unfolding listed_target_steps
  listed_target-Function es s = refl

  pub listed_target-Constant : (v : Value) (es : List Expr) (s : ℕ) → listed_target_steps m (Constant v) es s ≡ Wrong ∷ []
  unfolding listed_target_steps
  listed_target-Constant v es s = refl

  pub listed_target-Variable : (ty : Ty) (b : Base) (es : List Expr) (s : ℕ) → listed_target_steps m (Variable ty b) es s ≡ Wrong ∷ []
  unfolding listed_target_steps
  listed_target-Variable ty b es s = refl

  pub listed_target-Unknown : (es : List Expr) (s : ℕ) → listed_target_steps m Unknown es s ≡ Wrong ∷ []
  unfolding listed_target_steps
  listed_target-Unknown es s = refl

  pub targets-none : (s : ℕ) → targets_steps m [] s ≡ []
  unfolding targets_steps
  targets-none s = refl

  pub targets-next : (e : Expr) (es : List Expr) (s : ℕ) → targets_steps m (e ∷ es) s ≡ target_steps m e s ++ (TakeIn ∷ targets_steps m es (s + site_count m e))
  unfolding targets_steps target_steps site_count
  targets-next e es s = aim-append (term_from s (resolved m e)) [] (TakeIn ∷ reads (terms_of (map (resolved m) es) (s + (resolved m e).sites)) [])

  -- ---- items of PRINT

  -- an item that is a value
  abbrev IsValue : ℕ → Resolved → Type 0
  IsValue s r = shows (term_from s r and End) [] ≡ code (term_from s r) []

  shown : (s : ℕ) (r known : Resolved) → r ≡ known → IsValue s known → IsValue s r
  shown s r known e h = subst (IsValue s) (sym e) h

  pub item-Text : (bytes : List ℕ) (s : ℕ) → item_steps m (Text bytes) s ≡ Show bytes ∷ []
  unfolding item_steps
  item-Text bytes s = ap (λ r. shows (term_from s r and End) []) (resolved-Text m bytes)

  pub item-Int : (n : ℤ) (s : ℕ) → item_steps m (Int n) s ≡ value_steps m (Int n) s
  unfolding item_steps value_steps
  item-Int n s = shown s _ _ (resolved-Int m n) refl

  pub item-Truth : (b : Bool) (s : ℕ) → item_steps m (Truth b) s ≡ value_steps m (Truth b) s
  unfolding item_steps value_steps
  item-Truth b s = shown s _ _ (resolved-Truth m b) refl

  bare-item : (s : ℕ) (x : Meant) → shows (bare x and End) [] ≡ code (bare x) []
  bare-item s (Constant v) = refl
  bare-item s (Variable ty b) = refl
  bare-item s (AnArray ty a) = refl
  bare-item s Function = refl
  bare-item s (AnIntrinsic i) = refl
  bare-item s Unknown = refl

  pub item-Scalar : (name : Name) (s : ℕ) → item_steps m (Scalar name) s ≡ value_steps m (Scalar name) s
  unfolding item_steps value_steps
  item-Scalar name s = shown s _ _ (resolved-Scalar m name) (bare-item s (m name))

  applied-item : (s : ℕ) (x : Meant) (rs : List Resolved) → IsValue s (applied x rs)
  applied-item s (Constant v) rs = refl
  applied-item s (Variable ty b) rs = refl
  applied-item s (AnArray ty a) rs = refl
  applied-item s Function rs = refl
  applied-item s (AnIntrinsic i) rs = refl
  applied-item s Unknown rs = refl

  pub item-Apply : (name : Name) (es : List Expr) (s : ℕ) → item_steps m (Apply name es) s ≡ value_steps m (Apply name es) s
  unfolding item_steps value_steps
  item-Apply name es s = shown s _ _ (resolved-Apply m name es) (applied-item s (m name) (map (resolved m) es))

  pub item-Paren : (e : Expr) (s : ℕ) → item_steps m (Paren e) s ≡ value_steps m (Paren e) s
  unfolding item_steps value_steps
  item-Paren e s = shown s _ _ (resolved-Paren m e) refl

  pub item-Neg : (e : Expr) (s : ℕ) → item_steps m (Neg e) s ≡ value_steps m (Neg e) s
  unfolding item_steps value_steps
  item-Neg e s = shown s _ _ (resolved-Neg m e) refl

  pub item-Plus : (e : Expr) (s : ℕ) → item_steps m (Plus e) s ≡ value_steps m (Plus e) s
  unfolding item_steps value_steps
  item-Plus e s = shown s _ _ (resolved-Plus m e) refl

  pub item-Not : (e : Expr) (s : ℕ) → item_steps m (Not e) s ≡ value_steps m (Not e) s
  unfolding item_steps value_steps
  item-Not e s = shown s _ _ (resolved-Not m e) refl

  pub item-Binary : (op : Op) (a b : Expr) (s : ℕ) → item_steps m (Binary op a b) s ≡ value_steps m (Binary op a b) s
  unfolding item_steps value_steps
  item-Binary op a b s = shown s _ _ (resolved-Binary m op a b) refl

  pub items-none : (s : ℕ) → items_steps m [] s ≡ []
  unfolding items_steps
  items-none s = refl

  pub items-next : (e : Expr) (es : List Expr) (s : ℕ) → items_steps m (e ∷ es) s ≡ item_steps m e s ++ items_steps m es (s + site_count m e)
  unfolding items_steps item_steps site_count
  items-next e es s = shows-next (term_from s (resolved m e)) (terms_of (map (resolved m) es) (s + (resolved m e).sites)) []

pub ruleset places = (counts, joined, target-Scalar, target-Apply, target-Int, target-Truth, target-Text, target-Paren, target-Neg, target-Plus, target-Not, target-Binary, listed_target-AnArray, listed_target-AnIntrinsic, listed_target-Function, listed_target-Constant, listed_target-Variable, listed_target-Unknown, targets-none, targets-next)

pub ruleset items = (counts, joined, item-Text, item-Int, item-Truth, item-Scalar, item-Apply, item-Paren, item-Neg, item-Plus, item-Not, item-Binary, items-none, items-next)
