-- The bounds and sizes of arrays, from their declarators.
use Rattle.std.proofs.Common.{◌≡◌, ℕ, suc, ◌+◌, ◌*◌, ◌==◌, ◌≤◌, Bool, true, false, not, ◌||◌, nat_lt, int_lt, int_le, unsigned_abs, ℤ, pos, ◌-ℤ◌, Option, Some, None, List, [], ◌∷◌, length, map, flat_map, fold, take, slice_get, option_map, unwrap_or, refl, sym, ap, ◌∙◌, subst, arith, if◌then◌else◌}
use Rattle.std.specs.List.{list_any}
use Rattle.std.proofs.Math.Nat.{le-mul_of_pos_right}
use Rattle.std.proofs.lemmas.Bool.Decides.{nat_tests}
use Rattle.std.proofs.lemmas.Int.{ints}
use Rattle.std.proofs.lemmas.Grind.{flat_map-append}
use Rattle.std.proofs.lemmas.List.Sums.{fold-append}
use Rattle.f77_tree.specs.declared.expr.Expr.{Expr}
use Rattle.f77_tree.specs.declared.form.Declarator.{Declarator}
use Rattle.f77_tree.specs.declared.form.Form.{Form, out-Form}
use Rattle.f77_tree.specs.declared.form.Form.TheOpen.{Form-F}
use Rattle.f77_tree.specs.declared.form.TypeWord.{TypeWord}
use Rattle.f77_tree.specs.declared.unit.Stmt.{Stmt}
use Rattle.f77_tree.specs.declared.unit.Ty.TheVariants as types
use Rattle.f77_tree.specs.declared.unit.Value.{Value}
use Rattle.f77_tree.specs.declared.unit.Value.TheVariants.{Integer, Logical}
use Rattle.f77_store.specs.declared.areas.Place.{Place}
use Rattle.f77_names.specs.declared.declarations.Shape.{Shape}
use Rattle.f77_names.specs.declared.facts.Facts.{Facts}
use Rattle.f77_values.specs.Constants.{value_of, with_statement, constants}
use Rattle.f77_names.specs.Declarations.{word_of, declared, of_head, in_block, in_form, declarations_from, declarations, shape_told, shapes}
use Rattle.f77_values.specs.Tables.{Name, is_among, Told, what, saturated}
use Rattle.f77_values.specs.Sizes.{Bounds, whole, lower, upper, span, between, extent, times, elements}
use Rattle.check_types.specs.declared.breaks.Rule.TheVariants.{Types, Exponents}
use Rattle.check_types.specs.Breaks.{optional_breaks, bound_breaks}
use Rattle.check_types.specs.Exponents.{has_wrong_exponent}
use Rattle.check_types.specs.WrongTypes.{differs, integers, is_mistyped}
use Rattle.check_constants.specs.declared.defined.Defined.{Defined}
use Rattle.check_constants.specs.Needed.{is_constant, is_no_constant, reversed, lower_lacks, upper_lacks, bound_lacks, bounds_lack}
use Rattle.f77_semantics.specs.Terms.{extent_of}
use Rattle.f77_semantics.specs.Units.{total}
use Rattle.sound_units.specs.Sites.{Each}
use Rattle.sound_units.proofs.Defining.{take_next}
use Rattle.sound_units.proofs.Lists.{or_left, or_right, not_false, any-append, each_left, each_right}
use Rattle.sound_units.proofs.Tables.{each_both, first_each, what_each}
use Rattle.sound_units.proofs.Valuing.{ty_of, ConstantKnown, HasValue, constant_value, value_stays}

-- ---- declarators, statement by statement

abbrev pub declarators_in : Form-F Form → List Declarator
declarators_in (Form-F.Typed ty all) = all
declarators_in (Form-F.Dimension all) = all
declarators_in (Form-F.Common blocks) = flat_map (λ (b : Name × List Declarator). b.1) blocks
declarators_in _ = []

-- none of the declarators of blocks
pub in_blocks : (test : Declarator → Bool) (blocks : List (Name × List Declarator)) → list_any (λ (b : Name × List Declarator). list_any test b.1) blocks ≡ false → list_any test (flat_map (λ (b : Name × List Declarator). b.1) blocks) ≡ false
in_blocks test [] h = refl
in_blocks test (b ∷ blocks) h =
    any-append test b.1 (flat_map (λ (b : Name × List Declarator). b.1) blocks)
    ∙ (ap (λ x. x || list_any test (flat_map (λ (b : Name × List Declarator). b.1) blocks)) (or_left (list_any test b.1) _ h) ∙ in_blocks test blocks (or_right (list_any test b.1) _ h))

-- the bounds of a declarator, with the number of elements under the named constants that are known there
abbrev pub shape_under : Told Value → Declarator → Shape
shape_under named d = record { bounds = d.bounds; size = option_map saturated (elements named d.bounds) }

module _ (Q : Name × Shape → Type 0) where
  -- what a declarator tells has the property
  abbrev pub Tells : Told Value → Declarator → Type 0
  Tells named d = (length d.bounds == 0) ≡ false → Q (d.name, shape_under named d)

  one_told : (named : Told Value) (word : Option TypeWord) (block : Option Name) (d : Declarator) → Tells named d → Each Q (shape_told (declared named word block d))
  one_told named word block d h = go (length d.bounds == 0) refl
    where
      go : (none : Bool) → (length d.bounds == 0) ≡ none → Each Q (if none then [] else (d.name, shape_under named d) ∷ [])
      go true e = tt
      go false e = (h e, tt)

  list_told : (named : Told Value) (word : Option TypeWord) (block : Option Name) (all : List Declarator) → Each (Tells named) all → Each Q (flat_map shape_told (map (declared named word block) all))
  list_told named word block [] h = tt
  list_told named word block (d ∷ all) h = each_both Q (shape_told (declared named word block d)) (flat_map shape_told (map (declared named word block) all)) (one_told named word block d h.0) (list_told named word block all h.1)

  head_told : (word : Option TypeWord) (name : Name) → Each Q (flat_map shape_told (of_head word name))
  head_told None name = tt
  head_told (Some word) name = tt

  blocks_told : (named : Told Value) (blocks : List (Name × List Declarator)) → Each (Tells named) (flat_map (λ (b : Name × List Declarator). b.1) blocks) → Each Q (flat_map shape_told (flat_map (in_block named) blocks))
  blocks_told named [] h = tt
  blocks_told named (b ∷ blocks) h =
      let rest : List Declarator = flat_map (λ (b : Name × List Declarator). b.1) blocks in
      subst (Each Q) (sym (flat_map-append shape_told (in_block named b) (flat_map (in_block named) blocks)))
      (each_both Q (flat_map shape_told (in_block named b)) (flat_map shape_told (flat_map (in_block named) blocks))
      (list_told named None (Some b.0) b.1 (each_left (Tells named) b.1 rest h)) (blocks_told named blocks (each_right (Tells named) b.1 rest h)))

  form_told : (named : Told Value) (F : Form-F Form) → Each (Tells named) (declarators_in F) → Each Q (flat_map shape_told (in_form named F))
  form_told named (Form-F.Head kind word name dummies) h = head_told word name
  form_told named (Form-F.Typed ty all) h = list_told named (Some (word_of ty)) None all h
  form_told named (Form-F.Dimension all) h = list_told named None None all h
  form_told named (Form-F.Common blocks) h = blocks_told named blocks h
  form_told named F h = tt

  module _ (ss : List Stmt) (each : (k : ℕ) (s : Stmt) → slice_get ss k ≡ Some s → Each (Tells (constants (take k ss))) (declarators_in (out-Form s.form))) where
    from_here : (sts : List Stmt) (k : ℕ) → ((j : ℕ) (s : Stmt) → slice_get sts j ≡ Some s → slice_get ss (k + j) ≡ Some s) → Each Q (flat_map shape_told (declarations_from (constants (take k ss)) sts))
    from_here [] k stands = tt
    from_here (s ∷ sts) k stands =
        let named : Told Value = constants (take k ss) in
        let here : slice_get ss k ≡ Some s = let e : k ≡ k + 0 = omega arith in ap (slice_get ss) e ∙ stands 0 s refl in
        let next : constants (take (suc k) ss) ≡ with_statement named s = ap constants (take_next ss k s here) ∙ fold-append with_statement [] (take k ss) (s ∷ []) in
        let rest : Each Q (flat_map shape_told (declarations_from (with_statement named s) sts)) = subst (λ named. Each Q (flat_map shape_told (declarations_from named sts))) next (from_here sts (suc k) (λ j x e. let same : suc k + j ≡ k + suc j = omega arith in ap (slice_get ss) same ∙ stands (suc j) x e)) in
        subst (Each Q) (sym (flat_map-append shape_told (in_form named (out-Form s.form)) (declarations_from (with_statement named s) sts)))
        (each_both Q (flat_map shape_told (in_form named (out-Form s.form))) (flat_map shape_told (declarations_from (with_statement named s) sts)) (form_told named (out-Form s.form) (each k s here)) rest)

    -- What holds of each declarator holds of what the unit tells of an array.
    pub shape_is : (name : Name) (shape : Shape) → what (shapes (declarations ss)) name ≡ Some shape → Q (name, shape)
    shape_is name shape h =
        what_each Q (shapes (declarations ss)) name shape
        (first_each Q (flat_map shape_told (declarations ss)) [] tt (from_here ss 0 (λ j s e. let same : 0 + j ≡ j = omega arith in ap (slice_get ss) same ∙ e))) h

-- ---- constant bounds

-- a dimension whose bounds are constant where it stands and in the whole unit
record Measured (named all : Told Value) (b : Option Expr × Option Expr) : Type 0 where
  size : ℕ
  some : 1 ≤ size
  here : extent named b ≡ Some size
  there : extent all b ≡ Some size

record Whole (named all : Told Value) (e : Expr) : Type 0 where
  number : ℤ
  here : whole (value_of named e) ≡ Some number
  there : whole (value_of all e) ≡ Some number

-- A span that isn't reversed has a place at least.
span_some : (low high : ℤ) → int_lt high low ≡ false → 1 ≤ span low high
span_some low high h = let forward : int_le low high ≡ true = grind (arith, ints, h) in subst (λ b. 1 ≤ (if b then unsigned_abs (high -ℤ low) + 1 else 0)) (sym forward) (omega arith)

product_some : (named all : Told Value) (bounds : Bounds) → Each (Measured named all) bounds → 1 ≤ total (map (extent_of all) bounds)
product_some named all [] h = omega arith
product_some named all (b ∷ bounds) h =
    let x : Measured named all b = h.0 in
    let size_is : x.size ≡ (extent_of all b).size = sym (ap (λ o. unwrap_or o 0) x.there) in
    let rest : 1 ≤ total (map (extent_of all) bounds) = product_some named all bounds h.1 in
    let more : x.size ≤ x.size * total (map (extent_of all) bounds) = le-mul_of_pos_right x.size rest in
    let one = x.some in
    subst (λ n. 1 ≤ n * total (map (extent_of all) bounds)) size_is (omega (arith, one, more))

multiplied : (named all : Told Value) (bounds : Bounds) (m : ℕ) → Each (Measured named all) bounds → fold (λ size bound. times size (extent named bound)) (Some m) bounds ≡ Some (m * total (map (extent_of all) bounds))
multiplied named all [] m h = let e : m ≡ m * 1 = omega arith in ap Some e
multiplied named all (b ∷ bounds) m h =
    let x : Measured named all b = h.0 in
    let n : ℕ = total (map (extent_of all) bounds) in
    let size_is : (extent_of all b).size ≡ x.size = ap (λ o. unwrap_or o 0) x.there in
    let same : (m * x.size) * n ≡ m * (x.size * n) = omega arith in
    ap (λ o. fold (λ size bound. times size (extent named bound)) (times (Some m) o) bounds) x.here
    ∙ (multiplied named all bounds (m * x.size) h.1 ∙ (ap Some same ∙ ap (λ size. Some (m * (size * n))) (sym size_is)))

module _ (f : Facts) (commons_at : Told Place) (d : Defined) (known : (name : Name) → is_among d.names name ≡ true → ConstantKnown f d.values name) (all : Told Value) (more : (name : Name) (v : Value) → what d.values name ≡ Some v → what all name ≡ Some v) where
  number_of : (o : Option Value) → HasValue (Some types.Integer) o → (n : ℤ) × (o ≡ Some (Integer n))
  number_of o v = go v.value v.is v.fits
    where
      go : (x : Value) → o ≡ Some x → differs (Some types.Integer) (Some (ty_of x)) ≡ false → (n : ℤ) × (o ≡ Some (Integer n))
      go (Integer n) e h = (n, e)
      go (Logical b) e h = cc

  constant_whole : (e : Expr) → is_no_constant d e ≡ false → is_mistyped f integers e ≡ false → has_wrong_exponent d.values e ≡ false → Whole d.values all e
  constant_whole e c t w =
      let v : HasValue (Some types.Integer) (value_of d.values e) = constant_value f d.values (is_among d.names) known e (Some types.Integer) t (not_false (is_constant d e) (or_left (not (is_constant d e)) _ c)) (or_right (not (is_constant d e)) _ c) w in
      let n = number_of (value_of d.values e) v in
      record { number = n.0; here = ap whole n.1; there = ap whole (value_stays d.values all more e (Integer n.0) n.1) }

  lower_whole : (e : Option Expr) → lower_lacks f commons_at d false e ≡ false → optional_breaks f f.constants Types integers e ≡ false → optional_breaks f d.values Exponents integers e ≡ false → (n : ℤ) × (lower d.values e ≡ Some n) × (lower all e ≡ Some n)
  lower_whole None c t w = (pos 1, refl, refl)
  lower_whole (Some e) c t w = let x = constant_whole e c t w in (x.number, x.here, x.there)

  upper_whole : (last : Bool) (e : Option Expr) → upper_lacks f commons_at d false last e ≡ false → optional_breaks f f.constants Types integers e ≡ false → optional_breaks f d.values Exponents integers e ≡ false → (n : ℤ) × (upper d.values e ≡ Some n) × (upper all e ≡ Some n)
  upper_whole last None c t w = cc
  upper_whole last (Some e) c t w = let x = constant_whole e c t w in (x.number, x.here, x.there)

  bound_measured : (last : Bool) (b : Option Expr × Option Expr) → bound_lacks f commons_at d false last b ≡ false → bound_breaks f f.constants Types b ≡ false → bound_breaks f d.values Exponents b ≡ false → Measured d.values all b
  bound_measured last b c t w =
      let low = lower_whole b.0 (or_left (lower_lacks f commons_at d false b.0) _ c) (or_left (optional_breaks f f.constants Types integers b.0) _ t) (or_left (optional_breaks f d.values Exponents integers b.0) _ w) in
      let high = upper_whole last b.1 (or_left (upper_lacks f commons_at d false last b.1) _ (or_right (lower_lacks f commons_at d false b.0) _ c)) (or_right (optional_breaks f f.constants Types integers b.0) _ t) (or_right (optional_breaks f d.values Exponents integers b.0) _ w) in
      let forward : reversed (lower d.values b.0) (upper d.values b.1) ≡ false = or_right (upper_lacks f commons_at d false last b.1) _ (or_right (lower_lacks f commons_at d false b.0) _ c) in
      record { size = span low.0 high.0; some = span_some low.0 high.0 (sym (λ i. reversed (low.1 i) (high.1 i)) ∙ forward); here = λ i. between (low.1 i) (high.1 i); there = λ i. between (low.2 i) (high.2 i) }

  all_measured : (bounds : Bounds) → bounds_lack f commons_at d false bounds ≡ false → list_any (bound_breaks f f.constants Types) bounds ≡ false → list_any (bound_breaks f d.values Exponents) bounds ≡ false → Each (Measured d.values all) bounds
  all_measured [] c t w = tt
  all_measured (b ∷ bounds) c t w = (
    bound_measured (length bounds == 0) b (or_left (bound_lacks f commons_at d false (length bounds == 0) b) _ c) (or_left (bound_breaks f f.constants Types b) _ t) (or_left (bound_breaks f d.values Exponents b) _ w),
    all_measured bounds (or_right (bound_lacks f commons_at d false (length bounds == 0) b) _ c) (or_right (bound_breaks f f.constants Types b) _ t) (or_right (bound_breaks f d.values Exponents b) _ w),
  )

  -- It has at least one element.
  pub holds_some : (bounds : Bounds) → bounds_lack f commons_at d false bounds ≡ false → list_any (bound_breaks f f.constants Types) bounds ≡ false → list_any (bound_breaks f d.values Exponents) bounds ≡ false → 1 ≤ total (map (extent_of all) bounds)
  holds_some bounds c t w = product_some d.values all bounds (all_measured bounds c t w)

  small : (n : ℕ) → nat_lt 16777216 n ≡ false → n ≤ unwrap_or (option_map saturated (Some n)) 0
  small n h = let l : n ≤ 16777216 = grind (arith, nat_tests) in omega (arith, l)

  -- An array that is no dummy has a storage unit for each element.
  pub holds_all : (bounds : Bounds) → bounds_lack f commons_at d false bounds ≡ false → list_any (bound_breaks f f.constants Types) bounds ≡ false → list_any (bound_breaks f d.values Exponents) bounds ≡ false
      → ((n : ℕ) → elements d.values bounds ≡ Some n → nat_lt 16777216 n ≡ false) → total (map (extent_of all) bounds) ≤ unwrap_or (option_map saturated (elements d.values bounds)) 0
  holds_all bounds c t w large =
      let n : ℕ = total (map (extent_of all) bounds) in
      let one : 1 * n ≡ n = omega arith in
      let size : elements d.values bounds ≡ Some n = multiplied d.values all bounds 1 (all_measured bounds c t w) ∙ ap Some one in
      subst (λ o. n ≤ unwrap_or (option_map saturated o) 0) (sym size) (small n (large n size))
