-- How far elements are behind the first one, with numbers that stand still at the greatest.
use Rattle.std.proofs.Common.{◌≡◌, ℕ, zero, suc, ◌+◌, ◌-◌, ◌*◌, ◌<◌, ◌≤◌, ◌⊎◌, inl, inr, Option, Some, None, option_map, List, [], ◌∷◌, length, drop, get_or, min, refl, ap, ap₂, sym, ◌∙◌, arith}
use Rattle.std.proofs.Math.Nat.{le-mul_of_pos_right, mul_comm, zero-mul}
use Rattle.std.proofs.lemmas.Bool.{cases_lt}
use Rattle.std.proofs.lemmas.List.{drop_more}
use Rattle.f77_tree.specs.declared.expr.Expr.{Expr}
use Rattle.f77_tree.specs.declared.unit.Value.{Value}
use Rattle.f77_values.specs.Tables.{Told, saturated, most}
use Rattle.f77_values.specs.Sizes.{Bounds, extent}
use Rattle.check_common.specs.declared.places.Start.{Start}
use Rattle.check_common.specs.declared.runs.Run.{Run}
use Rattle.check_common.specs.Storage.{steps_in, joined, offset, run_from, element_run}

-- ---- numbers

large : (e k : ℕ) → 0 < e → most ≤ k → most ≤ e * k
large e k h l = let p : k ≤ k * e = le-mul_of_pos_right {m = e} k h in let q = mul_comm e k in omega (arith, p, q, l)

pub step_saturated : (i e k others product : ℕ) → others ≡ saturated k → product ≡ e * others → min (i + product) most ≡ min (i + e * k) most
step_saturated i e k others product o p = go (cases_lt k most) (cases_lt 0 e)
  where
    go : (k < most) ⊎ (most ≤ k) → (0 < e) ⊎ (e ≤ 0) → min (i + product) most ≡ min (i + e * k) most
    go (inl h) z = ap (λ x. min (i + x) most) (p ∙ ap (λ x. e * x) (let s : others ≡ k = omega (arith, o, h) in s))
    go (inr h) (inl z) =
        let s : others ≡ most = omega (arith, o, h) in
        let a : most ≤ e * others = large e others z (omega (arith, s)) in
        let b : most ≤ e * k = large e k z h in
        let c : most ≤ product = omega (arith, a, p) in
        omega (arith, c, b)
    go (inr h) (inr z) =
        let s : e ≡ 0 = omega (arith, z) in
        ap (λ x. min (i + x) most) (p ∙ (ap (λ x. x * others) s ∙ (zero-mul others ∙ (sym (zero-mul k) ∙ sym (ap (λ x. x * k) s)))))

same_some : (m n : ℕ) → Some m ≡ Some n → m ≡ n
same_some m n e = cc

some_none : (m : ℕ) → Some m ≡ None → ⊥
some_none m e = cc

-- one subscript more
joined_more : (i e rest result : Option ℕ) (found : ℕ) → Some found ≡ option_map saturated rest → ((k : ℕ) → found ≡ saturated k → result ≡ option_map saturated (joined i e (Some k)))
    → result ≡ option_map saturated (joined i e rest)
joined_more i e None result found h f = absurd (some_none found h)
joined_more i e (Some k) result found h f = f k (same_some found (saturated k) h)

-- ---- subscripts

none_joined : (i e : Option ℕ) → joined i e None ≡ None
none_joined (Some i) (Some e) = refl
none_joined (Some i) None = refl
none_joined None e = refl

none_of : (x : Option ℕ) → None ≡ option_map saturated x → x ≡ None
none_of None h = refl
none_of (Some n) h = absurd (some_none (saturated n) (sym h))

module _ (all named : Told Value) where
  offset_at : (bounds : Bounds) (list : List Expr) (k : ℕ) (bound : Option Expr × Option Expr) (e : Expr) → k < length bounds → k < length list → bound ≡ get_or bounds k bound → e ≡ get_or list k e
      → offset all named (drop k bounds) (drop k list) ≡ joined (steps_in all named bound e) (extent all bound) (offset all named (drop (k + 1) bounds) (drop (k + 1) list))
  offset_at bounds list k bound e h l f g =
      ap₂ (offset all named) (drop_more bounds k bound h ∙ ap (λ x. x ∷ drop (k + 1) bounds) (sym f)) (drop_more list k e l ∙ ap (λ x. x ∷ drop (k + 1) list) (sym g))

  -- Where there is none from one on, there is none at all.
  none_all : (k : ℕ) (bounds : Bounds) (list : List Expr) → k < length bounds → k < length list → offset all named (drop k bounds) (drop k list) ≡ None → offset all named bounds list ≡ None
  none_all zero bounds list h l e = e
  none_all (suc k) [] list h l e = absurd (omega arith)
  none_all (suc k) (bound ∷ bounds) [] h l e = absurd (omega arith)
  none_all (suc k) (bound ∷ bounds) (n ∷ list) h l e =
      ap (joined (steps_in all named bound n) (extent all bound)) (none_all k bounds list (omega arith) (omega arith) e) ∙ none_joined (steps_in all named bound n) (extent all bound)

  pub unlike : (bounds : Bounds) (list : List Expr) → (length bounds ≡ length list → ⊥) → offset all named bounds list ≡ None
  unlike [] [] h = absurd (h refl)
  unlike [] (n ∷ list) h = refl
  unlike (bound ∷ bounds) [] h = refl
  unlike (bound ∷ bounds) (n ∷ list) h = ap (joined (steps_in all named bound n) (extent all bound)) (unlike bounds list (λ e. h (ap suc e))) ∙ none_joined (steps_in all named bound n) (extent all bound)

  pub found_more : (bounds : Bounds) (list : List Expr) (k : ℕ) (bound : Option Expr × Option Expr) (n : Expr) (i e result : Option ℕ) (found : ℕ)
      → 0 < k → k ≤ length bounds → length bounds ≡ length list → bound ≡ get_or bounds (k - 1) bound → n ≡ get_or list (k - 1) n
      → i ≡ steps_in all named bound n → e ≡ extent all bound
      → Some found ≡ option_map saturated (offset all named (drop k bounds) (drop k list)) → ((j : ℕ) → found ≡ saturated j → result ≡ option_map saturated (joined i e (Some j)))
      → result ≡ option_map saturated (offset all named (drop (k - 1) bounds) (drop (k - 1) list))
  found_more bounds list k bound n i e result found p l same x y h g v f =
      let m : k - 1 + 1 ≡ k = omega (arith, p) in
      let b : k - 1 < length bounds = omega (arith, p, l) in
      let c : k - 1 < length list = omega (arith, b, same) in
      let whole = offset_at bounds list (k - 1) bound n b c x y in
      joined_more i e (offset all named (drop k bounds) (drop k list)) result found v f
      ∙ (ap (option_map saturated) (ap₂ (λ q r. joined q r (offset all named (drop k bounds) (drop k list))) h g
      ∙ ap (λ q. joined (steps_in all named bound n) (extent all bound) (offset all named (drop q bounds) (drop q list))) (sym m))
      ∙ sym (ap (option_map saturated) whole))

  pub lacks : (bounds : Bounds) (list : List Expr) (k : ℕ) (result : Option ℕ) → 0 < k → k ≤ length bounds → length bounds ≡ length list → result ≡ None
      → result ≡ option_map saturated (offset all named (drop (k - 1) bounds) (drop (k - 1) list)) → None ≡ option_map saturated (offset all named bounds list)
  lacks bounds list k result p l same n h =
      let b : k - 1 < length bounds = omega (arith, p, l) in
      sym (ap (option_map saturated) (none_all (k - 1) bounds list b (omega (arith, b, same)) (none_of (offset all named (drop (k - 1) bounds) (drop (k - 1) list)) (sym n ∙ h))))

-- ---- the run of an element

pub element_some : (start : Start) (offset from : ℕ) (k : Option ℕ) (run : Run) → Some offset ≡ option_map saturated k → from ≡ start.from + offset → run ≡ run_from start.block from 1 → Some run ≡ element_run (Some start) k
element_some start offset from None run h f r = absurd (some_none offset h)
element_some start offset from (Some k) run h f r =
    ap Some (r ∙ ap (λ n. run_from start.block n 1) (f ∙ ap (λ n. start.from + n) (same_some offset (saturated k) h)))

pub element_none : (start : Start) (k : Option ℕ) → None ≡ option_map saturated k → None ≡ element_run (Some start) k
element_none start None h = refl
element_none start (Some k) h = absurd (some_none (saturated k) (sym h))

pub ruleset element_runs = (element_some, element_none)
