-- What a walk through two lists of steps makes, and that equal maps have equal lists.
use Rattle.std.specs.Prelude.{◌≡◌, Bool, true, false, not, ◌&&◌, IsTrue, List, [], ◌∷◌, Option, Some, None, refl, ◌⊎◌}
use Rattle.std.specs.declared.cmp.Ordering.{Ordering}
use Rattle.std.specs.declared.cmp.Ordering.TheVariants.{Less, Equal, Greater}
use Rattle.std.specs.Ordering.{is_lt, is_gt}
use Rattle.std.specs.Cmp.{signed_Decides}
use Rattle.std.proofs.Common.{ap, sym, cond, subst, ◌∙◌, inl, inr}
use Rattle.std.proofs.lemmas.Cmp.{tied_itself}
use Rattle.std.proofs.lemmas.Bool.{and_parts, and_from}
use Rattle.f77_tree.specs.declared.unit.Value.{Value}
use Rattle.f77_tree.specs.declared.unit.Value.TheVariants.{Integer, Logical}
use Rattle.f77_tree.specs.declared.unit.Item.{Item}
use Rattle.iv_set.specs.declared.bound.Bound.{Bound}
use Rattle.iv_set.specs.Toggles.{by_order}
use Rattle.iv_set.specs.ToggleLaws.{lt_is, gt_is, tested, less_turned, greater_turned}
use Rattle.iv_set.specs.Places.{cmp, total, exact, place_of, is_item, by_items}
use Rattle.item_maps.specs.declared.step.Step.{Step}
use Rattle.item_maps.specs.Steps.{same_truth, same_value, same, step, emit, value_in, begins_above, rises, changes, walk, at, get, made, IsSteps, over, where_second, unlike}

-- ---- values

truth_same : (a b : Bool) → same_truth a b ≡ true → a ≡ b
truth_same true true e = refl
truth_same true false e = absurd (cc)
truth_same false true e = absurd (cc)
truth_same false false e = refl

value_same : (v w : Value) → same_value v w ≡ true → v ≡ w
value_same (Integer m) (Integer n) e = ap Integer ((signed_Decides m n).0 e)
value_same (Integer m) (Logical b) e = absurd (cc)
value_same (Logical a) (Integer n) e = absurd (cc)
value_same (Logical a) (Logical b) e = ap Logical (truth_same a b e)

pub same_is : (v w : Option Value) → same v w ≡ true → v ≡ w
same_is None None e = refl
same_is None (Some w) e = absurd (cc)
same_is (Some v) None e = absurd (cc)
same_is (Some v) (Some w) e = ap Some (value_same v w e)

truth_itself : (a : Bool) → same_truth a a ≡ true
truth_itself true = refl
truth_itself false = refl

value_itself : (v : Value) → same_value v v ≡ true
value_itself (Integer m) = (signed_Decides m m).1 refl
value_itself (Logical a) = truth_itself a

pub same_itself : (v : Option Value) → same v v ≡ true
same_itself None = refl
same_itself (Some v) = value_itself v

denied : (b : Bool) {G : Type 0} → not b ≡ true → b ≡ true → G
denied true n e = absurd (cc)
denied false n e = absurd (cc)

picked : {L : Type 0} (Q : L → Type 0) {a b c : L} (r : Ordering) → (r ≡ Less → Q a) → (r ≡ Equal → Q b) → (r ≡ Greater → Q c) → Q (by_order r a b c)
picked Q Less f g h = f refl
picked Q Equal f g h = g refl
picked Q Greater f g h = h refl

emitted : (Q : List Step → Type 0) (s : Step) (rest : List Step) (b : Bool) → (b ≡ true → Q rest) → (b ≡ false → Q (s ∷ rest)) → Q (cond b rest (s ∷ rest))
emitted Q s rest true f g = f refl
emitted Q s rest false f g = g refl

-- ---- places

-- what is above q is above all that q is above
lower : (q p x : Bound) → cmp q p ≡ Less → is_gt (cmp q x) ≡ true → is_gt (cmp p x) ≡ true
lower q p x e g = ap is_gt (less_turned total x p (total.trans x q p (greater_turned total q x (gt_is (cmp q x) g)) e))

outside : (v : Option Value) (ss : List Step) (q x : Bound) → begins_above q ss ≡ true → is_gt (cmp q x) ≡ true → value_in v ss x ≡ v
outside v [] q x b g = refl
outside v (s ∷ ss) q x b g = ap (λ r. cond r v (value_in s.value ss x)) (lower q s.at x (lt_is (cmp q s.at) b) g)

at_start : (v : Option Value) (ss : List Step) (q : Bound) → begins_above q ss ≡ true → value_in v ss q ≡ v
at_start v [] q b = refl
at_start v (s ∷ ss) q b = ap (λ r. cond r v (value_in s.value ss q)) (ap is_gt (less_turned total q s.at (lt_is (cmp q s.at) b)))

further : (q p : Bound) (ss : List Step) → cmp q p ≡ Less → begins_above p ss ≡ true → begins_above q ss ≡ true
further q p [] e b = refl
further q p (x ∷ xs) e b = ap is_lt (total.trans q p x.at e (lt_is (cmp p x.at) b))

level : (q p : Bound) (ss : List Step) → cmp q p ≡ Equal → begins_above p ss ≡ true → begins_above q ss ≡ true
level q p [] e b = refl
level q p (x ∷ xs) e b = ap is_lt (total.congr q p x.at e) ∙ b

-- ---- one step

emit_above : (q p : Bound) (old new : Option Value) (rest : List Step) → is_lt (cmp q p) ≡ true → begins_above q rest ≡ true → begins_above q (emit p old new rest) ≡ true
emit_above q p old new rest h b = emitted (λ l. begins_above q l ≡ true) (step p new) rest (same old new) (λ e. b) (λ e. h)

emit_rises : (p : Bound) (old new : Option Value) (rest : List Step) → begins_above p rest ≡ true → rises rest ≡ true → rises (emit p old new rest) ≡ true
emit_rises p old new rest b r = emitted (λ l. rises l ≡ true) (step p new) rest (same old new) (λ e. r) (λ e. and_from _ _ b r)

emit_changes : (p : Bound) (old new : Option Value) (rest : List Step) → changes new rest ≡ true → changes old (emit p old new rest) ≡ true
emit_changes p old new rest h = emitted (λ l. changes old l ≡ true) (step p new) rest (same old new)
    (λ e. ap (λ v. changes v rest) (same_is old new e) ∙ h)
    (λ e. and_from _ _ (ap not e) h)

emit_value : (p : Bound) (old new : Option Value) (rest : List Step) (x : Bound) (v : Option Value) → begins_above p rest ≡ true → (is_gt (cmp p x) ≡ true → old ≡ v) → (is_gt (cmp p x) ≡ false → value_in new rest x ≡ v) → value_in old (emit p old new rest) x ≡ v
emit_value p old new rest x v b off on = emitted (λ l. value_in old l x ≡ v) (step p new) rest (same old new)
    (λ e. tested (is_gt (cmp p x))
    (λ g. outside old rest p x b g ∙ off g)
    (λ g. ap (λ u. value_in u rest x) (same_is old new e) ∙ on g))
    (λ e. tested (is_gt (cmp p x))
    (λ g. ap (λ r. cond r old (value_in new rest x)) g ∙ off g)
    (λ g. ap (λ r. cond r old (value_in new rest x)) g ∙ on g))

-- ---- the walk

module _ (f : Option Value → Option Value → Option Value) where
  walk_above : (q : Bound) (v w : Option Value) (xs ys : List Step) → begins_above q xs ≡ true → begins_above q ys ≡ true → rises xs ≡ true → rises ys ≡ true → begins_above q (walk f v w xs ys) ≡ true
  walk_above q v w [] [] bx by rx ry = refl
  walk_above q v w [] (y ∷ ys) bx by rx ry =
      let r = and_parts _ _ ry in
      emit_above q y.at (f v w) (f v y.value) (walk f v y.value [] ys) by (walk_above q v y.value [] ys refl (further q y.at ys (lt_is (cmp q y.at) by) r.0) refl r.1)
  walk_above q v w (x ∷ xs) [] bx by rx ry =
      let r = and_parts _ _ rx in
      emit_above q x.at (f v w) (f x.value w) (walk f x.value w xs []) bx (walk_above q x.value w xs [] (further q x.at xs (lt_is (cmp q x.at) bx) r.0) refl r.1 refl)
  walk_above q v w (x ∷ xs) (y ∷ ys) bx by rx ry =
      let r = and_parts _ _ rx in
      let k = and_parts _ _ ry in
      let x_on = further q x.at xs (lt_is (cmp q x.at) bx) r.0 in
      let y_on = further q y.at ys (lt_is (cmp q y.at) by) k.0 in
      picked (λ l. begins_above q l ≡ true) (cmp x.at y.at)
      (λ e. emit_above q x.at (f v w) (f x.value w) (walk f x.value w xs (y ∷ ys)) bx (walk_above q x.value w xs (y ∷ ys) x_on by r.1 ry))
      (λ e. emit_above q x.at (f v w) (f x.value y.value) (walk f x.value y.value xs ys) bx (walk_above q x.value y.value xs ys x_on y_on r.1 k.1))
      (λ e. emit_above q y.at (f v w) (f v y.value) (walk f v y.value (x ∷ xs) ys) by (walk_above q v y.value (x ∷ xs) ys bx y_on rx k.1))

  pub walk_rises : (v w : Option Value) (xs ys : List Step) → rises xs ≡ true → rises ys ≡ true → rises (walk f v w xs ys) ≡ true
  walk_rises v w [] [] rx ry = refl
  walk_rises v w [] (y ∷ ys) rx ry =
      let r = and_parts _ _ ry in
      emit_rises y.at (f v w) (f v y.value) (walk f v y.value [] ys) (walk_above y.at v y.value [] ys refl r.0 refl r.1) (walk_rises v y.value [] ys refl r.1)
  walk_rises v w (x ∷ xs) [] rx ry =
      let r = and_parts _ _ rx in
      emit_rises x.at (f v w) (f x.value w) (walk f x.value w xs []) (walk_above x.at x.value w xs [] r.0 refl r.1 refl) (walk_rises x.value w xs [] r.1 refl)
  walk_rises v w (x ∷ xs) (y ∷ ys) rx ry =
      let r = and_parts _ _ rx in
      let k = and_parts _ _ ry in
      picked (λ l. rises l ≡ true) (cmp x.at y.at)
      (λ e. emit_rises x.at (f v w) (f x.value w) (walk f x.value w xs (y ∷ ys)) (walk_above x.at x.value w xs (y ∷ ys) r.0 (ap is_lt e) r.1 ry) (walk_rises x.value w xs (y ∷ ys) r.1 ry))
      (λ e. emit_rises x.at (f v w) (f x.value y.value) (walk f x.value y.value xs ys) (walk_above x.at x.value y.value xs ys r.0 (level x.at y.at ys e k.0) r.1 k.1) (walk_rises x.value y.value xs ys r.1 k.1))
      (λ e. emit_rises y.at (f v w) (f v y.value) (walk f v y.value (x ∷ xs) ys) (walk_above y.at v y.value (x ∷ xs) ys (ap is_lt (greater_turned total x.at y.at e)) k.0 rx k.1) (walk_rises v y.value (x ∷ xs) ys rx k.1))

  pub walk_changes : (v w : Option Value) (xs ys : List Step) → changes (f v w) (walk f v w xs ys) ≡ true
  walk_changes v w [] [] = refl
  walk_changes v w [] (y ∷ ys) = emit_changes y.at (f v w) (f v y.value) (walk f v y.value [] ys) (walk_changes v y.value [] ys)
  walk_changes v w (x ∷ xs) [] = emit_changes x.at (f v w) (f x.value w) (walk f x.value w xs []) (walk_changes x.value w xs [])
  walk_changes v w (x ∷ xs) (y ∷ ys) = picked (λ l. changes (f v w) l ≡ true) (cmp x.at y.at)
      (λ e. emit_changes x.at (f v w) (f x.value w) (walk f x.value w xs (y ∷ ys)) (walk_changes x.value w xs (y ∷ ys)))
      (λ e. emit_changes x.at (f v w) (f x.value y.value) (walk f x.value y.value xs ys) (walk_changes x.value y.value xs ys))
      (λ e. emit_changes y.at (f v w) (f v y.value) (walk f v y.value (x ∷ xs) ys) (walk_changes v y.value (x ∷ xs) ys))

  -- a place has in what the walk makes the value that f says of the two
  pub walk_value : (v w : Option Value) (xs ys : List Step) (z : Bound) → rises xs ≡ true → rises ys ≡ true → value_in (f v w) (walk f v w xs ys) z ≡ f (value_in v xs z) (value_in w ys z)
  walk_value v w [] [] z rx ry = refl
  walk_value v w [] (y ∷ ys) z rx ry =
      let r = and_parts _ _ ry in
      emit_value y.at (f v w) (f v y.value) (walk f v y.value [] ys) z _ (walk_above y.at v y.value [] ys refl r.0 refl r.1)
      (λ g. ap (λ b. f v (cond b w (value_in y.value ys z))) (sym g))
      (λ g. walk_value v y.value [] ys z refl r.1 ∙ ap (λ b. f v (cond b w (value_in y.value ys z))) (sym g))
  walk_value v w (x ∷ xs) [] z rx ry =
      let r = and_parts _ _ rx in
      emit_value x.at (f v w) (f x.value w) (walk f x.value w xs []) z _ (walk_above x.at x.value w xs [] r.0 refl r.1 refl)
      (λ g. ap (λ b. f (cond b v (value_in x.value xs z)) w) (sym g))
      (λ g. walk_value x.value w xs [] z r.1 refl ∙ ap (λ b. f (cond b v (value_in x.value xs z)) w) (sym g))
  walk_value v w (x ∷ xs) (y ∷ ys) z rx ry =
      let r = and_parts _ _ rx in
      let k = and_parts _ _ ry in
      let first : (b : Bool) (u : Option Value) → is_gt (cmp x.at z) ≡ b → f (cond b v (value_in x.value xs z)) u ≡ f (value_in v (x ∷ xs) z) u = λ b u g. ap (λ b. f (cond b v (value_in x.value xs z)) u) (sym g) in
      let second : (b : Bool) (u : Option Value) → is_gt (cmp y.at z) ≡ b → f u (cond b w (value_in y.value ys z)) ≡ f u (value_in w (y ∷ ys) z) = λ b u g. ap (λ b. f u (cond b w (value_in y.value ys z))) (sym g) in
      picked (λ l. value_in (f v w) l z ≡ f (value_in v (x ∷ xs) z) (value_in w (y ∷ ys) z)) (cmp x.at y.at)
      (λ e. emit_value x.at (f v w) (f x.value w) (walk f x.value w xs (y ∷ ys)) z _ (walk_above x.at x.value w xs (y ∷ ys) r.0 (ap is_lt e) r.1 ry)
      (λ g. first true w g ∙ ap (f (value_in v (x ∷ xs) z)) (sym (outside w (y ∷ ys) x.at z (ap is_lt e) g)))
      (λ g. walk_value x.value w xs (y ∷ ys) z r.1 ry ∙ first false (value_in w (y ∷ ys) z) g))
      (λ e. emit_value x.at (f v w) (f x.value y.value) (walk f x.value y.value xs ys) z _ (walk_above x.at x.value y.value xs ys r.0 (level x.at y.at ys e k.0) r.1 k.1)
      (λ g. first true w g ∙ second true (value_in v (x ∷ xs) z) (sym (ap is_gt (total.congr x.at y.at z e)) ∙ g))
      (λ g. walk_value x.value y.value xs ys z r.1 k.1 ∙ first false (value_in y.value ys z) g ∙ second false (value_in v (x ∷ xs) z) (sym (ap is_gt (total.congr x.at y.at z e)) ∙ g)))
      (λ e. emit_value y.at (f v w) (f v y.value) (walk f v y.value (x ∷ xs) ys) z _ (walk_above y.at v y.value (x ∷ xs) ys (ap is_lt (greater_turned total x.at y.at e)) k.0 rx k.1)
      (λ g. second true v g ∙ ap (λ u. f u (value_in w (y ∷ ys) z)) (sym (outside v (x ∷ xs) y.at z (ap is_lt (greater_turned total x.at y.at e)) g)))
      (λ g. walk_value v y.value (x ∷ xs) ys z rx k.1 ∙ second false (value_in v (x ∷ xs) z) g))

-- ---- equal maps

pub begun : (v : Option Value) (s : Step) (ss : List Step) → begins_above s.at ss ≡ true → value_in v (s ∷ ss) s.at ≡ s.value
begun v s ss b = ap (λ r. cond (is_gt r) v (value_in s.value ss s.at)) (tied_itself total s.at) ∙ at_start s.value ss s.at b

apart : (v : Option Value) (s : Step) {G : Type 0} → not (same v s.value) ≡ true → v ≡ s.value → G
apart v s n e = denied (same v s.value) n (ap (λ w. same v w) (sym e) ∙ same_itself v)

step_is : (s t : Step) → s.at ≡ t.at → s.value ≡ t.value → s ≡ t
step_is s t e h = λ i. record { at = e i; value = h i }

same_lists : (v : Option Value) (ss ts : List Step) → rises ss ≡ true → rises ts ≡ true → changes v ss ≡ true → changes v ts ≡ true → ((x : Bound) → value_in v ss x ≡ value_in v ts x) → ss ≡ ts
same_lists v [] [] rs rt cs ct h = refl
same_lists v [] (t ∷ ts) rs rt cs ct h = apart v t (and_parts _ _ ct).0 (h t.at ∙ begun v t ts (and_parts _ _ rt).0)
same_lists v (s ∷ ss) [] rs rt cs ct h = apart v s (and_parts _ _ cs).0 (sym (h s.at) ∙ begun v s ss (and_parts _ _ rs).0)
same_lists v (s ∷ ss) (t ∷ ts) rs rt cs ct h =
    let r = and_parts _ _ rs in
    let k = and_parts _ _ rt in
    let c = and_parts _ _ cs in
    let d = and_parts _ _ ct in
    picked (λ (_ : List Step). s ∷ ss ≡ t ∷ ts) {a = ss} {b = ss} {c = ss} (cmp s.at t.at)
    (λ e. apart v s c.0 (sym (at_start v (t ∷ ts) s.at (ap is_lt e)) ∙ sym (h s.at) ∙ begun v s ss r.0))
    (λ e.
    let place : s.at ≡ t.at = exact s.at t.at e in
    let value : s.value ≡ t.value = sym (begun v s ss r.0) ∙ h s.at ∙ ap (value_in v (t ∷ ts)) place ∙ begun v t ts k.0 in
    let tails : (x : Bound) → value_in s.value ss x ≡ value_in s.value ts x = λ x.
    let alike : is_gt (cmp s.at x) ≡ is_gt (cmp t.at x) = ap is_gt (total.congr s.at t.at x e) in
    tested (is_gt (cmp s.at x))
    (λ g. outside s.value ss s.at x r.0 g ∙ sym (outside s.value ts t.at x k.0 (sym alike ∙ g)))
    (λ g. ap (λ b. cond b v (value_in s.value ss x)) (sym g) ∙ h x ∙ ap (λ b. cond b v (value_in t.value ts x)) (sym alike ∙ g) ∙ ap (λ u. value_in u ts x) (sym value)) in
    ap (λ z. z ∷ ss) (step_is s t place value) ∙ ap (λ zs. t ∷ zs) (same_lists s.value ss ts r.1 k.1 c.1 (ap (λ u. changes u ts) value ∙ d.1) tails))
    (λ e. apart v t d.0 (sym (at_start v (s ∷ ss) t.at (ap is_lt (greater_turned total s.at t.at e))) ∙ h t.at ∙ begun v t ts k.0))

-- maps with the same value at each item are the same
pub same_maps : (ss ts : List Step) → IsSteps ss → IsSteps ts → ((i : Item) → get ss i ≡ get ts i) → ss ≡ ts
same_maps ss ts one other h = same_lists None ss ts one.rising other.rising one.changing other.changing (by_items (λ p. at ss p ≡ at ts p) h)

-- ---- how two maps make a third: no value comes from nowhere

abbrev pub HasValue : Option Value → Type 0
HasValue v = (x : Value) × v ≡ Some x

pub record IsRule (f : Option Value → Option Value → Option Value) : Type 0 where
  pub nowhere : f None None ≡ None
  pub somewhere : (v w : Option Value) (u : Value) → f v w ≡ Some u → HasValue v ⊎ HasValue w

over_somewhere : (v w : Option Value) (u : Value) → over v w ≡ Some u → HasValue v ⊎ HasValue w
over_somewhere v None u e = inl (u, e)
over_somewhere v (Some w) u e = inr (w, refl)

pub over_rule : IsRule over
over_rule = record { nowhere = refl; somewhere = over_somewhere }

where_somewhere : (v w : Option Value) (u : Value) → where_second v w ≡ Some u → HasValue v ⊎ HasValue w
where_somewhere v None u e = absurd (cc)
where_somewhere v (Some w) u e = inr (w, refl)

pub where_rule : IsRule where_second
where_rule = record { nowhere = refl; somewhere = where_somewhere }

none_or : (b : Bool) (v : Option Value) (u : Value) → cond b None v ≡ Some u → v ≡ Some u
none_or true v u e = absurd (cc)
none_or false v u e = e

pub unlike_rule : IsRule unlike
unlike_rule = record { nowhere = refl; somewhere = λ v w u e. inl (u, none_or (same v w) v u e) }

module _ {f : Option Value → Option Value → Option Value} (rule : IsRule f) {ss ts : List Step} (one : IsSteps ss) (other : IsSteps ts) where
  pub made_value : (p : Bound) → at (made f ss ts) p ≡ f (at ss p) (at ts p)
  made_value p = ap (λ v. value_in v (made f ss ts) p) (sym rule.nowhere) ∙ walk_value f None None ss ts p one.rising other.rising

  pub made_steps : IsSteps (made f ss ts)
  made_steps = record {
    rising = walk_rises f None None ss ts one.rising other.rising;
    changing = ap (λ v. changes v (made f ss ts)) (sym rule.nowhere) ∙ walk_changes f None None ss ts;
    items = λ p u h. elim (rule.somewhere (at ss p) (at ts p) u (sym (made_value p) ∙ h)) [
      | inl first ↦ one.items p first.0 first.1
      | inr second ↦ other.items p second.0 second.1
    ];
  }

pub empty_steps : IsSteps []
empty_steps = record { rising = refl; changing = refl; items = λ p v h. absurd (cc) }
