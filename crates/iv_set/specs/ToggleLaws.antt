-- What a walk through two rising lists makes, and that equal sets have equal lists.
use Rattle.std.specs.Prelude.{◌≡◌, Bool, true, false, not, List, [], ◌∷◌, refl}
use Rattle.std.specs.Cmp.{IsTotalOrder}
use Rattle.std.specs.declared.cmp.Ordering.{Ordering}
use Rattle.std.specs.declared.cmp.Ordering.TheVariants.{Less, Equal, Greater}
use Rattle.std.specs.Ordering.{is_lt, is_gt, ordering_reverse}
use Rattle.std.proofs.Common.{ap, sym, cond, ◌∙◌}
use Rattle.std.proofs.lemmas.Cmp.{tied_itself}
use Rattle.std.proofs.lemmas.Bool.{and_parts, and_from}
use Rattle.std.proofs.lemmas.Map.Lookups.{CmpEqualImpliesEq}
use Rattle.iv_set.specs.Toggles.{emit, by_order, after, begins_above, rises, walk}

pub gt_is : (r : Ordering) → is_gt r ≡ true → r ≡ Greater
gt_is Less e = absurd (cc)
gt_is Equal e = absurd (cc)
gt_is Greater e = refl

pub lt_is : (r : Ordering) → is_lt r ≡ true → r ≡ Less
lt_is Less e = refl
lt_is Equal e = absurd (cc)
lt_is Greater e = absurd (cc)

picked : {L : Type 0} (Q : L → Type 0) {a b c : L} (r : Ordering) → (r ≡ Less → Q a) → (r ≡ Equal → Q b) → (r ≡ Greater → Q c) → Q (by_order r a b c)
picked Q Less f g h = f refl
picked Q Equal f g h = g refl
picked Q Greater f g h = h refl

pub tested : (b : Bool) {G : Type 0} → (b ≡ true → G) → (b ≡ false → G) → G
tested true f g = f refl
tested false f g = g refl

not_itself : (s : Bool) {G : Type 0} → s ≡ not s → G
not_itself true e = absurd (cc)
not_itself false e = absurd (cc)

module _ {P : Type 0} {cmp : P → P → Ordering} (o : IsTotalOrder cmp) where
  pub less_turned : (x y : P) → cmp x y ≡ Less → cmp y x ≡ Greater
  less_turned x y e = o.antisymm y x ∙ ap ordering_reverse e

  pub greater_turned : (x y : P) → cmp x y ≡ Greater → cmp y x ≡ Less
  greater_turned x y e = o.antisymm y x ∙ ap ordering_reverse e

  -- what is above q is above all that q is above
  lower : (q p x : P) → cmp q p ≡ Less → is_gt (cmp q x) ≡ true → is_gt (cmp p x) ≡ true
  lower q p x e g = ap is_gt (less_turned x p (o.trans x q p (greater_turned q x (gt_is (cmp q x) g)) e))

  pub outside : (s : Bool) (ps : List P) (q x : P) → begins_above cmp q ps ≡ true → is_gt (cmp q x) ≡ true → after cmp s ps x ≡ s
  outside s [] q x b g = refl
  outside s (p ∷ ps) q x b g = ap (λ r. cond r s (after cmp (not s) ps x)) (lower q p x (lt_is (cmp q p) b) g)

  pub at_start : (s : Bool) (ps : List P) (q : P) → begins_above cmp q ps ≡ true → after cmp s ps q ≡ s
  at_start s [] q b = refl
  at_start s (p ∷ ps) q b = ap (λ r. cond r s (after cmp (not s) ps q)) (ap is_gt (less_turned q p (lt_is (cmp q p) b)))

  further : (q p : P) (ps : List P) → cmp q p ≡ Less → begins_above cmp p ps ≡ true → begins_above cmp q ps ≡ true
  further q p [] e b = refl
  further q p (x ∷ xs) e b = ap is_lt (o.trans q p x e (lt_is (cmp p x) b))

  level : (q p : P) (ps : List P) → cmp q p ≡ Equal → begins_above cmp p ps ≡ true → begins_above cmp q ps ≡ true
  level q p [] e b = refl
  level q p (x ∷ xs) e b = ap is_lt (o.congr q p x e) ∙ b

  -- ---- one point

  emit_above : (q p : P) (old new : Bool) (rest : List P) → is_lt (cmp q p) ≡ true → begins_above cmp q rest ≡ true → begins_above cmp q (emit p old new rest) ≡ true
  emit_above q p true true rest h b = b
  emit_above q p true false rest h b = h
  emit_above q p false true rest h b = h
  emit_above q p false false rest h b = b

  emit_rises : (p : P) (old new : Bool) (rest : List P) → begins_above cmp p rest ≡ true → rises cmp rest ≡ true → rises cmp (emit p old new rest) ≡ true
  emit_rises p true true rest b r = r
  emit_rises p true false rest b r = and_from _ _ b r
  emit_rises p false true rest b r = and_from _ _ b r
  emit_rises p false false rest b r = r

  emit_on : (p : P) (old new : Bool) (rest : List P) (x : P) → is_gt (cmp p x) ≡ false → after cmp old (emit p old new rest) x ≡ after cmp new rest x
  emit_on p true true rest x g = refl
  emit_on p true false rest x g = ap (λ r. cond r true (after cmp false rest x)) g
  emit_on p false true rest x g = ap (λ r. cond r false (after cmp true rest x)) g
  emit_on p false false rest x g = refl

  emit_off : (p : P) (old new : Bool) (rest : List P) (x : P) → begins_above cmp p rest ≡ true → is_gt (cmp p x) ≡ true → after cmp old (emit p old new rest) x ≡ old
  emit_off p true true rest x b g = outside true rest p x b g
  emit_off p true false rest x b g = ap (λ r. cond r true (after cmp false rest x)) g
  emit_off p false true rest x b g = ap (λ r. cond r false (after cmp true rest x)) g
  emit_off p false false rest x b g = outside false rest p x b g

  emit_after : (p : P) (old new : Bool) (rest : List P) (x : P) (v : Bool) → begins_above cmp p rest ≡ true → (is_gt (cmp p x) ≡ true → old ≡ v) → (is_gt (cmp p x) ≡ false → after cmp new rest x ≡ v) → after cmp old (emit p old new rest) x ≡ v
  emit_after p old new rest x v b off on = tested (is_gt (cmp p x))
      (λ g. emit_off p old new rest x b g ∙ off g)
      (λ g. emit_on p old new rest x g ∙ on g)

  -- ---- the walk

  module _ (f : Bool → Bool → Bool) where
    walk_above : (q : P) (s t : Bool) (xs ys : List P) → begins_above cmp q xs ≡ true → begins_above cmp q ys ≡ true → rises cmp xs ≡ true → rises cmp ys ≡ true → begins_above cmp q (walk cmp f s t xs ys) ≡ true
    walk_above q s t [] [] bx by rx ry = refl
    walk_above q s t [] (y ∷ ys) bx by rx ry =
        let r = and_parts _ _ ry in
        emit_above q y _ _ _ by (walk_above q s (not t) [] ys refl (further q y ys (lt_is (cmp q y) by) r.0) refl r.1)
    walk_above q s t (x ∷ xs) [] bx by rx ry =
        let r = and_parts _ _ rx in
        emit_above q x _ _ _ bx (walk_above q (not s) t xs [] (further q x xs (lt_is (cmp q x) bx) r.0) refl r.1 refl)
    walk_above q s t (x ∷ xs) (y ∷ ys) bx by rx ry =
        let r = and_parts _ _ rx in
        let k = and_parts _ _ ry in
        let x_on = further q x xs (lt_is (cmp q x) bx) r.0 in
        let y_on = further q y ys (lt_is (cmp q y) by) k.0 in
        picked (λ l. begins_above cmp q l ≡ true) (cmp x y)
        (λ e. emit_above q x _ _ _ bx (walk_above q (not s) t xs (y ∷ ys) x_on by r.1 ry))
        (λ e. emit_above q x _ _ _ bx (walk_above q (not s) (not t) xs ys x_on y_on r.1 k.1))
        (λ e. emit_above q y _ _ _ by (walk_above q s (not t) (x ∷ xs) ys bx y_on rx k.1))

    pub walk_rises : (s t : Bool) (xs ys : List P) → rises cmp xs ≡ true → rises cmp ys ≡ true → rises cmp (walk cmp f s t xs ys) ≡ true
    walk_rises s t [] [] rx ry = refl
    walk_rises s t [] (y ∷ ys) rx ry =
        let r = and_parts _ _ ry in
        emit_rises y _ _ _ (walk_above y s (not t) [] ys refl r.0 refl r.1) (walk_rises s (not t) [] ys refl r.1)
    walk_rises s t (x ∷ xs) [] rx ry =
        let r = and_parts _ _ rx in
        emit_rises x _ _ _ (walk_above x (not s) t xs [] r.0 refl r.1 refl) (walk_rises (not s) t xs [] r.1 refl)
    walk_rises s t (x ∷ xs) (y ∷ ys) rx ry =
        let r = and_parts _ _ rx in
        let k = and_parts _ _ ry in
        picked (λ l. rises cmp l ≡ true) (cmp x y)
        (λ e. emit_rises x _ _ _ (walk_above x (not s) t xs (y ∷ ys) r.0 (ap is_lt e) r.1 ry) (walk_rises (not s) t xs (y ∷ ys) r.1 ry))
        (λ e. emit_rises x _ _ _ (walk_above x (not s) (not t) xs ys r.0 (level x y ys e k.0) r.1 k.1) (walk_rises (not s) (not t) xs ys r.1 k.1))
        (λ e. emit_rises y _ _ _ (walk_above y s (not t) (x ∷ xs) ys (ap is_lt (greater_turned x y e)) k.0 rx k.1) (walk_rises s (not t) (x ∷ xs) ys rx k.1))

    -- a point is a member of what the walk makes as f says of the two
    pub walk_after : (s t : Bool) (xs ys : List P) (z : P) → rises cmp xs ≡ true → rises cmp ys ≡ true → after cmp (f s t) (walk cmp f s t xs ys) z ≡ f (after cmp s xs z) (after cmp t ys z)
    walk_after s t [] [] z rx ry = refl
    walk_after s t [] (y ∷ ys) z rx ry =
        let r = and_parts _ _ ry in
        emit_after y _ _ _ z _ (walk_above y s (not t) [] ys refl r.0 refl r.1)
        (λ g. ap (λ b. f s (cond b t (after cmp (not t) ys z))) (sym g))
        (λ g. walk_after s (not t) [] ys z refl r.1 ∙ ap (λ b. f s (cond b t (after cmp (not t) ys z))) (sym g))
    walk_after s t (x ∷ xs) [] z rx ry =
        let r = and_parts _ _ rx in
        emit_after x _ _ _ z _ (walk_above x (not s) t xs [] r.0 refl r.1 refl)
        (λ g. ap (λ b. f (cond b s (after cmp (not s) xs z)) t) (sym g))
        (λ g. walk_after (not s) t xs [] z r.1 refl ∙ ap (λ b. f (cond b s (after cmp (not s) xs z)) t) (sym g))
    walk_after s t (x ∷ xs) (y ∷ ys) z rx ry =
        let r = and_parts _ _ rx in
        let k = and_parts _ _ ry in
        let first : (b : Bool) (v : Bool) → is_gt (cmp x z) ≡ b → f (cond b s (after cmp (not s) xs z)) v ≡ f (after cmp s (x ∷ xs) z) v = λ b v g. ap (λ b. f (cond b s (after cmp (not s) xs z)) v) (sym g) in
        let second : (b : Bool) (v : Bool) → is_gt (cmp y z) ≡ b → f v (cond b t (after cmp (not t) ys z)) ≡ f v (after cmp t (y ∷ ys) z) = λ b v g. ap (λ b. f v (cond b t (after cmp (not t) ys z))) (sym g) in
        picked (λ l. after cmp (f s t) l z ≡ f (after cmp s (x ∷ xs) z) (after cmp t (y ∷ ys) z)) (cmp x y)
        (λ e. emit_after x _ _ _ z _ (walk_above x (not s) t xs (y ∷ ys) r.0 (ap is_lt e) r.1 ry)
        (λ g. first true t g ∙ ap (f (after cmp s (x ∷ xs) z)) (sym (outside t (y ∷ ys) x z (ap is_lt e) g)))
        (λ g. walk_after (not s) t xs (y ∷ ys) z r.1 ry ∙ first false (after cmp t (y ∷ ys) z) g))
        (λ e. emit_after x _ _ _ z _ (walk_above x (not s) (not t) xs ys r.0 (level x y ys e k.0) r.1 k.1)
        (λ g. first true t g ∙ second true (after cmp s (x ∷ xs) z) (sym (ap is_gt (o.congr x y z e)) ∙ g))
        (λ g. walk_after (not s) (not t) xs ys z r.1 k.1 ∙ first false (after cmp (not t) ys z) g ∙ second false (after cmp s (x ∷ xs) z) (sym (ap is_gt (o.congr x y z e)) ∙ g)))
        (λ e. emit_after y _ _ _ z _ (walk_above y s (not t) (x ∷ xs) ys (ap is_lt (greater_turned x y e)) k.0 rx k.1)
        (λ g. second true s g ∙ ap (λ v. f v (after cmp t (y ∷ ys) z)) (sym (outside s (x ∷ xs) y z (ap is_lt (greater_turned x y e)) g)))
        (λ g. walk_after s (not t) (x ∷ xs) ys z rx k.1 ∙ second false (after cmp s (x ∷ xs) z) g))

  -- ---- equal sets

  pub begun : (s : Bool) (p : P) (ps : List P) → begins_above cmp p ps ≡ true → after cmp s (p ∷ ps) p ≡ not s
  begun s p ps b = ap (λ r. cond (is_gt r) s (after cmp (not s) ps p)) (tied_itself o p) ∙ at_start (not s) ps p b

  pub same_lists : CmpEqualImpliesEq cmp → (s : Bool) (ps qs : List P) → rises cmp ps ≡ true → rises cmp qs ≡ true → ((x : P) → after cmp s ps x ≡ after cmp s qs x) → ps ≡ qs
  same_lists exact s [] [] rp rq h = refl
  same_lists exact s [] (q ∷ qs) rp rq h = not_itself s (h q ∙ begun s q qs (and_parts _ _ rq).0)
  same_lists exact s (p ∷ ps) [] rp rq h = not_itself s (sym (h p) ∙ begun s p ps (and_parts _ _ rp).0)
  same_lists exact s (p ∷ ps) (q ∷ qs) rp rq h =
      let r = and_parts _ _ rp in
      let k = and_parts _ _ rq in
      picked (λ (_ : List P). p ∷ ps ≡ q ∷ qs) {a = ps} {b = ps} {c = ps} (cmp p q)
      (λ e. not_itself s (sym (at_start s (q ∷ qs) p (ap is_lt e)) ∙ sym (h p) ∙ begun s p ps r.0))
      (λ e.
      let tails : (x : P) → after cmp (not s) ps x ≡ after cmp (not s) qs x = λ x.
      let alike : is_gt (cmp p x) ≡ is_gt (cmp q x) = ap is_gt (o.congr p q x e) in
      tested (is_gt (cmp p x))
      (λ g. outside (not s) ps p x r.0 g ∙ sym (outside (not s) qs q x k.0 (sym alike ∙ g)))
      (λ g. ap (λ b. cond b s (after cmp (not s) ps x)) (sym g) ∙ h x ∙ ap (λ b. cond b s (after cmp (not s) qs x)) (sym alike ∙ g)) in
      ap (λ z. z ∷ ps) (exact p q e) ∙ ap (λ zs. q ∷ zs) (same_lists exact (not s) ps qs r.1 k.1 tails))
      (λ e. not_itself s (sym (at_start s (p ∷ ps) q (ap is_lt (greater_turned p q e))) ∙ h q ∙ begun s q qs k.0))
