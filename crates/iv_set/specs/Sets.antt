-- Sets of items: what is a member, inclusion, and that inclusion is an order with unions as joins.
use Rattle.std.specs.Prelude.{◌≡◌, Bool, true, false, not, IsTrue, List, [], ◌∷◌, refl}
use Rattle.std.proofs.Common.{ap, sym, ◌∙◌}
use Rattle.f77_tree.specs.declared.unit.Item.{Item}
use Rattle.rn_lattice.specs.Order.{IsOrderFrom, IsJoin}
use Rattle.iv_set.specs.declared.bound.Bound.{Bound}
use Rattle.iv_set.specs.Toggles.{after, rises, walk, is_empty, either, both, first_alone}
use Rattle.iv_set.specs.ToggleLaws.{walk_rises, walk_after, same_lists}
use Rattle.iv_set.specs.Places.{cmp, total, exact, place_of, is_item, by_items}

abbrev pub has : List Bound → Bound → Bool
has = after cmp false

-- whether the item is a member
abbrev pub has_item : List Bound → Item → Bool
has_item ps i = has ps (place_of i)

abbrev pub made : (Bool → Bool → Bool) → List Bound → List Bound → List Bound
made f = walk cmp f false false

-- whether each member of the first is one of the second
abbrev pub leq : List Bound → List Bound → Bool
leq ps qs = is_empty (made first_alone ps qs)

-- whether the two have a member in common
abbrev pub meets : List Bound → List Bound → Bool
meets ps qs = not (is_empty (made both ps qs))

-- the ends of runs rise, so no two runs touch; and nothing is a member but items
pub record IsSet (ps : List Bound) : Type 0 where
  pub rising : IsTrue (rises cmp ps)
  pub items : (p : Bound) → IsTrue (has ps p) → IsTrue (is_item p)

-- how two sets make a third: no member comes from nowhere
pub record IsRule (f : Bool → Bool → Bool) : Type 0 where
  pub nowhere : f false false ≡ false
  pub somewhere : (s t : Bool) → f s t ≡ true → either s t ≡ true

pub either_rule : IsRule either
either_rule = record { nowhere = refl; somewhere = λ s t e. e }

both_somewhere : (s t : Bool) → both s t ≡ true → either s t ≡ true
both_somewhere true t e = refl
both_somewhere false t e = absurd (cc)

pub both_rule : IsRule both
both_rule = record { nowhere = refl; somewhere = both_somewhere }

alone_somewhere : (s t : Bool) → first_alone s t ≡ true → either s t ≡ true
alone_somewhere true t e = refl
alone_somewhere false t e = absurd (cc)

pub alone_rule : IsRule first_alone
alone_rule = record { nowhere = refl; somewhere = alone_somewhere }

one_of : (s t : Bool) {G : Type 0} → either s t ≡ true → (s ≡ true → G) → (t ≡ true → G) → G
one_of true t e f g = f refl
one_of false t e f g = g e

module _ {f : Bool → Bool → Bool} (rule : IsRule f) {ps qs : List Bound} (one : IsSet ps) (other : IsSet qs) where
  pub made_has : (p : Bound) → has (made f ps qs) p ≡ f (has ps p) (has qs p)
  made_has p = ap (λ s. after cmp s (made f ps qs) p) (sym rule.nowhere) ∙ walk_after total f false false ps qs p one.rising other.rising

  pub made_set : IsSet (made f ps qs)
  made_set = record {
    rising = walk_rises total f false false ps qs one.rising other.rising;
    items = λ p h. one_of (has ps p) (has qs p) (rule.somewhere (has ps p) (has qs p) (sym (made_has p) ∙ h)) (one.items p) (other.items p);
  }

  pub made_none : ((p : Bound) → f (has ps p) (has qs p) ≡ false) → made f ps qs ≡ []
  made_none h = same_lists total exact false (made f ps qs) [] made_set.rising refl (λ p. made_has p ∙ h p)

-- sets with the same members are the same
pub same_sets : (ps qs : List Bound) → IsSet ps → IsSet qs → ((i : Item) → has_item ps i ≡ has_item qs i) → ps ≡ qs
same_sets ps qs one other h = same_lists total exact false ps qs one.rising other.rising (by_items (λ p. has ps p ≡ has qs p) h)

pub none_is : (ps : List Bound) → is_empty ps ≡ true → ps ≡ []
none_is [] e = refl
none_is (p ∷ ps) e = absurd (cc)

not_alone : (a b : Bool) → false ≡ first_alone a b → a ≡ true → b ≡ true
not_alone true true e h = refl
not_alone true false e h = absurd (cc)
not_alone false b e h = absurd (cc)

implied : (a b : Bool) → (a ≡ true → b ≡ true) → first_alone a b ≡ false
implied true b h = ap not (h refl)
implied false b h = refl

module _ {ps qs : List Bound} (one : IsSet ps) (other : IsSet qs) where
  pub inside : IsTrue (leq ps qs) → (p : Bound) → IsTrue (has ps p) → IsTrue (has qs p)
  inside e p = not_alone (has ps p) (has qs p) (sym (ap (λ l. has l p) (none_is (made first_alone ps qs) e)) ∙ made_has alone_rule one other p)

  pub inside_from : ((p : Bound) → IsTrue (has ps p) → IsTrue (has qs p)) → IsTrue (leq ps qs)
  inside_from h = ap is_empty (made_none alone_rule one other (λ p. implied (has ps p) (has qs p) (h p)))

  pub inside_from_items : ((i : Item) → IsTrue (has_item ps i) → IsTrue (has_item qs i)) → IsTrue (leq ps qs)
  inside_from_items h = inside_from (by_items (λ p. IsTrue (has ps p) → IsTrue (has qs p)) h)

pub empty_set : IsSet []
empty_set = record { rising = refl; items = λ p h. absurd (cc) }

alike : (a b : Bool) → (a ≡ true → b ≡ true) → (b ≡ true → a ≡ true) → a ≡ b
alike true b f g = sym (f refl)
alike false true f g = g refl
alike false false f g = refl

pub set_order : IsOrderFrom IsSet leq []
set_order = record {
  reflexive = λ x h. inside_from h h (λ p e. e);
  transitive = λ x y z hx hy hz xy yz. inside_from hx hz (λ p e. inside hy hz yz p (inside hx hy xy p e));
  antisymmetric = λ x y hx hy xy yx. same_sets x y hx hy (λ i. alike (has_item x i) (has_item y i) (inside hx hy xy (place_of i)) (inside hy hx yx (place_of i)));
  bottom_value = empty_set;
  bottom_least = λ x h. inside_from empty_set h (λ p e. absurd (cc));
}

either_first : (s t : Bool) → s ≡ true → either s t ≡ true
either_first true t e = refl
either_first false t e = absurd (cc)

either_second : (s t : Bool) → t ≡ true → either s t ≡ true
either_second true t e = refl
either_second false t e = e

module _ {ps qs : List Bound} (one : IsSet ps) (other : IsSet qs) where
  -- the union is the least set with the members of both
  pub union_joins : IsJoin IsSet leq ps qs (made either ps qs)
  union_joins =
      let both_in = made_set either_rule one other in
      record {
        value = both_in;
        above_first = inside_from one both_in (λ p e. made_has either_rule one other p ∙ either_first (has ps p) (has qs p) e);
        above_second = inside_from other both_in (λ p e. made_has either_rule one other p ∙ either_second (has ps p) (has qs p) e);
        least = λ w hw pw qw. inside_from both_in hw (λ p e. one_of (has ps p) (has qs p) (sym (made_has either_rule one other p) ∙ e) (inside one hw pw p) (inside other hw qw p));
      }

  -- where the second lies in the first, the first is the union
  pub first_joins : IsTrue (leq qs ps) → IsJoin IsSet leq ps qs ps
  first_joins e = record {
    value = one;
    above_first = inside_from one one (λ p h. h);
    above_second = e;
    least = λ w hw pw qw. pw;
  }

  -- the union lies in the first set where the second does
  pub union_rises : leq (made either ps qs) ps ≡ leq qs ps
  union_rises =
      let both_in = made_set either_rule one other in
      alike (leq (made either ps qs) ps) (leq qs ps)
      (λ e. inside_from other one (λ p h. inside both_in one e p (made_has either_rule one other p ∙ either_second (has ps p) (has qs p) h)))
      (λ e. inside_from both_in one (λ p h. one_of (has ps p) (has qs p) (sym (made_has either_rule one other p) ∙ h) (λ k. k) (inside other one e p)))
