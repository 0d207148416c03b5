-- The order of pairs: each part below the other's.
use Rattle.std.specs.Prelude.{Bool, ◌&&◌}
use Rattle.std.proofs.Common.{ap, ◌∙◌}
use Rattle.std.proofs.lemmas.Bool.{and_parts, and_from}
use Rattle.rn_lattice.specs.Order.{IsOrderFrom, IsGreatest}
use Rattle.rn_lattice.specs.declared.pair.Pair.{Pair}

abbrev pub PairIsValue : {A B : Type 0} → (A → Type 0) → (B → Type 0) → Pair A B → Type 0
PairIsValue first_is_value second_is_value x = first_is_value x.first × second_is_value x.second

abbrev pub pair_leq : {A B : Type 0} → (A → A → Bool) → (B → B → Bool) → Pair A B → Pair A B → Bool
pair_leq first_leq second_leq x y = first_leq x.first y.first && second_leq x.second y.second

abbrev pub pair_of : {A B : Type 0} → A → B → Pair A B
pair_of a b = record { first = a; second = b }

module _ {A B : Type 0} {v : A → Type 0} {w : B → Type 0} {p : A → A → Bool} {q : B → B → Bool} where
  pub pair_order : {a : A} {b : B} → IsOrderFrom v p a → IsOrderFrom w q b → IsOrderFrom (PairIsValue v w) (pair_leq p q) (pair_of a b)
  pair_order f s = record {
    reflexive = λ x h. and_from _ _ (f.reflexive x.first h.0) (s.reflexive x.second h.1);
    transitive = λ x y z hx hy hz xy yz.
        let l = and_parts _ _ xy in
        let r = and_parts _ _ yz in
        and_from _ _ (f.transitive _ _ _ hx.0 hy.0 hz.0 l.0 r.0) (s.transitive _ _ _ hx.1 hy.1 hz.1 l.1 r.1);
    antisymmetric = λ x y hx hy xy yx.
        let l = and_parts _ _ xy in
        let r = and_parts _ _ yx in
        ap (λ a. pair_of a x.second) (f.antisymmetric _ _ hx.0 hy.0 l.0 r.0) ∙ ap (pair_of y.first) (s.antisymmetric _ _ hx.1 hy.1 l.1 r.1);
    bottom_value = (f.bottom_value, s.bottom_value);
    bottom_least = λ x h. and_from _ _ (f.bottom_least _ h.0) (s.bottom_least _ h.1);
  }

  pub pair_greatest : {a : A} {b : B} → IsGreatest v p a → IsGreatest w q b → IsGreatest (PairIsValue v w) (pair_leq p q) (pair_of a b)
  pair_greatest f s = record {
    top_value = (f.top_value, s.top_value);
    top_greatest = λ x h. and_from _ _ (f.top_greatest _ h.0) (s.top_greatest _ h.1);
  }
