-- In a unit that passed its checks runs stay on places at which a step may begin.
use Rattle.std.proofs.Common.{◌≡◌, ℕ, zero, suc, ◌&&◌, List, [], ◌∷◌, ◌++◌, Option, None, Some, Bool, true, false, cond, refl, sym, ◌∙◌, ap, subst, length, slice_get, map, nat_lt, nat_eq, eqb-true}
use Rattle.std.specs.Prelude.{IsTrue}
use Rattle.run_model.specs.Acts.{Act, Done, Get, Put, Say, Take, Ask, Fail}
use Rattle.run_model.specs.Turns.{After, Again, Result}
use Rattle.f77_tree.specs.declared.form.Form.{Form, out-Form}
use Rattle.f77_tree.specs.declared.form.Form.TheOpen.{Form-F}
use Rattle.f77_tree.specs.declared.unit.Stmt.{Stmt}
use Rattle.f77_flow.specs.declared.kinds.Kind.TheVariants.{Declaration, Do}
use Rattle.f77_flow.specs.Kinds.{kind, kind_of, kind_at}
use Rattle.f77_flow.specs.Labels.{target, last_of, has_range}
use Rattle.f77_flow.specs.Blocks.{below}
use Rattle.f77_flow.specs.Graph.{Point, At, Inside, Test, Advance, ends_at, ending_in, advance_or, after, leaving, simple_ways, ways, inner_ways, follow}
use Rattle.f77_flow.specs.Checks.{PassedChecks, no_last}
use Rattle.f77_flow.proofs.Checked.{follow_nodes, first_node}
use Rattle.f77_semantics.specs.Statements.{Here, turn}
use Rattle.f77_semantics.specs.Source.{routine}
use Rattle.f77_semantics.specs.Goes.{Gives, IsOne, GoesTo, HasRange, IsLogicalIf, IsGuard, IsPlace, GoesToPlaces, StaysOnPlaces}
use Rattle.f77_semantics.proofs.Goes.{goes}

gives_weaker : {A : Type 0} → (P Q : A → Type 0) (a : Act A) → ((x : A) → P x → Q x) → Gives P a → Gives Q a
gives_weaker P Q (Done x) h g = h x g
gives_weaker P Q (Get l k) h g = λ v. gives_weaker P Q (k v) h (g v)
gives_weaker P Q (Put l v a) h g = gives_weaker P Q a h g
gives_weaker P Q (Say bs a) h g = gives_weaker P Q a h g
gives_weaker P Q (Take k) h g = λ x. gives_weaker P Q (k x) h (g x)
gives_weaker P Q (Ask s ds k) h g = λ r. gives_weaker P Q (k r) h (g r)
gives_weaker P Q (Fail e) h g = tt

module _ (u : List Stmt) where
  -- what is asked of places that are no statements
  abbrev Fits : Point → Type 0
  Fits (At k) = Unit {0}
  Fits (Inside k) = IsGuard u k
  Fits (Test d) = IsTrue (has_range u d)
  Fits (Advance d) = IsTrue (has_range u d)

  abbrev AllFit : List Point → Type 0
  AllFit [] = Unit {0}
  AllFit (p ∷ ps) = Fits p × AllFit ps

  pick : (ps : List Point) (way : ℕ) (q : Point) → slice_get ps way ≡ Some q → AllFit ps → Fits q
  pick [] way q e all = cc
  pick (p ∷ ps) zero q e all = let same : p ≡ q = cc in subst Fits same all.0
  pick (p ∷ ps) (suc way) q e all = pick ps way q e all.1

  both : (a b : Bool) → (a && b) ≡ true → (a ≡ true) × (b ≡ true)
  both true b e = (refl, e)
  both false b e = cc

  -- a DO that ends at a statement has a range
  ends_ranged : (k d : ℕ) → ends_at u k d ≡ true → IsTrue (has_range u d)
  ends_ranged k d e =
      let b : (nat_eq (last_of u d) k ≡ true) × (nat_lt k (length u) ≡ true) = both (nat_eq (last_of u d) k) (nat_lt k (length u)) e in
      subst (λ j. nat_lt j (length u) ≡ true) (sym (eqb-true (last_of u d) k b.0)) b.1

  advance_fits : (k j m : ℕ) → Fits (advance_or u (ending_in u k m) j)
  advance_fits k j zero = tt
  advance_fits k j (suc d) = go (ends_at u k d) refl (advance_fits k j d)
    where
      go : (b : Bool) → ends_at u k d ≡ b → Fits (advance_or u (ending_in u k d) j) → Fits (advance_or u (cond b (d ∷ ending_in u k d) (ending_in u k d)) j)
      go true e ih = ends_ranged k d e
      go false e ih = ih

  after_fits : (k : ℕ) → Fits (after u k)
  after_fits k = advance_fits k k (length u)

  leaving_fits : (d : ℕ) → Fits (leaving u d)
  leaving_fits d = advance_fits (last_of u d) (last_of u d) d

  tested_fits : (d : ℕ) → AllFit (follow u (Test d))
  tested_fits d = go (has_range u d)
    where
      go : (b : Bool) → AllFit (cond b (At (below u d) ∷ leaving u d ∷ []) [])
      go true = (tt, (leaving_fits d, tt))
      go false = tt

  targets_fit : (labels : List ℕ) (p : Point) → Fits p → AllFit (map (λ label. At (target u label)) labels ++ p ∷ [])
  targets_fit [] p h = (h, tt)
  targets_fit (l ∷ labels) p h = (tt, targets_fit labels p h)

  simple_fits : (k : ℕ) (form : Form-F Form) → AllFit (simple_ways u k form)
  simple_fits k (Form-F.Assign t e) = (after_fits k, tt)
  simple_fits k (Form-F.ArithmeticIf e a b c) = (tt, (tt, (tt, tt)))
  simple_fits k (Form-F.GoTo label) = (tt, tt)
  simple_fits k (Form-F.ComputedGoTo labels e) = targets_fit labels (after u k) (after_fits k)
  simple_fits k Form-F.Continue = (after_fits k, tt)
  simple_fits k (Form-F.Call name es) = (after_fits k, tt)
  simple_fits k (Form-F.Print es) = (after_fits k, tt)
  simple_fits k (Form-F.Read es) = (after_fits k, tt)
  simple_fits k form = tt

  module _ (checks : PassedChecks u) where
    do_fits : (k label : ℕ) → kind_at u k ≡ Do label → IsTrue (has_range u k)
    do_fits k label e = go (has_range u k) refl
      where
        go : (b : Bool) → has_range u k ≡ b → has_range u k ≡ true
        go true h = h
        go false h = absurd (checks.nests k (no_last label e (λ t. let no : false ≡ true = sym h ∙ t in cc)))

    ways_fit : (k : ℕ) (st : Stmt) → slice_get u k ≡ Some st → (form : Form-F Form) → out-Form st.form ≡ form → AllFit (ways u k form)
    ways_fit k st stands (Form-F.BlockIf e) is = (tt, (tt, tt))
    ways_fit k st stands (Form-F.ElseIf e) is = (tt, (tt, tt))
    ways_fit k st stands Form-F.EndIf is = (after_fits k, tt)
    ways_fit k st stands (Form-F.LogicalIf e i) is = (record { statement = st; stands = stands; guards = subst IsLogicalIf (sym is) tt }, (after_fits k, tt))
    ways_fit k st stands (Form-F.Do label name a b c) is = (do_fits k label (ap (λ o. elim o [ None ↦ Declaration | Some t ↦ kind t ]) stands ∙ ap kind_of is), tt)
    ways_fit k st stands form is = simple_fits k form

    follow_fits : (p : Point) → AllFit (follow u p)
    follow_fits (At k) = go (slice_get u k) refl
      where
        go : (o : Option Stmt) → slice_get u k ≡ o → AllFit (elim o [ None ↦ [] | Some st ↦ ways u k (out-Form st.form) ])
        go None e = tt
        go (Some st) e = ways_fit k st e (out-Form st.form) refl
    follow_fits (Inside k) = go (slice_get u k)
      where
        inner : (form : Form-F Form) → AllFit (inner_ways u k form)
        inner (Form-F.LogicalIf e i) = simple_fits k (out-Form i)
        inner form = tt

        go : (o : Option Stmt) → AllFit (elim o [ None ↦ [] | Some st ↦ inner_ways u k (out-Form st.form) ])
        go None = tt
        go (Some st) = inner (out-Form st.form)
    follow_fits (Test d) = tested_fits d
    follow_fits (Advance d) = tested_fits d

    place : (p q : Point) (way : ℕ) → slice_get (follow u p) way ≡ Some q → Fits q → IsPlace u q
    place p (At j) way e h = follow_nodes u checks p way j e
    place p (Inside k) way e h = h
    place p (Test d) way e h = h
    place p (Advance d) way e h = h

    goes_to_place : (p : Point) (a : After Here) → GoesTo (follow u p) a → GoesToPlaces u a
    goes_to_place p (Again s) one = place p s.point one.way one.is (pick (follow u p) one.way s.point one.is (follow_fits p))
    goes_to_place p (Result r) one = tt

pub follow_place : (u : List Stmt) → PassedChecks u → (p q : Point) → IsOne (follow u p) q → IsPlace u q
follow_place u checks p q one = place u checks p q one.way one.is (pick u (follow u p) one.way q one.is (follow_fits u checks p))

ranged : (u : List Stmt) (p : Point) → IsPlace u p → HasRange u p
ranged u (At k) h = tt
ranged u (Inside k) h = tt
ranged u (Test d) h = h
ranged u (Advance d) h = h

pub stays : StaysOnPlaces
stays = record {
  begins = λ u checks. first_node u.statements checks;
  goes = λ u checks f s h. gives_weaker (GoesTo (follow u.statements s.point)) (GoesToPlaces u.statements) (turn (routine u) f s) (goes_to_place u.statements checks s.point) (goes u f s (ranged u.statements s.point h));
}
