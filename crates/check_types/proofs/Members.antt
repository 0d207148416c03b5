-- What is found in a name with a list, by the members of the list.
use Rattle.std.proofs.Common.{◌≡◌, suc, Bool, None, List, [], ◌∷◌, length, map, ap, sym, ◌∙◌, refl}
use Rattle.std.specs.Prelude.{◌||◌}
use Rattle.std.specs.List.{list_any}
use Rattle.f77_tree.specs.declared.expr.Expr.{Expr, fold-roll-Expr}
use Rattle.f77_tree.specs.declared.expr.Expr.TheOpen.{Expr-F}
use Rattle.f77_tree.specs.declared.expr.Expr.TheVariants.{Apply, rolls-Apply}
use Rattle.f77_tree.specs.declared.unit.Value.{Value}
use Rattle.f77_names.specs.declared.facts.Facts.{Facts}
use Rattle.f77_values.specs.Tables.{Name, Told}
use Rattle.f77_names.specs.Roles.{type_of}
use Rattle.check_types.specs.declared.places.Place.{Place}
use Rattle.check_types.specs.declared.exponents.Reckoned.{Reckoned}
use Rattle.f77_names.specs.Standings.{standing_of, rank_of}
use Rattle.check_types.specs.Places.{wanted, member_place}
use Rattle.check_types.specs.WrongTypes.{differs, is_miscalled, mistyped_step, is_mistyped}
use Rattle.check_types.specs.Subscripts.{miscounts, miscounted_step, is_miscounted}
use Rattle.check_types.specs.Scalars.{misplaced_step, is_misplaced}
use Rattle.check_types.specs.Exponents.{reckoned_step, reckoned, has_wrong_exponent}

any-map : {A B : Type 0} (test : B → Bool) (g : A → B) (xs : List A) → list_any test (map g xs) ≡ list_any (λ x. test (g x)) xs
any-map test g [] = refl
any-map test g (x ∷ xs) = ap (λ b. test (g x) || b) (any-map test g xs)

length-map : {A B : Type 0} (g : A → B) (xs : List A) → length (map g xs) ≡ length xs
length-map g [] = refl
length-map g (x ∷ xs) = ap suc (length-map g xs)

abbrev at_places : (Place → Expr → Bool) → Expr → Place → Bool
at_places test e place = test place e

abbrev there : Place → (Place → Bool) → Bool
there place test = test place

pub mistyped-Apply : (f : Facts) (place : Place) (name : Name) (list : List Expr)
    → is_mistyped f place (Apply name list) ≡ (differs (wanted place) (type_of f name) || (is_miscalled (standing_of f name) name (length list) || list_any (is_mistyped f (member_place (standing_of f name))) list))
mistyped-Apply f place name list =
    ap (is_mistyped f place) (sym (rolls-Apply name list))
    ∙ (ap (λ (g : Place → Bool). g place) (fold-roll-Expr (Place → Bool) (mistyped_step f) (Expr-F.Apply name list))
    ∙ (ap (λ n. differs (wanted place) (type_of f name) || (is_miscalled (standing_of f name) name n || list_any (there (member_place (standing_of f name))) (map (at_places (is_mistyped f)) list))) (length-map (at_places (is_mistyped f)) list)
    ∙ ap (λ b. differs (wanted place) (type_of f name) || (is_miscalled (standing_of f name) name (length list) || b)) (any-map (there (member_place (standing_of f name))) (at_places (is_mistyped f)) list)))

pub miscounted-Apply : (f : Facts) (name : Name) (list : List Expr) → is_miscounted f (Apply name list) ≡ (miscounts (rank_of f name) (length list) || list_any (is_miscounted f) list)
miscounted-Apply f name list =
    ap (is_miscounted f) (sym (rolls-Apply name list))
    ∙ (fold-roll-Expr Bool (miscounted_step f) (Expr-F.Apply name list)
    ∙ (ap (λ n. miscounts (rank_of f name) n || list_any (λ (e : Bool). e) (map (is_miscounted f) list)) (length-map (is_miscounted f) list)
    ∙ ap (λ b. miscounts (rank_of f name) (length list) || b) (any-map (λ (e : Bool). e) (is_miscounted f) list)))

pub misplaced-Apply : (f : Facts) (place : Place) (name : Name) (list : List Expr)
    → is_misplaced f place (Apply name list) ≡ list_any (is_misplaced f (member_place (standing_of f name))) list
misplaced-Apply f place name list =
    ap (is_misplaced f place) (sym (rolls-Apply name list))
    ∙ (ap (λ (g : Place → Bool). g place) (fold-roll-Expr (Place → Bool) (misplaced_step f) (Expr-F.Apply name list))
    ∙ any-map (there (member_place (standing_of f name))) (at_places (is_misplaced f)) list)

pub reckoned-Apply : (named : Told Value) (name : Name) (list : List Expr) → reckoned named (Apply name list) ≡ record { value = None; wrong = list_any (has_wrong_exponent named) list }
reckoned-Apply named name list =
    ap (reckoned named) (sym (rolls-Apply name list))
    ∙ (fold-roll-Expr Reckoned (reckoned_step named) (Expr-F.Apply name list)
    ∙ (λ i. record { value = None; wrong = any-map (λ (e : Reckoned). e.wrong) (reckoned named) list i }))

pub ruleset members = (mistyped-Apply, miscounted-Apply, misplaced-Apply, reckoned-Apply)
