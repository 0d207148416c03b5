-- Names that are found equal are the same.
use Rattle.std.proofs.Common.{◌≡◌, [], ◌∷◌, Bool, true, false, ◌&&◌, nat_eq, refl}
use Rattle.std.proofs.lemmas.Bool.{eqb-true, false≢true}
use Rattle.f77_values.specs.Tables.{Name, name_eq}

both : (a b : Bool) → (a && b) ≡ true → (a ≡ true) × (b ≡ true)
both true b h = (refl, h)
both false b h = absurd (false≢true h)

pub same_name : (v w : Name) → name_eq v w ≡ true → v ≡ w
same_name [] [] h = refl
same_name [] (y ∷ w) h = absurd (false≢true h)
same_name (x ∷ v) [] h = absurd (false≢true h)
same_name (x ∷ v) (y ∷ w) h = let t = both (nat_eq x y) (name_eq v w) h in λ i. eqb-true x y t.0 i ∷ same_name v w t.1 i
