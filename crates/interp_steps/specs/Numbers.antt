-- Lists of so many numbers.
use Rattle.std.specs.Prelude.{List, [], ◌∷◌, ℤ}
use Rattle.run_model.specs.Acts.{Act, Done, Fail, Stuck}

abbrev pub one : List ℤ → Act ℤ
one (x ∷ []) = Done x
one _ = Fail Stuck

abbrev pub two : List ℤ → Act (ℤ × ℤ)
two (x ∷ y ∷ []) = Done (x, y)
two _ = Fail Stuck
