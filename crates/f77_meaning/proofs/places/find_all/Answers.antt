use Rattle.std.proofs.Common.{ℕ, [], ◌∷◌, ◌++◌, ap, ◌∙◌, arith}
use Rattle.f77_meaning.specs.Places.{find_of}
use Rattle.f77_meaning.proofs.Placing.{each_found}
use Rattle.f77_meaning.proofs.places.find_all.Goals as goal

pub loop-name-preserved : goal.loop-name-preserved
loop-name-preserved c units h =
    each_found (find_of units c.args.main) c.as_slice-name-items.result.now c.loop-name.name-index c.name-item.result c.loop-name.all.items c.push.new.self.items (omega arith) c.name-item.is (c.in_ok-push.ensures.items ∙ ap (λ (k : ℕ). c.loop-name.all.items ++ k ∷ []) (c.find.ensures units h)) (c.loop-name.invariant units h)
