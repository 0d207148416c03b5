use Rattle.std.proofs.Common.{◌≡◌, ◌+◌, ◌∷◌, [], ◌++◌, ◌||◌, take, drop, sym, ap, ◌∙◌, subst}
use Rattle.std.proofs.lemmas.List.{take_more, drop_more}
use Rattle.check_data.specs.DataTwice as t
use Rattle.check_data.specs.Seen as s
use Rattle.check_data.proofs.Givings.{twice_more, tells_more}
use Rattle.check_data.proofs.given.meet_all.Goals as goal

pub loop-g-preserved : goal.loop-g-preserved
loop-g-preserved c =
    let items = c.as_slice-g-items.result.now in
    let i = c.loop-g.g-index in
    let g = c.g-item.result in
    let front : take (i + 1) items ≡ take i items ++ g ∷ [] = take_more items i g c.loop-g-test.true ∙ ap (λ x. take i items ++ x ∷ []) (sym c.g-item.is) in
    let rest : drop i items ≡ g ∷ drop (i + 1) items = drop_more items i g c.loop-g-test.true ∙ ap (λ x. x ∷ drop (i + 1) items) (sym c.g-item.is) in
    record {
      twice = λ before known.
          ap (λ xs. (c.loop-g.twice || c.in_ok-met.met) || t.given_twice (before ++ xs) (drop (i + 1) items)) front
          ∙ twice_more before (take i items) (drop (i + 1) items) g c.loop-g.twice c.in_ok-met.met (t.given_twice before items) (c.in_ok-met.ensures.met ∙ c.loop-g.invariant.tells before known g)
          (ap (λ xs. c.loop-g.twice || t.given_twice (before ++ take i items) xs) (sym rest) ∙ c.loop-g.invariant.twice before known);
      tells = λ before known.
          subst (λ xs. s.Tells c.meet.new.seen (before ++ xs)) (sym front)
          (tells_more before (take i items) g c.loop-g.seen c.meet.new.seen (c.loop-g.invariant.tells before known) c.in_ok-met.ensures.adds);
    }
