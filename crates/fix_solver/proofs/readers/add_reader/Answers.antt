use Rattle.std.proofs.Common.{ℕ, ◌<◌, ◌++◌, ◌∷◌, [], Vec, take, length, slice_index_or, ◌∙◌, ap, arith}
use Rattle.std.specs.declared.alloc.Global.{Global}
use Rattle.std.proofs.lemmas.List.{take_more, get_or_read}
use Rattle.fix_solver.proofs.Reading.{adds_more}
use Rattle.fix_solver.proofs.readers.add_reader.Goals as goal

-- the node comes last in its source's list
pub loop-source-preserved : goal.loop-source-preserved
loop-source-preserved c =
    let i = c.loop-source.source-index in
    let sources = c.args.sources.now in
    let added = c.loop-source.invariant.added in
    let within : slice_index_or sources i 0 < length c.args.readers.now.items = c.requires i 0 c.loop-source-test.true in
    let here : slice_index_or sources i 0 < length c.loop-source.readers.items = omega (arith, added.whole, within) in
    record {
      in_range = omega arith;
      added = rw (take_more sources i 0 c.loop-source-test.true)
          (adds_more (λ (list : Vec ℕ Global). list.items) c.args.node (take i sources) (slice_index_or sources i 0) _ _ c.push.new.self added within
          (λ d. c.in_ok-push.ensures.items ∙ ap (λ (v : Vec ℕ Global). v.items ++ c.args.node ∷ []) (get_or_read _ _ _ here c.index_mut.ensures.value d)));
    }
