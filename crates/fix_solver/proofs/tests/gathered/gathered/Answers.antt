use Rattle.std.proofs.Common.{◌≡◌, ℕ, ◌<◌, length, slice_index_or, take, arith}
use Rattle.std.proofs.lemmas.List.{get_or_read, take_more}
use Rattle.std.proofs.lemmas.List.Elements.{All-nil, All-push}
use Rattle.fix_solver.proofs.Gathered.{gathering_starts, gathering_more}
use Rattle.fix_solver.proofs.tests.gathered.gathered.Goals as goal

pub loop-source-init : goal.loop-source-init
loop-source-init g c = record {
  in_range = omega arith;
  gathered = gathering_starts g.met.L.Lattice.order c.args.own c.requires.value _;
  values = All-nil _;
}

-- the next source's value is joined
pub loop-source-preserved : goal.loop-source-preserved
loop-source-preserved g c =
    let order = g.met.L.Lattice.order in
    let so_far = c.loop-source.invariant in
    let i = c.loop-source.source-index in
    let sources = c.args.sources.now in
    let source = slice_index_or sources i 0 in
    let within : source < length c.args.values.now = c.requires.inside i 0 c.loop-source-test.true in
    let item = get_or_read c.args.values.now source c.index-values-source.result within c.index-values-source.is c.args.own in
    let at = λ (m : ℕ). slice_index_or c.args.values.now m c.args.own in
    record {
      in_range = omega arith;
      gathered = rw (take_more sources i 0 c.loop-source-test.true)
          (gathering_more order c.args.own c.requires.value at (take i sources) source c.loop-source.all c.join.new.self so_far.gathered so_far.values (rw item at c.in_ok-join.ensures.joins));
      values = rw (take_more sources i 0 c.loop-source-test.true) (All-push (λ m. g.L.Lattice.is_value (at m)) (take i sources) source so_far.values (rw item at c.in_ok-join.ensures.second));
    }
