use Rattle.std.proofs.Common.{List, ap, ◌∙◌, flat_map, arith}
use Rattle.interp_cells.specs.Cells.{cells_of}
use Rattle.interp_data.specs.declared.spans.Span.{Span}
use Rattle.interp_data.specs.Spans.{units_of}
use Rattle.f77_meaning.specs.Given.{given_over}
use Rattle.f77_meaning.proofs.Giving.{one_span, no_span_left}
use Rattle.f77_meaning.proofs.start.give_spans.Goals as goal

pub loop-k-preserved : goal.loop-k-preserved
loop-k-preserved c =
    one_span c.args.name.now c.as_slice-all.result.now c.loop-k.k c.index-all-k.result (cells_of c.loop-k.cells) (cells_of c.give_span.new.cells) _ (omega arith) (omega arith) c.index-all-k.is (c.in_ok-give_span.ensures {u = tt}) c.loop-k.invariant

pub returns : goal.returns
returns c =
    no_span_left c.args.name.now c.as_slice-all.result.now c.loop-k.k (cells_of c.loop-k.cells) _ (omega arith) c.loop-k.invariant
    ∙ ap (λ (rs : List Span). given_over c.args.name.now (flat_map units_of rs) (cells_of c.args.cells.now)) c.as_slice-all.ensures
