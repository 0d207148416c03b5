use Rattle.std.proofs.Common.{sym, ap, ◌∙◌, length, List}
use Rattle.f77_tree.specs.declared.unit.Stmt.{Stmt}
use Rattle.f77_flow.specs.Blocks as blocks
use Rattle.f77_semantics.specs.Source.{routine}
use Rattle.f77_meaning.proofs.Made.{lines_are, flows}
use Rattle.f77_meaning.proofs.procedures.procedure_of.Goals as goal

pub returns : goal.returns
returns c units h =
    let same = c.in_ok-control.ensures {u = tt} in
    c.with_routine.ensures units h (routine c.args.unit.now) (c.in_ok-routine.ensures {u = tt}) (flows c.args.unit.now _ same) (ap blocks.first (sym same)) (lines_are c.args.unit.now ∙ ap (λ (s : List Stmt). length s) (sym same))
