use Rattle.std.proofs.Common.{ℕ, ◌≤◌, Vec, take, length}
use Rattle.std.specs.declared.alloc.Global.{Global}
use Rattle.fix_solver.specs.Adding.{AddsReader}
use Rattle.fix_solver.proofs.readers.add_reader.Given as goal

-- the sources so far have the node among their readers
abbrev pub invariant-loop-source : goal.invariant-loop-source
invariant-loop-source l = record {
  in_range : l.source-index ≤ length l.sources;
  added : AddsReader (λ (list : Vec ℕ Global). list.items) l.node (take l.source-index l.sources) l.initial.readers.items l.readers.items;
}
