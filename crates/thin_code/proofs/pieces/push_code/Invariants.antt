use Rattle.std.proofs.Common.{◌≡◌, ◌++◌, drop}
use Rattle.thin_code.specs.Code.{InRanges, bytes_of}
use Rattle.thin_code.proofs.pieces.push_code.Given as goal

-- what is still to come makes of the code so far what is wanted
abbrev pub invariant-loop-inst : goal.invariant-loop-inst
invariant-loop-inst l = record {
  bytes : l.code.items ++ bytes_of (drop l.inst-index l.insts) ≡ l.initial.code.items ++ bytes_of l.insts;
  range : InRanges (drop l.inst-index l.insts);
}
