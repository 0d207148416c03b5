use Rattle.std.proofs.Common.{List, take}
use Rattle.std.specs.List.{All, AllZip}
use Rattle.thin_form.specs.Forms.{IsItemOf}
use Rattle.thin_form.specs.Programs.{IsItem}
use Rattle.thin_form.proofs.forms.items.Given as goal

abbrev pub invariant-loop-tree : goal.invariant-loop-tree
invariant-loop-tree l = record {
  items : AllZip IsItemOf (take l.tree-index l.trees) l.all;
  plain : All IsItem l.all;
}
