use Rattle.f77_expr.proofs.Depths.{deepest-drop}
use Rattle.f77_expr.proofs.Public.{one_tree, one_settled, one_list, one_items}
use Rattle.f77_expr.proofs.Shorter.{reads_shorter}
use Rattle.f77_expr.proofs.readings.readings_law.Goals as goal

pub returns-clause-tree : goal.returns-clause-tree
returns-clause-tree c = one_tree

pub returns-clause-settled : goal.returns-clause-settled
returns-clause-settled c = one_settled

pub returns-clause-list : goal.returns-clause-list
returns-clause-list c = one_list

pub returns-clause-items : goal.returns-clause-items
returns-clause-items c = one_items

pub returns-clause-taken : goal.returns-clause-taken
returns-clause-taken c = λ ts s x d. reads_shorter d

pub returns-clause-depth : goal.returns-clause-depth
returns-clause-depth c = deepest-drop
