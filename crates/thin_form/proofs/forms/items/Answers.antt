use Rattle.std.proofs.Common.{List, ◌++◌, ◌∷◌, [], refl, sym, subst, take, ◌+◌}
use Rattle.std.specs.List.{All, AllZip}
use Rattle.std.proofs.lemmas.List.Elements.{All-push}
use Rattle.thin_form.specs.declared.statement.Item.{Item}
use Rattle.thin_form.specs.Forms.{IsItemOf}
use Rattle.thin_form.specs.Programs.{IsItem}
use Rattle.thin_form.proofs.Zips.{no_zip, zip_more, zip_whole}
use Rattle.thin_form.proofs.forms.items.Goals as goal

pub returns-in_default-clause-items : goal.returns-in_default-clause-items
returns-in_default-clause-items c =
    no_zip IsItemOf c.args.trees.now c.loop-tree.tree-index c.tree-item.result c.loop-tree-test.true c.tree-item.is (rw c.in_default.is at (c.in_ok-item.ensures {u = tt}).item)

pub loop-tree-preserved : goal.loop-tree-preserved
loop-tree-preserved c =
    let some = rw c.in-Some.is at (c.in_ok-item.ensures {u = tt}).item in
    let plain = rw c.in-Some.is at (c.in_ok-item.ensures {u = tt}).plain in
    let pushed = c.in_ok-push.ensures.ok in
    record {
      items = subst (λ (all : List Item). AllZip IsItemOf (take (c.loop-tree.tree-index + 1) c.args.trees.now) all) (sym pushed)
          (zip_more IsItemOf c.args.trees.now c.loop-tree.tree-index c.tree-item.result c.loop-tree.all c.in-Some.item c.loop-tree-test.true c.tree-item.is c.loop-tree.invariant.items some);
      plain = subst (All IsItem) (sym pushed) (All-push IsItem c.loop-tree.all c.in-Some.item c.loop-tree.invariant.plain plain);
    }

pub returns-clause-items : goal.returns-clause-items
returns-clause-items c = zip_whole IsItemOf c.args.trees.now c.loop-tree.tree-index c.loop-tree.all c.loop-tree-test.false c.loop-tree.invariant.items
